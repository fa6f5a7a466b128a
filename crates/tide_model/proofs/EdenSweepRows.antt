-- A cell that an Eden cycle freed, whose block is swept in a running part, is born again: it is live and not old.
use Rattle.std.specs.Prelude.{◌≡◌, refl, true, false, List, [], ◌∷◌, ◌++◌}
use Rattle.std.proofs.Common.{arith, lit<}
use Rattle.tide_model.specs.declared.op.Op.TheVariants.{Alloc, Drop}
use Rattle.tide_model.specs.declared.op.Reply.TheVariants.{Done, Born}
use Rattle.tide_model.specs.declared.entry.Entry.TheVariants.{Call, Begin, Pause, End, Taken, Sweep}
use Rattle.tide_model.specs.declared.entry.Event.{Event}
use Rattle.tide_model.specs.Cycle.{StandsBegin, StandsEnd, StandsTaken, dead_cell}
use Rattle.tide_model.specs.Graph.{is_further}
use Rattle.tide_model.specs.History.{plain, state_after}
use Rattle.tide_model.specs.Old.{is_old, spared_count}
use Rattle.tide_model.specs.Rows.{small}
use Rattle.tide_model.specs.State.{free, live}
use Rattle.tide_model.proofs.PeriodTests.{IsSwept-tested}

-- of two cells the first Eden cycle frees the one that was dropped
abbrev one_freed : List Event
one_freed =
    plain (Call 0 (Alloc 0 0) (Born 0)) ∷ plain (Call 0 (Alloc 1 0) (Born 1)) ∷ plain (Call 0 (Drop 1) Done)
    ∷ plain (Begin 1 false) ∷ plain (Pause 1) ∷ plain (End 1 (1 ∷ [])) ∷ []

-- its block is taken, and swept, and then the cell is born once more and both are dropped
abbrev taken : List Event
taken = one_freed ++ plain (Taken 0) ∷ []

abbrev swept : List Event
swept = taken ++ plain (Sweep 0) ∷ []

abbrev born_again : List Event
born_again = swept ++ plain (Call 0 (Alloc 1 0) (Born 1)) ∷ plain (Call 0 (Drop 0) Done) ∷ plain (Call 0 (Drop 1) Done) ∷ []

-- and the next Eden cycle marks
abbrev in_next : List Event
in_next = born_again ++ plain (Begin 2 false) ∷ plain (Pause 1) ∷ []

-- the block may be taken once
pub block_is_taken : StandsTaken small one_freed 0
block_is_taken = record { is_idle = refl; has_dead = dead_cell 1 (lit< tt) refl refl; is_first = λ was. omega (arith, was) }

-- no cycle begins until it is swept, not even an Eden one
pub begins_untaken : StandsBegin small one_freed 2 → ⊥
begins_untaken begins = begins.is_swept 0 (dead_cell 1 (lit< tt) refl refl)

pub begins_taken : StandsBegin small taken 2 → ⊥
begins_taken begins = begins.is_swept 0 (dead_cell 1 (lit< tt) refl refl)

pub begins_swept : StandsBegin small swept 2
begins_swept = record { is_idle = refl; is_swept = IsSwept-tested small swept refl; is_next = refl }

-- the first cell is old before and after, and the second never is
pub born_again_is_not_old :
    (is_old small one_freed 0 ≡ true) × (is_old small one_freed 1 ≡ false)
    × (is_old small in_next 0 ≡ true) × (is_old small in_next 1 ≡ false)
    × (((state_after small swept).cells 1).status ≡ free) × (((state_after small in_next).cells 1).status ≡ live)
    × (spared_count small in_next ≡ 1)
born_again_is_not_old = (refl, refl, refl, refl, refl, refl, refl)

-- so the cycle may not free the first, though nothing holds it either
pub old_is_not_freed : StandsEnd small in_next 2 (0 ∷ 1 ∷ []) → ⊥
old_is_not_freed stands = stands.frees 0 refl (is_further 0 refl)
