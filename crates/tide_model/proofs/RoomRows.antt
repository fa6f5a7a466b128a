-- When an allocation may be refused for room while what is dead waits for its sweep, worked out by hand.
use Rattle.std.specs.Prelude.{ℕ, zero, suc, ◌≡◌, ◌≤◌, ◌==◌, refl, Bool, true, false, List, [], ◌∷◌, ◌++◌, take}
use Rattle.std.proofs.Common.{arith, lit<, lit≤, subst}
use Rattle.tide_model.specs.declared.op.Op.TheVariants.{Alloc, Drop}
use Rattle.tide_model.specs.declared.op.Reply.TheVariants.{Done, Born}
use Rattle.tide_model.specs.declared.entry.Entry.TheVariants.{Begin, Pause, End, Taken, Sweep, Open}
use Rattle.tide_model.specs.declared.entry.Event.{Event}
use Rattle.tide_model.specs.Cycle.{dead_cell}
use Rattle.tide_model.specs.History.{one_later, plain, state_after}
use Rattle.tide_model.specs.Layout.{Layout, IsBlockOf}
use Rattle.tide_model.specs.Numbers.{any_below, numbers_where}
use Rattle.tide_model.specs.Room.{DeadIsTaken, IsFullBlock, StandsFull, StandsRefused}
use Rattle.tide_model.specs.Rows.{small}
use Rattle.tide_model.specs.Since.{TakenAreSwept}
use Rattle.tide_model.specs.State.{State, is_free}
use Rattle.tide_model.proofs.FreezeRows.{first_calls}
use Rattle.tide_model.proofs.NumberLaws.{any_below-false}
use Rattle.tide_model.proofs.Windows.{StandsFull-now}

-- one block of cells, and so many mutators
abbrev with_mutators : ℕ → Layout
with_mutators count = record small { mutators = count }

-- so many cells are born, each in the register of the one before
abbrev births : ℕ → List Event
births zero = []
births (suc n) = births n ++ first_calls (Alloc 0 0) (Born n) ∷ []

-- the block is full, a cycle frees all of it, and a part is opened
abbrev all_dead : List Event
all_dead = births 64 ++ first_calls (Drop 0) Done ∷ plain (Begin 1 true) ∷ plain (Pause 0)
    ∷ plain (End 1 (numbers_where (λ cell. true) 64)) ∷ plain (Open 1 200) ∷ []

-- the block is taken, then it is swept, and then it is full once more
abbrev now_taken : List Event
now_taken = all_dead ++ plain (Taken 0) ∷ []

abbrev full_again : List Event
full_again = now_taken ++ plain (Sweep 0) ∷ births 64

-- of the class with the one block of cells that have two slots
one_block : (count : ℕ) (P : ℕ → Type 0) → P 0 → (block : ℕ) → IsBlockOf (with_mutators count) 0 block → P block
one_block count P first block of =
    let from = of.from in
    let below = of.below in
    let same : 0 ≡ block = omega (arith, from, below) in
    subst P same first

-- none of the block's cells is free, and it has no array
full_block : (count : ℕ) (state : State) → any_below (λ cell. is_free (state.cells cell).status) 64 ≡ false →
    IsFullBlock (with_mutators count) state 0
full_block count state none = record {
  cells = λ cell within at. any_below-false (λ c. is_free (state.cells c).status) 64 cell none (omega (arith, at));
  arrays = λ array within at. absurd (omega (arith, at));
}

-- where nobody takes the block, an allocation may not be refused: it might have swept it
pub never_sweeps : StandsFull (with_mutators 1) all_dead 0 0 → ⊥
never_sweeps full =
    let (moment, early, late, none, taken) = full 0 (record { from = lit≤ tt; below = lit< tt }) in
    let same : moment ≡ 69 = omega (arith, early, late) in
    let was = subst (λ (m : ℕ). DeadIsTaken (with_mutators 1) (take m all_dead) 0) same taken
    (dead_cell 0 (lit< tt) refl refl) in
    omega (arith, was)

-- where the other mutator has taken it, it may
taken_block_is_full : (count : ℕ) → StandsFull (with_mutators count) now_taken 0 0
taken_block_is_full count = StandsFull-now (with_mutators count) now_taken 0 0
    (one_block count (λ block. IsFullBlock (with_mutators count) (state_after (with_mutators count) now_taken) block)
    (full_block count (state_after (with_mutators count) now_taken) refl))
    (one_block count (λ block. DeadIsTaken (with_mutators count) now_taken block) (λ has. lit< tt))

pub other_may_have_taken_it : StandsRefused (with_mutators 2) now_taken 0 0
other_may_have_taken_it = record {
  full = taken_block_is_full 2;
  alone = λ alone. absurd (let other : 1 ≡ 0 = alone 1 (lit< tt) refl in cc);
}

-- but a mutator alone has taken it by itself, and sweeps it before it is refused
pub sweeps_later : StandsRefused (with_mutators 1) now_taken 0 0 → ⊥
sweeps_later refused = let few = refused.alone (λ other within active. omega (arith, within)) 0 in omega (arith, few)

swept_since : TakenAreSwept (plain (Taken 0) ∷ plain (Sweep 0) ∷ births 64)
swept_since block = by_test (0 == block)
  where
    by_test : (same : Bool) → one_later 0 same ≤ one_later (one_later 0 same) false
    by_test true = lit≤ tt
    by_test false = lit≤ tt

-- it may be refused once the block that it swept is full of what was born since
pub full_after_its_sweep : StandsRefused (with_mutators 1) full_again 0 0
full_after_its_sweep = record {
  full = StandsFull-now (with_mutators 1) full_again 0 0
      (one_block 1 (λ block. IsFullBlock (with_mutators 1) (state_after (with_mutators 1) full_again) block)
      (full_block 1 (state_after (with_mutators 1) full_again) refl))
      (one_block 1 (λ block. DeadIsTaken (with_mutators 1) full_again block) (λ has. lit< tt));
  alone = λ alone. swept_since;
}

-- a later cycle frees all of it once more, and a part is opened
abbrev dead_again : List Event
dead_again = full_again ++ first_calls (Drop 0) Done ∷ plain (Begin 2 true) ∷ plain (Pause 0)
    ∷ plain (End 2 (numbers_where (λ cell. true) 64)) ∷ plain (Open 2 200) ∷ []

-- that it was taken before this end doesn't serve a refusal
pub taken_before_the_end : StandsFull (with_mutators 1) dead_again 0 0 → ⊥
taken_before_the_end full =
    let (moment, early, late, none, taken) = full 0 (record { from = lit≤ tt; below = lit< tt }) in
    let same : moment ≡ 140 = omega (arith, early, late) in
    let was = subst (λ (m : ℕ). DeadIsTaken (with_mutators 1) (take m dead_again) 0) same taken
    (dead_cell 0 (lit< tt) refl refl) in
    omega (arith, was)
