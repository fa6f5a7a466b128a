-- The words so far are those of the table, and the caller may call still.
use Rattle.std.proofs.Common.{ℕ, ◌≡◌, ◌<◌, length}
use Rattle.std.specs.Prelude.{slice_index}
use Rattle.tide_words.specs.heap.Reading.{slot_word}
use Rattle.tide_call.specs.Callers.{Always, Leaves}
use Rattle.tide_call.proofs.planner.Planner.pairs_of.Given as goal

abbrev pub invariant-loop-place : goal.invariant-loop-place
invariant-loop-place g l =
    Leaves (g.O.OwnRegisters.owns l.initial.own) (g.O.OwnRegisters.owns l.own) l.context l.self
    (g.O.OwnRegisters.rest l.initial.own) (g.O.OwnRegisters.rest l.own)
    × (length l.words ≡ 8)
    × Always (g.O.OwnRegisters.owns l.own l.context) l.self (λ heap state. (place : ℕ) → place < l.place →
    slice_index l.words place ≡ slot_word l.self.layout heap l.table place)
