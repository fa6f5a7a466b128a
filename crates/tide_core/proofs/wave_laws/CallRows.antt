-- What the wave refuses after a call: that the barrier is left out, that it sets no bit, that a new cell is white while
-- a cycle marks, and that a call isn't counted. Two cells, of which the first is visited, worked out by hand.
use Rattle.std.proofs.Common.{ℕ, ◌≡◌, refl, ap, arith, false, true, [], ◌∷◌, List}
use Rattle.std.specs.Prelude.{Bool, if◌then◌else◌}
use Rattle.tide_words.specs.tide_layout.declared.region.Region.TheVariants.{Call as CallRegion}
use Rattle.tide_model.specs.declared.entry.Entry.TheVariants.{Begin, Call, End, Pause}
use Rattle.tide_model.specs.declared.entry.Event.{Event}
use Rattle.tide_model.specs.declared.op.Op.TheVariants.{Alloc, Put}
use Rattle.tide_model.specs.declared.op.Reply.TheVariants.{Born, Done}
use Rattle.tide_model.specs.Graph.{in_slot}
use Rattle.tide_model.specs.History.{plain}
use Rattle.tide_model.specs.Refused.{no_shapes}
use Rattle.tide_words.specs.heap.Heap.{Heap}
use Rattle.tide_words.specs.marking.Colours.{IsBlack, IsMarked, is_grey, is_marking}
use Rattle.tide_words.specs.marking.Marking.{bits_of}
use Rattle.tide_words.proofs.marking_laws.ReadingRows.{small}
use Rattle.tide_core.specs.wave.FrozenWave.{FrozenWave}

-- two cells are born, the first cycle begins, its pause makes the first one black, and the second is stored in that one
abbrev stored : List Event
stored = plain (Call 0 (Alloc 0 0) (Born 0)) ∷ plain (Call 0 (Alloc 1 0) (Born 1)) ∷ plain (Begin 1 true) ∷ plain (Pause 1)
    ∷ plain (Call 0 (Put 0 0 1) Done) ∷ []

-- without the barrier the first cell stays black: a black cell holds an unmarked one, whatever the other words say
barrier_left_out : (heap : Heap) → IsBlack heap 0 → (IsMarked heap 1 → ⊥) → FrozenWave small no_shapes heap stored → ⊥
barrier_left_out heap black white wave = white (wave.marking.black 0 1 black (in_slot 0 refl refl))

-- between two cycles too: the second cell is born after the end of the first one, and stored then
barrier_left_out_at_rest : (heap : Heap) → IsBlack heap 0 → (IsMarked heap 1 → ⊥) → FrozenWave small no_shapes heap
    (plain (Call 0 (Alloc 0 0) (Born 0)) ∷ plain (Begin 1 false) ∷ plain (Pause 1) ∷ plain (End 1 [])
    ∷ plain (Call 0 (Alloc 1 0) (Born 1)) ∷ plain (Call 0 (Put 0 0 1) Done) ∷ []) → ⊥
barrier_left_out_at_rest heap black white wave = white (wave.marking.black 0 1 black (in_slot 0 refl refl))

-- a barrier that makes it grey and sets no bit loses it, whatever the other words say: no list and no grey word has it
barrier_sets_no_bit : (heap : Heap) → is_grey heap 0 ≡ true → bits_of heap 0 ≡ 0 → FrozenWave small no_shapes heap stored → ⊥
barrier_sets_no_bit heap grey none wave = (
    let once = wave.marking.held.each_once 0 (omega arith) in
    let is = ap {B = ℕ} (λ (b : Bool). if b then 1 else 0) grey in
    omega (arith, once, none, is))

-- a cell that is born white in the cycle would be freed by its end
born_white_in_cycle : (heap : Heap) → is_marking heap ≡ true → (IsMarked heap 1 → ⊥) → FrozenWave small no_shapes heap
    (plain (Call 0 (Alloc 0 0) (Born 0)) ∷ plain (Begin 1 true) ∷ plain (Pause 1) ∷ plain (Call 0 (Alloc 1 0) (Born 1)) ∷ []) → ⊥
born_white_in_cycle heap marks white wave = white (wave.born marks 1 (omega arith) refl)

-- a call that isn't counted is none that the words tell
call_uncounted : (heap : Heap) → heap CallRegion 0 ≡ 2 → FrozenWave small no_shapes heap stored → ⊥
call_uncounted heap two wave = (let counted = wave.calls 0 (omega arith) in absurd (omega (arith, counted, two)))
