-- One more slot was read.
use Rattle.std.proofs.Common.{ℕ, ◌+◌, ◌<◌, List, ap, arith, subst, sym, ◌∙◌}
use Rattle.tide_model.specs.Layout.{class_of, slots_of}
use Rattle.tide_words.specs.heap.Heap.{heap_of}
use Rattle.tide_words.specs.heap.Reading.{IsValueOf, slot_word}
use Rattle.tide_retained.specs.Holding.{AreSlotsRead}
use Rattle.tide_retained.proofs.ReadLaws.{one_more_slot}
use Rattle.tide_retained.proofs.reading.read_slots.Goals as goal

pub loop-slot-preserved : goal.loop-slot-preserved
loop-slot-preserved g c =
    let layout = c.args.layout.now in
    let heap = heap_of layout (g.W.Words.words c.args.words.now) in
    let cell = c.args.cell in
    let slot = c.loop-slot.slot in
    let same = c.loop-slot.invariant.same in
    let count = c.slots-slot-end.ensures ∙ ap slots_of c.class_of.ensures.class in
    let within : slot < slots_of (class_of layout cell) = (let test = c.loop-slot-test.true in omega (arith, test, count)) in
    record {
      read = subst (AreSlotsRead layout heap cell (slot + 1)) (sym c.in_ok-push.ensures.items)
          (one_more_slot layout heap cell slot c.loop-slot.values.items c.slot_at-value.result within c.loop-slot.invariant.read
          (λ other is. c.slot_at-value.ensures.value other (subst (λ (words : List ℕ). IsValueOf other (slot_word layout (heap_of layout words) cell slot)) (sym same) is)));
      same = c.slot_at-value.ensures.same ∙ same;
      same_rest = c.slot_at-value.ensures.same_rest ∙ c.loop-slot.invariant.same_rest;
    }
