-- What the Phase word says is what the history says.
use Rattle.std.proofs.Common.{◌≡◌, ◌∙◌, ap, sym}
use Rattle.std.specs.Prelude.{slice_index}
use Rattle.tide_heap.specs.tide_layout.declared.region.Region.TheVariants.{Phase}
use Rattle.tide_heap.specs.tide_words.forms.ColourWord.{marks_by}
use Rattle.tide_heap.specs.tide_words.heap.Heap.{heap_of}
use Rattle.tide_table.proofs.Standing.{marks_still}
use Rattle.tide_table.proofs.collector.Collector.is_marking.Goals as goal

pub returns-clause-marks : goal.returns-clause-marks
returns-clause-marks g c =
    let h = c.args.heap.now in
    let layout = h.key.layout in
    let v = c.args.self.now.seat.me.0 in
    let word : c.load-phase.result ≡ heap_of layout v.words Phase 0 =
    c.load-phase.ensures.word ∙ ap (slice_index v.words) c.place.ensures.place ∙ (λ i. heap_of (c.layout.ensures i) v.words Phase 0) in
    c.word_phase.ensures.marks ∙ ap marks_by word
    ∙ sym (marks_still layout (g.S.HeapShapes.lists h.key.shapes) v c.requires.still)
