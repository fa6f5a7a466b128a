-- One more word names a shape of the table, and at the end all do.
use Rattle.std.proofs.Common.{ℕ, ◌≡◌, List, inl, inr, ap, arith, subst, ◌∙◌}
use Rattle.std.specs.Prelude.{slice_index}
use Rattle.std.proofs.lemmas.Bool.{cases_lt}
use Rattle.tide_layout.specs.declared.region.Region.TheVariants.{Structure}
use Rattle.tide_shape.specs.Lists.{lists_of}
use Rattle.tide_retained.specs.Holding.{NamesShape}
use Rattle.tide_words.specs.heap.Heap.{heap_of}
use Rattle.check_words.proofs.snapshot.naming.name_shapes.Goals as goal

pub loop-cell-preserved : goal.loop-cell-preserved
loop-cell-preserved g c =
    let layout = c.args.layout.now in
    let heap = heap_of layout (g.W.Words.words c.args.words.now) in
    let here = c.loop-cell.cell in
    let word : c.load-word.result ≡ heap Structure here =
    c.load-word.ensures.word ∙ ap (slice_index (g.W.Words.words c.loop-cell.words)) c.place.ensures.place
    ∙ ap (λ (words : List ℕ). heap_of layout words Structure here) c.loop-cell.invariant.same in
    record {
      named = λ cell below. elim (cases_lt cell here) [
        | inl early ↦ c.loop-cell.invariant.named cell early
        | inr last ↦
            let this : here ≡ cell = omega (arith, below, last) in
            subst (λ (k : ℕ). NamesShape (lists_of c.args.table.now) (heap Structure k)) this
            (subst (NamesShape (lists_of c.args.table.now)) word (c.names_shape.ensures c.if-not-names_shape.false))
      ];
      same = c.load-word.ensures.same ∙ c.loop-cell.invariant.same;
    }
