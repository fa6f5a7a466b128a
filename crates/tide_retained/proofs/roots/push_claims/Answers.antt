-- One more claim was read.
use Rattle.std.proofs.Common.{ℕ, ◌≡◌, ◌<◌, ◌≤◌, List, ap, arith, subst, ◌∙◌}
use Rattle.std.specs.Prelude.{slice_index}
use Rattle.tide_words.specs.tide_layout.declared.region.Region.TheVariants.{Claim}
use Rattle.tide_model.specs.Layout.{cell_count}
use Rattle.tide_words.specs.heap.Heap.{heap_of}
use Rattle.tide_retained.specs.RootsRead.{AddsRoots, IsClaimRoot, IsClaimWordRoot}
use Rattle.tide_retained.proofs.RootLaws.{claim_by_word, one_more_claim}
use Rattle.tide_retained.proofs.roots.push_claims.Goals as goal

pub loop-cell-preserved : goal.loop-cell-preserved
loop-cell-preserved g c = record {
  adds = λ shapes state reads.
      let layout = c.args.layout.now in
      let cell = c.loop-cell.cell in
      let within : cell < cell_count layout =
      (let test = c.loop-cell-test.true in let count = c.cells-cell-end.ensures.count in omega (arith, test, count)) in
      let few : layout.mutators ≤ 256 = (let most = c.cells-cell-end.ensures.limits.few_mutators in omega (arith, most)) in
      let word : c.load-word.result ≡ heap_of layout (g.W.Words.words c.args.words.now) Claim cell =
      c.load-word.ensures.word ∙ ap (slice_index (g.W.Words.words c.loop-cell.words)) c.place.ensures.place
      ∙ ap (λ (words : List ℕ). heap_of layout words Claim cell) c.loop-cell.invariant.same in
      one_more_claim state cell c.args.roots.now.items c.loop-cell.roots.items c.push_claim.new.roots.items (c.loop-cell.invariant.adds shapes state reads)
      (claim_by_word layout shapes (heap_of layout (g.W.Words.words c.args.words.now)) state cell c.loop-cell.roots.items c.push_claim.new.roots.items reads within few
      (subst (λ (w : ℕ). AddsRoots (IsClaimWordRoot cell w) c.loop-cell.roots.items c.push_claim.new.roots.items) word c.in_ok-push_claim.ensures));
  same = c.load-word.ensures.same ∙ c.loop-cell.invariant.same;
  same_rest = c.load-word.ensures.same_rest ∙ c.loop-cell.invariant.same_rest;
}

pub returns-clause-claims : goal.returns-clause-claims
returns-clause-claims g c = λ shapes state reads.
    let layout = c.args.layout.now in
    let all : c.loop-cell.cell ≡ cell_count layout =
    (let test = c.loop-cell-test.false in let count = c.cells-cell-end.ensures.count in let most = c.loop-cell.auto.cell-end in
    omega (arith, test, count, most)) in
    subst (λ (k : ℕ). AddsRoots (IsClaimRoot state k) c.args.roots.now.items c.loop-cell.roots.items) all (c.loop-cell.invariant.adds shapes state reads)
