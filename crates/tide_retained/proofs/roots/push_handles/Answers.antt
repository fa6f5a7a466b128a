-- One more handle was read.
use Rattle.std.proofs.Common.{ℕ, ◌≡◌, ◌<◌, List, arith, subst, sym, ◌∙◌}
use Rattle.tide_words.specs.tide_layout.declared.region.Region.TheVariants.{Strong as Handles}
use Rattle.tide_model.specs.declared.val.Val.{Val}
use Rattle.tide_words.specs.heap.Heap.{heap_of}
use Rattle.tide_words.specs.heap.Reading.{IsValueOf}
use Rattle.tide_retained.specs.declared.root.Root.TheVariants.{Strong}
use Rattle.tide_retained.specs.RootsRead.{AddsRoots, IsNamedRoot, IsStrongRoot}
use Rattle.tide_retained.proofs.RootLaws.{one_more_handle}
use Rattle.tide_retained.proofs.roots.push_handles.Goals as goal

pub loop-handle-preserved : goal.loop-handle-preserved
loop-handle-preserved g c = record {
  adds = λ shapes state reads.
      let layout = c.args.layout.now in
      let handle = c.loop-handle.handle in
      let within : handle < layout.strong =
      (let test = c.loop-handle-test.true in let count = c.strong-handle-end.ensures.count in omega (arith, test, count)) in
      let value = c.value_in-value.ensures.value (state.strong handle)
      (subst (λ (k : ℕ). IsValueOf (state.strong handle) (heap_of layout (g.W.Words.words c.loop-handle.words) Handles k)) (sym c.from.ensures)
      (subst (λ (words : List ℕ). IsValueOf (state.strong handle) (heap_of layout words Handles handle))
      (sym c.loop-handle.invariant.same) (reads.roots.strong handle within))) in
      one_more_handle state handle c.args.roots.now.items c.loop-handle.roots.items c.push_root.new.roots.items (c.loop-handle.invariant.adds shapes state reads)
      (subst (λ (v : Val). AddsRoots (IsNamedRoot (Strong handle) v) c.loop-handle.roots.items c.push_root.new.roots.items) value c.in_ok-push_root.ensures);
  same = c.value_in-value.ensures.same ∙ c.loop-handle.invariant.same;
  same_rest = c.value_in-value.ensures.same_rest ∙ c.loop-handle.invariant.same_rest;
}

pub returns-clause-handles : goal.returns-clause-handles
returns-clause-handles g c = λ shapes state reads.
    let layout = c.args.layout.now in
    let all : c.loop-handle.handle ≡ layout.strong =
    (let test = c.loop-handle-test.false in let count = c.strong-handle-end.ensures.count in let most = c.loop-handle.auto.handle-end in
    omega (arith, test, count, most)) in
    subst (λ (k : ℕ). AddsRoots (IsStrongRoot state k) c.args.roots.now.items c.loop-handle.roots.items) all (c.loop-handle.invariant.adds shapes state reads)
