-- One more mutator was read.
use Rattle.std.proofs.Common.{ℕ, ◌≡◌, List, arith, subst, sym, ◌∙◌}
use Rattle.tide_words.specs.heap.Heap.{heap_of}
use Rattle.tide_words.specs.heap.Reading.{ReadsAs}
use Rattle.tide_retained.specs.RootsRead.{AddsRoots, IsActiveRoot}
use Rattle.tide_retained.proofs.RootLaws.{one_more_mutator}
use Rattle.tide_retained.proofs.roots.push_mutators.Goals as goal

pub loop-who-preserved : goal.loop-who-preserved
loop-who-preserved g c = record {
  adds = λ shapes state reads.
      let layout = c.args.layout.now in
      let who = c.loop-who.who in
      one_more_mutator layout state who c.args.roots.now.items c.loop-who.roots.items c.push_active.new.roots.items (c.loop-who.invariant.adds shapes state reads)
      (c.in_ok-push_active.ensures.registers shapes state (subst (λ (words : List ℕ). ReadsAs layout shapes (heap_of layout words) state) (sym c.loop-who.invariant.same) reads));
  same = c.in_ok-push_active.ensures.same ∙ c.loop-who.invariant.same;
  same_rest = c.in_ok-push_active.ensures.same_rest ∙ c.loop-who.invariant.same_rest;
}

pub returns-clause-mutators : goal.returns-clause-mutators
returns-clause-mutators g c = λ shapes state reads.
    let layout = c.args.layout.now in
    let all : c.loop-who.who ≡ layout.mutators =
    (let test = c.loop-who-test.false in let count = c.mutators-who-end.ensures.count in let most = c.loop-who.auto.who-end in
    omega (arith, test, count, most)) in
    subst (λ (k : ℕ). AddsRoots (IsActiveRoot layout state k) c.args.roots.now.items c.loop-who.roots.items) all (c.loop-who.invariant.adds shapes state reads)
