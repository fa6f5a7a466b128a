-- The registers, the claims and the handles are all roots there are.
use Rattle.std.proofs.Common.{ℕ, List, sym, ◌∙◌, subst}
use Rattle.tide_words.specs.heap.Heap.{heap_of}
use Rattle.tide_words.specs.heap.Reading.{ReadsAs}
use Rattle.tide_retained.specs.declared.contents.Rooted.{Rooted}
use Rattle.tide_retained.specs.RootsRead.{AddsRoots, IsActiveRoot}
use Rattle.tide_retained.proofs.RootLaws.{all_roots}
use Rattle.tide_retained.proofs.roots.read_roots.Goals as goal

pub returns-clause-roots : goal.returns-clause-roots
returns-clause-roots g c = λ shapes state reads.
    let layout = c.args.layout.now in
    let first = c.in_ok-push_mutators.ensures.same in
    let second = c.in_ok-push_claims.ensures.same ∙ first in
    let still = λ (words : List ℕ). ReadsAs layout shapes (heap_of layout words) state in
    all_roots layout shapes (heap_of layout (g.W.Words.words c.args.words.now)) state c.push_mutators.new.roots.items c.push_claims.new.roots.items c.push_handles.new.roots.items reads
    (subst (λ (none : List Rooted). AddsRoots (IsActiveRoot layout state layout.mutators) none c.push_mutators.new.roots.items) c.new-roots.ensures.items
    (c.in_ok-push_mutators.ensures.mutators shapes state reads))
    (c.in_ok-push_claims.ensures.claims shapes state (subst still (sym first) reads)) (c.in_ok-push_handles.ensures.handles shapes state (subst still (sym second) reads))
