-- Why `fill` meets its contract.
use Rattle.std.proofs.Common.{ℕ, List, ◌+◌, sym, ap, ◌∙◌, subst, set, arith}
use Rattle.tide_words.specs.heap.Filled.{IsFilledTo}
use Rattle.tide_words.proofs.heap_laws.Filling.{IsFilledTo-more}
use Rattle.tide_words.proofs.heap.vec_words.VecWords.fill.Goals as goal

pub loop-index-preserved : goal.loop-index-preserved
loop-index-preserved c =
    let layout = c.args.layout.now in
    let words = c.loop-index.self in
    let index = c.loop-index.index in
    let after = c.store.ensures.stored ∙ ap (λ (place : ℕ). set words place c.args.word) c.place.ensures.place in
    subst (λ (new : List ℕ). IsFilledTo layout c.args.region c.args.word (index + 1) c.args.self.now new) (sym after)
    (IsFilledTo-more layout c.args.region c.args.word index c.args.self.now words c.requires.whole (omega arith) c.loop-index.invariant)
