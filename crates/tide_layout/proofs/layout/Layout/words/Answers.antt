-- Why `words` meets its contract.
use Rattle.std.proofs.Common.{arith, ap, get_or, ◌∙◌, ◌≡◌}
use Rattle.tide_layout.specs.Layout.{layout_of}
use Rattle.tide_layout.specs.Region.{word_count}
use Rattle.tide_layout.proofs.LimitLaws.{word_count-few}
use Rattle.tide_layout.proofs.StartLaws.{starts_of-words}
use Rattle.tide_layout.proofs.layout.Layout.words.Goals as goal

pub returns-clause-words : goal.returns-clause-words
returns-clause-words c =
    ap (λ starts. get_or starts 22 0) c.self.invariant.begins ∙ starts_of-words (layout_of c.self.inside.numbers) ∙ ap word_count c.self.view_is

pub returns-clause-few : goal.returns-clause-few
returns-clause-few c =
    let words : get_or c.self.inside.starts 22 0 ≡ word_count (layout_of c.self.inside.numbers) =
    ap (λ starts. get_or starts 22 0) c.self.invariant.begins ∙ starts_of-words (layout_of c.self.inside.numbers) in
    let few = word_count-few (layout_of c.self.inside.numbers) c.self.invariant.limits in
    omega (arith, words, few)
