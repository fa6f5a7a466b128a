use Rattle.std.proofs.Common.{◌∙◌, ap, List, ℕ}
use Rattle.std.specs.Prelude.{◌==◌}
use Rattle.std.specs.List.{list_any}
use Rattle.tide_plain.specs.stored.Contents.{state_of}
use Rattle.tide_model.proofs.NumberLaws.{list_any-among}
use Rattle.tide_plain.proofs.calls.claims.holds.Goals as goal

pub returns : goal.returns
returns c =
    c.contains.ensures.value
    ∙ ap (λ (claims : List ℕ). list_any (λ claimed. claimed == c.args.cell) claims) c.claims.ensures
    ∙ list_any-among ((state_of c.args.contents.now).claims c.args.who) c.args.cell
