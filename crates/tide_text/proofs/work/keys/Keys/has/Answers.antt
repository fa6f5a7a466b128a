use Rattle.std.proofs.Common.{◌∙◌, ap, ℕ, List}
use Rattle.tide_text.specs.work.Keys.{is_named}
use Rattle.tide_text.proofs.work_laws.KeyLemmas.{named_by_bytes}
use Rattle.tide_text.proofs.work.keys.Keys.has.Goals as goal

pub returns : goal.returns
returns c =
    c.contains.ensures ∙ named_by_bytes c.self.inside.names.keys c.args.name.now
    ∙ ap (λ (names : List (List ℕ)). is_named names c.args.name.now) c.self.view_is
