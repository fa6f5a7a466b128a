use Rattle.std.proofs.Common.{◌∙◌, ap, ℕ, List, Option, unwrap_or, position}
use Rattle.std.specs.Str.{bytes_eq}
use Rattle.tide_text.proofs.work_laws.KeyLemmas.{position_or_length}
use Rattle.tide_text.proofs.work.keys.Keys.place.Goals as goal

pub returns : goal.returns
returns c =
    c.unwrap_or.ensures ∙ ap (λ (found : Option ℕ). unwrap_or found c.len.result) c.number.ensures
    ∙ ap (λ (n : ℕ). unwrap_or (position (λ known. bytes_eq known c.args.name.now) c.args.self.now) n) c.len.ensures.count
    ∙ position_or_length (λ (known : List ℕ). bytes_eq known c.args.name.now) c.args.self.now
