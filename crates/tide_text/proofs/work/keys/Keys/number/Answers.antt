use Rattle.std.proofs.Common.{◌≡◌, ◌∙◌, ap, sym, ℕ, List, Vec, Global, Option, position, map}
use Rattle.std.specs.Str.{bytes_eq}
use Rattle.tide_text.proofs.work_laws.KeyLemmas.{placed_by_bytes}
use Rattle.tide_text.proofs.work.keys.Keys.number.Goals as goal

-- a place among the names is one among their bytes
by_bytes : (found : Option ℕ) (names : List (Vec ℕ Global)) (view : List (List ℕ)) (name : List ℕ)
    → found ≡ position (λ known. bytes_eq name known.items) names → map (λ (v : Vec ℕ Global). v.items) names ≡ view
    → found ≡ position (λ known. bytes_eq known name) view
by_bytes found names view name place is =
    place ∙ placed_by_bytes names name ∙ ap (λ (names : List (List ℕ)). position (λ known. bytes_eq known name) names) is

pub returns-in_err-key : goal.returns-in_err-key
returns-in_err-key c =
    c.from_residual.ensures ∙ sym c.in_err-key.was ∙ by_bytes _ c.self.inside.names.keys _ c.args.name.now c.get_index_of.ensures.index c.self.view_is

pub returns : goal.returns
returns c = sym c.in_ok-key.was ∙ by_bytes _ c.self.inside.names.keys _ c.args.name.now c.get_index_of.ensures.index c.self.view_is
