-- How lists are copied, one after another.
use Rattle.std.proofs.Common.{ℕ, zero, suc, ◌≡◌, ◌+◌, ◌<◌, sym, ◌∙◌, ap, subst, List, [], ◌∷◌, ◌++◌, length, map, take, get_or}
use Rattle.std.proofs.lemmas.List.{map-append, take_more}
use Rattle.std.proofs.lemmas.List.Elements.{All-push}
use Rattle.std.specs.Prelude.{All, slice_get, Some}

-- one list more is copied
pub copy_more : {X Y : Type 0} (copied : X → Y) (old : List X) (x : X) (lists : List Y) (place : ℕ) → place < length lists → map copied old ≡ take place lists →
    slice_get lists place ≡ Some (copied x) → map copied (old ++ x ∷ []) ≡ take (place + 1) lists
copy_more copied old x lists place below before is =
    map-append copied old (x ∷ []) ∙ ap (λ (front : List _). front ++ copied x ∷ []) before
    ∙ ap (λ y. take place lists ++ y ∷ []) (sym (found lists place (copied x) is))
    ∙ sym (take_more lists place (copied x) below)
  where
    found : (all : List _) (at : ℕ) (y : _) → slice_get all at ≡ Some y → get_or all at (copied x) ≡ y
    found [] at y is = absurd (cc)
    found (first ∷ rest) zero y is = cc
    found (first ∷ rest) (suc at) y is = found rest at y is

-- what holds of the copies holds with one more
pub All-copied : {X Y : Type 0} (copied : X → Y) (P : Y → Type 0) (old : List X) (x : X) → All P (map copied old) → P (copied x) → All P (map copied (old ++ x ∷ []))
All-copied copied P old x all one = subst (All P) (sym (map-append copied old (x ∷ []))) (All-push P (map copied old) (copied x) all one)
