-- Which path names a key twice.
use Rattle.std.proofs.Common.{ℕ, zero, suc, ◌≡◌, ◌+◌, ◌-◌, ◌<◌, refl, sym, ◌∙◌, ap, subst, arith, Bool, false, List, [], ◌∷◌, length, get_or, take, drop}
use Rattle.std.proofs.lemmas.Bool.{or_parts}
use Rattle.std.proofs.lemmas.Bool.Decides.{Decides-by_or, Decides-like, Decides-eqb, not_from_Decides, same_from_decides}
use Rattle.std.proofs.lemmas.List.{drop_more, take_rest}
use Rattle.std.proofs.lemmas.List.Elements.{Contains-get_or, Decides-contains}
use Rattle.std.specs.Bool.{Decides}
use Rattle.std.specs.List.{list_any}
use Rattle.std.specs.Prelude.{Contains, ◌==◌, ◌||◌}
use Rattle.tide_model.specs.Numbers.{is_among}
use Rattle.tide_shape.specs.ShapeTable.{HasNoKeyTwice}
use Rattle.tide_shape.specs.Shapes.{names_twice}

-- the test says whether the number is one of them, and so does std's
pub is_among-Decides : (xs : List ℕ) (n : ℕ) → Decides (is_among xs n) (Contains xs n)
is_among-Decides xs n =
    Decides-contains xs n (is_among xs n)
    (Decides-by_or (λ x. n == x) (λ x. x ≡ n) (λ ys. is_among ys n) (λ x. Decides-like (n == x) sym sym (Decides-eqb n x)) refl (λ _ _. refl) xs)

list_any-is_among : (xs : List ℕ) (n : ℕ) → list_any (λ x. x == n) xs ≡ is_among xs n
list_any-is_among xs n =
    same_from_decides (list_any (λ x. x == n) xs) (is_among xs n)
    (Decides-contains xs n (list_any (λ x. x == n) xs)
    (Decides-by_or (λ x. x == n) (λ x. x ≡ n) (λ ys. list_any (λ x. x == n) ys) (λ x. Decides-eqb x n) refl (λ _ _. refl) xs))
    (is_among-Decides xs n)

-- a path that names no key twice is distinct
pub HasNoKeyTwice-path : (path : List ℕ) → names_twice path ≡ false → HasNoKeyTwice path
HasNoKeyTwice-path [] once i j d before within = absurd (omega arith)
HasNoKeyTwice-path (key ∷ keys) once i zero d before within = absurd (omega arith)
HasNoKeyTwice-path (key ∷ keys) once zero (suc j) d before within =
    λ same. not_from_Decides (is_among keys key) (is_among-Decides keys key) (or_parts (is_among keys key) (names_twice keys) once).0
    (subst (λ k. Contains keys k) (sym same) (Contains-get_or keys j d (omega arith)))
HasNoKeyTwice-path (key ∷ keys) once (suc i) (suc j) d before within =
    HasNoKeyTwice-path keys (or_parts (is_among keys key) (names_twice keys) once).1 i j d (omega arith) (omega arith)

-- whether the rest names a key twice, once it is known whether its first key stands again behind
pub names_twice-rest : (path : List ℕ) (at : ℕ) (again : Bool) → at < length path → names_twice (drop at path) ≡ names_twice path →
    again ≡ list_any (λ key. key == get_or path at 0) (take (length path - (at + 1)) (drop (at + 1) path)) →
    names_twice path ≡ (again || names_twice (drop (at + 1) path))
names_twice-rest path at again within same is =
    sym same ∙ ap names_twice (drop_more path at 0 within)
    ∙ ap (λ (b : Bool). b || names_twice (drop (at + 1) path)) (sym (list_any-is_among (drop (at + 1) path) (get_or path at 0)) ∙ sym found)
  where
    found : again ≡ list_any (λ key. key == get_or path at 0) (drop (at + 1) path)
    found = is ∙ ap (λ (keys : List ℕ). list_any (λ key. key == get_or path at 0) keys) (take_rest path (at + 1))
