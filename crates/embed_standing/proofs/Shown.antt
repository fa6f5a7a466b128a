-- The keys of the objects that a keeper shows have names.
use Rattle.std.proofs.Common.{ℕ, ◌≡◌, ◌<◌, List, [], ◌∷◌, arith, get_or, subst, sym}
use Rattle.std.proofs.lemmas.List.Elements.{All-cons, All-contains, All-nil, Contains-get_or}
use Rattle.std.specs.Prelude.{All, IfOk, Result, Err, Ok}
use Rattle.embed_standing.specs.Shown.{AreShown, paths_shown}
use Rattle.tide.specs.tide_model.Refused.{ShapeLists}
use Rattle.tide.specs.tide_retained.Contents.{HasKeysOf, held_at, properties_in}
use Rattle.tide.specs.tide_retained.declared.contents.Contents.{Contents}
use Rattle.tide.specs.tide_shape.Shapes.{IsPath, shapes_of_paths}
use Rattle.tide.specs.tide_snapshot.Written.{HasNamedKeys}

-- keys that are below a bound
abbrev AreBelow : ℕ → List ℕ → Type 0
AreBelow n keys = All (λ key. key < n) keys

-- the shapes have the keys 0 and 1 alone
shapes_are_below : All (AreBelow 2) (shapes_of_paths paths_shown)
shapes_are_below =
    let below = λ (key : ℕ). key < 2 in
    let none = All-nil below in
    let one : AreBelow 2 (0 ∷ []) = All-cons below 0 [] (omega arith) none in
    let two : AreBelow 2 (0 ∷ 1 ∷ []) = All-cons below 0 (1 ∷ []) (omega arith) (All-cons below 1 [] (omega arith) none) in
    All-cons (AreBelow 2) [] ((0 ∷ []) ∷ (0 ∷ 1 ∷ []) ∷ []) none
    (All-cons (AreBelow 2) (0 ∷ []) ((0 ∷ 1 ∷ []) ∷ []) one
    (All-cons (AreBelow 2) (0 ∷ 1 ∷ []) [] two (All-nil (AreBelow 2))))

-- so each key that a cell has is one of the two
keys_are_named : (contents : Contents) → HasKeysOf (shapes_of_paths paths_shown) contents → HasNamedKeys 2 contents
keys_are_named contents of cell i d within =
    let properties = properties_in (held_at contents cell) in
    let property = get_or properties i d in
    let (keys, among, has) = of cell property (Contains-get_or properties i d within) in
    All-contains (λ (key : ℕ). key < 2) keys property.key
    (All-contains (AreBelow 2) (shapes_of_paths paths_shown) keys shapes_are_below among) has

-- and has a name of two
pub shown_is_named : {E : Type 0} (shapes : ShapeLists) (names : ℕ) (taken : Result Contents E) → AreShown shapes →
    names ≡ 2 → IfOk taken (HasKeysOf shapes) → IfOk taken (HasNamedKeys names)
shown_is_named shapes names (Ok contents) shown two of =
    subst (λ (n : ℕ). HasNamedKeys n contents) (sym two)
    (keys_are_named contents (subst (λ (lists : ShapeLists). HasKeysOf lists contents) shown of))
shown_is_named shapes names (Err why) shown two of = of

-- the path is one that may be declared
pub paths_are_sized : All IsPath paths_shown
paths_are_sized = All-cons IsPath (0 ∷ 1 ∷ []) [] (record { some = omega arith; short = omega arith }) (All-nil IsPath)
