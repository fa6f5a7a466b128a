-- How a walk over the children of a shape finds the one with a key.
use Rattle.std.proofs.Common.{ℕ, suc, ◌≡◌, ◌≢◌, ◌<◌, ◌≤◌, refl, sym, ◌∙◌, ap, subst, arith, List, [], ◌∷◌, ◌++◌, length, get_or, inl, inr, Option, None, Some}
use Rattle.std.proofs.lemmas.List.{same_from_push, get_or-map, length-map}
use Rattle.std.proofs.lemmas.Bool.{cases_eq}
use Rattle.std.proofs.lemmas.Option.{slice_get-get_or}
use Rattle.std.specs.Prelude.{IfSome, IsSomeAnd, slice_get}
use Rattle.std.specs.Option.{option_map_or}
use Rattle.tide_model.specs.Refused.{ShapeLists}
use Rattle.tide_shape.specs.ShapeTable.{keys_of}
use Rattle.tide_shape.specs.declared.tree.Shape.{Shape}
use Rattle.tide_shape.specs.Tree.{Links, AreLinked, key_lists, links_of}

-- The walk stands at a shape that has one more key, or at its end. No shape that is the first one with the key added
-- is newer.
pub record IsAt (count : ℕ) (links : Links) (shape key : ℕ) (at : Option ℕ) : Type 0 where
  pub child : IfSome at (λ child. (child < count) × (links.keys child ≡ links.keys shape ++ links.last child ∷ []))
  pub later : (child : ℕ) → child < count → links.keys child ≡ links.keys shape ++ key ∷ [] → IsSomeAnd at (λ at. child ≤ at)

-- it begins at the newest child
pub IsAt-newest : (count : ℕ) (links : Links) (shape key : ℕ) → AreLinked count links → shape < count → IsAt count links shape key (links.newest shape)
IsAt-newest count links shape key l within = record {
  child = l.child shape within;
  later = λ child under is. l.newest_is_last shape child key within under is;
}

-- it goes on to the older sibling of a child with another last key
pub IsAt-older : (count : ℕ) (links : Links) (shape key child : ℕ) → AreLinked count links → IsAt count links shape key (Some child) → links.last child ≢ key →
    IsAt count links shape key (links.older child)
IsAt-older count links shape key child l at other = record {
  child = step (links.older child) (l.sibling child at.child.0);
  later = λ older under is.
      elim (cases_eq older child) [
        | inl same ↦ absurd (other (last_is (ap links.keys same ∙ refl) is))
        | inr apart ↦ let at_most : older ≤ child = at.later older under is in
            l.older_is_next child older (links.last child) key (links.keys shape) at.child.0 (omega arith) at.child.1 is
      ];
}
  where
    step : (o : Option ℕ) → IfSome o (λ older. (older < child) × ((front : List ℕ) → links.keys child ≡ front ++ links.last child ∷ [] → links.keys older ≡ front ++ links.last older ∷ [])) →
        IfSome o (λ older. (older < count) × (links.keys older ≡ links.keys shape ++ links.last older ∷ []))
    step None h = tt
    step (Some older) h = let below : older < child = h.0 in let within : child < count = at.child.0 in (omega arith, h.1 (links.keys shape) at.child.1)

    last_is : {older : ℕ} → links.keys older ≡ links.keys child → links.keys older ≡ links.keys shape ++ key ∷ [] → links.last child ≡ key
    last_is same is = (same_from_push (links.keys shape) (links.keys shape) (links.last child) key (sym at.child.1 ∙ sym same ∙ is)).1

-- the walk ends, since each sibling stands before
pub walk_ends : (count : ℕ) (links : Links) (child : ℕ) → AreLinked count links → child < count → option_map_or suc (links.older child) 0 < suc child
walk_ends count links child l within = step (links.older child) (l.sibling child within)
  where
    step : (o : Option ℕ) → IfSome o (λ older. (older < child) × ((front : List ℕ) → links.keys child ≡ front ++ links.last child ∷ [] → links.keys older ≡ front ++ links.last older ∷ [])) →
        option_map_or suc o 0 < suc child
    step None h = omega arith
    step (Some older) h = let below : older < child = h.0 in omega arith

-- what is read of a shape is what it is in the list
pub newest_read : (shapes : List Shape) (i : ℕ) (s : Shape) → i < length shapes → s ≡ get_or shapes i s → (links_of shapes).newest i ≡ s.newest_child
newest_read shapes i s within is = get_or-map (λ (x : Shape). x.newest_child) shapes i s None within ∙ ap (λ (x : Shape). x.newest_child) (sym is)

pub older_read : (shapes : List Shape) (i : ℕ) (s : Shape) → i < length shapes → s ≡ get_or shapes i s → (links_of shapes).older i ≡ s.older_sibling
older_read shapes i s within is = get_or-map (λ (x : Shape). x.older_sibling) shapes i s None within ∙ ap (λ (x : Shape). x.older_sibling) (sym is)

pub last_read : (shapes : List Shape) (i : ℕ) (s : Shape) → i < length shapes → s ≡ get_or shapes i s → (links_of shapes).last i ≡ s.key
last_read shapes i s within is = get_or-map (λ (x : Shape). x.key) shapes i s 0 within ∙ ap (λ (x : Shape). x.key) (sym is)

-- a number of a key list is one of a shape
pub shape_there : (shapes : List Shape) (lists : ShapeLists) (n : ℕ) → key_lists shapes ≡ lists → n < length lists → n < length shapes
shape_there shapes lists n is within =
    let same : length (key_lists shapes) ≡ length lists = ap (λ (xs : ShapeLists). length xs) is in
    omega (arith, same, length-map shapes (λ (s : Shape). s.keys.items))

-- the child that the walk stands at is found where its last key is the one that is looked for
pub walk_finds : (shapes : List Shape) (lists : ShapeLists) (shape key child : ℕ) → key_lists shapes ≡ lists →
    IsAt (length shapes) (links_of shapes) shape key (Some child) → (links_of shapes).last child ≡ key →
    slice_get lists child ≡ Some (keys_of lists shape ++ key ∷ [])
walk_finds shapes lists shape key child is at same =
    subst (λ (xs : ShapeLists). slice_get xs child ≡ Some (keys_of xs shape ++ key ∷ [])) is
    (slice_get-get_or (key_lists shapes) child [] within
    ∙ ap (λ (keys : List ℕ). Some keys) (at.child.1 ∙ ap (λ (k : ℕ). keys_of (key_lists shapes) shape ++ k ∷ []) same))
  where
    within : child < length (key_lists shapes)
    within = let under : child < length shapes = at.child.0 in omega (arith, length-map shapes (λ (s : Shape). s.keys.items))
