-- What look-ups in a caller's shapes tell of a cell.
use Rattle.std.proofs.Common.{ℕ, ◌≡◌, ◌^◌, ◌<◌, ap, sym, ◌∙◌, subst, arith, List, [], ◌∷◌, ◌++◌, Some, Option, length-append}
use Rattle.std.proofs.lemmas.Option.{get_or_from_slice_get}
use Rattle.std.specs.Prelude.{Contains, IfNone, IfSome, is_some, slice_get}
use Rattle.tide_model.specs.Numbers.{is_among}
use Rattle.tide_model.specs.Refused.{ShapeLists}
use Rattle.tide_shape.specs.ShapeTable.{IsShapeTable, keys_of}
use Rattle.tide_shape.proofs.KeyLaws.{fewer_keys, has_key-found}
use Rattle.tide_call.specs.ShapeWord.{IsShapeWord}

module _ (lists shapes : ShapeLists) (same : lists ≡ shapes) (shape : ℕ) (keys : List ℕ) (is : IsShapeWord shapes keys shape) where
  -- the keys that a table has for the shape of a cell are the cell's
  pub keys_of-cell : keys_of lists shape ≡ keys
  keys_of-cell = ap (λ (all : ShapeLists). keys_of all shape) same ∙ get_or_from_slice_get shapes shape keys [] is.is_shape

  -- a look-up of a key tells whether the cell has it
  pub key-found : (key : ℕ) (found : Option ℕ) → IfSome found (λ place. slice_get (keys_of lists shape) place ≡ Some key) →
      IfNone found (Contains (keys_of lists shape) key → ⊥) → is_among keys key ≡ is_some found
  key-found key found there none =
      ap (λ (ks : List ℕ). is_among ks key) (sym keys_of-cell) ∙ has_key-found (keys_of lists shape) key found there none

  -- and a look-up of the next shape, which that is
  pub next-found : (key next : ℕ) → slice_get lists next ≡ Some (keys_of lists shape ++ key ∷ []) →
      slice_get shapes next ≡ Some (keys ++ key ∷ [])
  next-found key next there =
      ap (λ (all : ShapeLists). slice_get all next) (sym same) ∙ there ∙ ap (λ (ks : List ℕ). Some (ks ++ key ∷ [])) keys_of-cell

  pub next-missing : (key : ℕ) → (Contains lists (keys_of lists shape ++ key ∷ []) → ⊥) → Contains shapes (keys ++ key ∷ []) → ⊥
  next-missing key none at = none (subst (λ (all : ShapeLists). Contains all (keys_of lists shape ++ key ∷ [])) (sym same)
      (subst (λ (ks : List ℕ). Contains shapes (ks ++ key ∷ [])) (sym keys_of-cell) at))

  -- the next shape's word
  pub next-word : (key next : ℕ) → IsShapeTable shapes → next < 2 ^ 32 →
      slice_get lists next ≡ Some (keys_of lists shape ++ key ∷ []) → IsShapeWord shapes (keys ++ key ∷ []) next
  next-word key next table few there = record {
    is_shape = next-found key next there;
    few_shapes = few;
    few_keys =
        let fewer = fewer_keys shapes next key keys table (next-found key next there) in
        let longer = length-append keys (key ∷ []) in
        omega (arith, fewer, longer);
  }
