-- Why sizes and paths are refused, by what was found of them.
use Rattle.std.proofs.Common.{ℕ, ◌≡◌, ◌+◌, ◌∙◌, refl, sym, ap, List, [], ◌∷◌, Err}
use Rattle.std.proofs.lemmas.Option.{none-some, same_Some}
use Rattle.std.specs.Prelude.{None, Option, Result, Some, position}
use Rattle.tide.specs.Sizes.{first_of, is_no_path, is_too_large, refusal_of, refusal_of_numbers, refusal_of_paths, refusal_of_sizes, refused_at}
use Rattle.tide.specs.declared.sizes.Refused.{Refused}
use Rattle.tide.specs.declared.sizes.Refused.TheVariants.{Blocks, DoubleKey, Path}
use Rattle.tide.specs.declared.sizes.Sizes.{Sizes}
use Rattle.tide_server.specs.tide_shape.Shapes.{first_double}

-- the first of one reason is that reason
first_of_one : (reason : Option Refused) → first_of (reason ∷ []) ≡ reason
first_of_one None = refl
first_of_one (Some refused) = refl

-- one reason is given at most
pub one_refusal : {X : Type 0} (refusal : Option Refused) (why other : Refused) → refusal ≡ Some why →
    refusal ≡ Some other → ◌≡◌ {A = Result X Refused} (Err why) (Err other)
one_refusal refusal why other is also = ap Err (same_Some why other (sym is ∙ also))

-- none is given where there is none
pub no_refusal : {A : Type 0} (refusal : Option Refused) (why : Refused) → refusal ≡ None → refusal ≡ Some why → A
no_refusal refusal why none is = absurd (none-some why (sym none ∙ is))

module _ (sizes : Sizes) where
  pub cells_refused : (class : ℕ) → position is_too_large sizes.cells ≡ Some class →
      refusal_of_sizes sizes ≡ Some (Blocks class)
  cells_refused class large = λ i. first_of (
      refused_at (λ class. Blocks class) (large i)
      ∷ refused_at (λ class. Blocks (5 + class)) (position is_too_large sizes.arrays)
      ∷ refusal_of_numbers sizes
      ∷ [])

  pub arrays_refused : (class : ℕ) → position is_too_large sizes.cells ≡ None →
      position is_too_large sizes.arrays ≡ Some class → refusal_of_sizes sizes ≡ Some (Blocks (5 + class))
  arrays_refused class none large = λ i. first_of (
      refused_at (λ class. Blocks class) (none i)
      ∷ refused_at (λ class. Blocks (5 + class)) (large i)
      ∷ refusal_of_numbers sizes
      ∷ [])

  pub numbers_refused : position is_too_large sizes.cells ≡ None → position is_too_large sizes.arrays ≡ None →
      refusal_of_sizes sizes ≡ refusal_of_numbers sizes
  numbers_refused none also = (λ i. first_of (
      refused_at (λ class. Blocks class) (none i)
      ∷ refused_at (λ class. Blocks (5 + class)) (also i)
      ∷ refusal_of_numbers sizes
      ∷ [])) ∙ first_of_one (refusal_of_numbers sizes)

module _ (paths : List (List ℕ)) where
  pub odd_refused : (path : ℕ) → position is_no_path paths ≡ Some path → refusal_of_paths paths ≡ Some (Path path)
  odd_refused path odd = λ i. first_of (
      refused_at (λ path. Path path) (odd i) ∷ refused_at (λ path. DoubleKey path) (first_double paths) ∷ [])

  module _ (none : position is_no_path paths ≡ None) where
    doubles : refusal_of_paths paths ≡ refused_at (λ path. DoubleKey path) (first_double paths)
    doubles = (λ i. first_of (
        refused_at (λ path. Path path) (none i) ∷ refused_at (λ path. DoubleKey path) (first_double paths) ∷ []))
        ∙ first_of_one (refused_at (λ path. DoubleKey path) (first_double paths))

    pub double_refused : (path : ℕ) → first_double paths ≡ Some path → refusal_of_paths paths ≡ Some (DoubleKey path)
    double_refused path double = doubles ∙ ap (refused_at (λ path. DoubleKey path)) double

    pub no_path_refused : ((path : ℕ) → first_double paths ≡ Some path → ⊥) → refusal_of_paths paths ≡ None
    no_path_refused no_double = doubles ∙ ap (refused_at (λ path. DoubleKey path)) (by_found (first_double paths) no_double)
      where
        by_found : (found : Option ℕ) → ((path : ℕ) → found ≡ Some path → ⊥) → found ≡ None
        by_found None not = refl
        by_found (Some path) not = absurd (not path refl)

module _ (sizes : Sizes) (paths : List (List ℕ)) where
  pub size_refused : (why : Refused) → refusal_of_sizes sizes ≡ Some why → refusal_of sizes paths ≡ Some why
  size_refused why is = λ i. first_of (is i ∷ refusal_of_paths paths ∷ [])

  pub path_refused : refusal_of_sizes sizes ≡ None → refusal_of sizes paths ≡ refusal_of_paths paths
  path_refused none = (λ i. first_of (none i ∷ refusal_of_paths paths ∷ [])) ∙ first_of_one (refusal_of_paths paths)
