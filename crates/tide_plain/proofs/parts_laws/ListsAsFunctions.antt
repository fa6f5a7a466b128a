-- Lists read as functions of the place.
use Rattle.std.proofs.Common.{ℕ, ◌≡◌, ◌<◌, refl, sym, ◌∙◌, ap, Bool, true, false, List, length, get_or, inl, inr}
use Rattle.std.proofs.lemmas.List.{get_or-set_same, get_or-set_other}
use Rattle.std.proofs.lemmas.Bool.Decides.{eqb_tells}
use Rattle.std.specs.Prelude.{◌==◌, if◌then◌else◌, slice_set}
use Rattle.tide_model.specs.Numbers.{put_at}

-- a list with another value at one place
pub get_or-put : {X : Type 0} (xs : List X) (place : ℕ) (value d : X) → place < length xs → (n : ℕ) → get_or (slice_set xs place value) n d ≡ put_at (λ k. get_or xs k d) place value n
get_or-put xs place value d within n = elim (eqb_tells n place) [
  | inl same ↦ ap (λ (k : ℕ). get_or (slice_set xs place value) k d) same.1 ∙ get_or-set_same xs place value d within
      ∙ sym (ap {B = _} (λ (b : Bool). if b then value else get_or xs n d) same.0)
  | inr other ↦ get_or-set_other xs place n value d other.1 ∙ sym (ap {B = _} (λ (b : Bool). if b then value else get_or xs n d) other.0)
]

-- a function of what stands at a place
pub put_at-map : {X Y : Type 0} (f : X → Y) (g : ℕ → X) (place : ℕ) (value : X) (n : ℕ) → f (put_at g place value n) ≡ put_at (λ k. f (g k)) place (f value) n
put_at-map f g place value n = step (n == place)
  where
    step : (b : Bool) → f (if b then value else g n) ≡ (if b then f value else f (g n))
    step true = refl
    step false = refl

-- a function of what stands at a place, where what is put there gives the same
pub get_or-kept : {X Y : Type 0} (f : X → Y) (xs : List X) (place : ℕ) (value d : X) → place < length xs → f value ≡ f (get_or xs place d) → (n : ℕ) → f (get_or (slice_set xs place value) n d) ≡ f (get_or xs n d)
get_or-kept f xs place value d within same n = elim (eqb_tells n place) [
  | inl here ↦ ap (λ (k : ℕ). f (get_or (slice_set xs place value) k d)) here.1 ∙ ap f (get_or-set_same xs place value d within) ∙ same ∙ ap (λ (k : ℕ). f (get_or xs k d)) (sym here.1)
  | inr other ↦ ap f (get_or-set_other xs place n value d other.1)
]

-- a list with another value at one place, each value seen through a function
pub reads-put : {X Y : Type 0} (f : X → Y) (xs : List X) (place : ℕ) (value d : X) → place < length xs →
    (λ (n : ℕ). f (get_or (slice_set xs place value) n d)) ≡ put_at (λ n. f (get_or xs n d)) place (f value)
reads-put f xs place value d within = λ i n. (ap f (get_or-put xs place value d within n) ∙ put_at-map f (λ k. get_or xs k d) place value n) i

-- and where the function sees no other value
pub reads-same : {X Y : Type 0} (f : X → Y) (xs : List X) (place : ℕ) (value d : X) → place < length xs → f value ≡ f (get_or xs place d) →
    ◌≡◌ {A = ℕ → Y} (λ n. f (get_or (slice_set xs place value) n d)) (λ n. f (get_or xs n d))
reads-same f xs place value d within same = λ i n. get_or-kept f xs place value d within same n i
