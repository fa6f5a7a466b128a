-- Where a list contains something.
use Rattle.std.proofs.Common.{ℕ, ◌≡◌, ◌+◌, ◌<◌, ◌≤◌, List, [], ◌∷◌, ◌++◌, length, map, fold, take, sym, ap, ◌∙◌, subst, inl, inr, arith, get_or, append-nil, zero-add}
use Rattle.std.specs.Prelude.{◌⊎◌, Contains}
use Rattle.std.specs.List.{flat_map}
use Rattle.std.proofs.lemmas.List.{flat_map_more, map-id, take_all, take_more}
use Rattle.std.proofs.lemmas.List.Concat.{flat_map-append}
use Rattle.std.proofs.lemmas.List.Sums.{fold-append, fold_more}
use Rattle.std.proofs.lemmas.List.FromFn.{get_or-range_with_len, length-range_with_len, map-range_with_len_more}
use Rattle.tide_retained.specs.Index.{up_to}
use Rattle.std.proofs.lemmas.List.Elements.{Contains-append_left, Contains-append_right, Contains-append_cases, Contains-push, Contains-push_cases}

pub nowhere : {X : Type 0} (x : X) → Contains [] x → ⊥
nowhere x at = let below = at.1 in omega (arith, below)

pub contains_one : {X : Type 0} (y x : X) → Contains (y ∷ []) x → y ≡ x
contains_one y x at = elim (Contains-push_cases [] y x at) [
  | inl none ↦ absurd (nowhere x none)
  | inr same ↦ same
]

pub contains_cases : {X : Type 0} (y : X) (ys : List X) (x : X) → Contains (y ∷ ys) x → (y ≡ x) ⊎ Contains ys x
contains_cases y ys x at = elim (Contains-append_cases (y ∷ []) ys x at) [
  | inl first ↦ inl (contains_one y x first)
  | inr later ↦ inr later
]

pub contains_first : {X : Type 0} (x : X) (xs : List X) → Contains (x ∷ xs) x
contains_first x xs = Contains-append_left (x ∷ []) xs x (Contains-push [] x)

pub contains_later : {X : Type 0} (y : X) (ys : List X) (x : X) → Contains ys x → Contains (y ∷ ys) x
contains_later y ys x at = Contains-append_right (y ∷ []) ys x at

-- what stands in a flat map stands in what one element gives
pub from_flat_map : {X A : Type 0} (f : X → List A) (xs : List X) (a : A) → Contains (flat_map f xs) a → (x : X) × Contains xs x × Contains (f x) a
from_flat_map f [] a at = absurd (nowhere a at)
from_flat_map f (x ∷ xs) a at = elim (Contains-append_cases (f x) (flat_map f xs) a at) [
  | inl here ↦ (x, contains_first x xs, here)
  | inr there ↦ (let (y, in_rest, given) = from_flat_map f xs a there in (y, contains_later x xs y in_rest, given))
]

-- and what one element gives stands in it
pub in_flat_map : {X A : Type 0} (f : X → List A) (xs : List X) (x : X) (a : A) → Contains xs x → Contains (f x) a → Contains (flat_map f xs) a
in_flat_map f [] x a at given = absurd (nowhere x at)
in_flat_map f (y ∷ ys) x a at given = elim (contains_cases y ys x at) [
  | inl same ↦ Contains-append_left (f y) (flat_map f ys) a (subst (λ z. Contains (f z) a) (sym same) given)
  | inr later ↦ Contains-append_right (f y) (flat_map f ys) a (in_flat_map f ys x a later given)
]

-- what stands in a map is what one element gives
pub from_map : {X A : Type 0} (f : X → A) (xs : List X) (a : A) → Contains (map f xs) a → (x : X) × Contains xs x × (f x ≡ a)
from_map f [] a at = absurd (nowhere a at)
from_map f (x ∷ xs) a at = elim (contains_cases (f x) (map f xs) a at) [
  | inl same ↦ (x, contains_first x xs, same)
  | inr later ↦ (let (y, among, same) = from_map f xs a later in (y, contains_later x xs y among, same))
]

pub contains_map : {X A : Type 0} (f : X → A) (xs : List X) (x : X) → Contains xs x → Contains (map f xs) (f x)
contains_map f [] x at = absurd (nowhere x at)
contains_map f (y ∷ ys) x at = elim (contains_cases y ys x at) [
  | inl same ↦ subst (λ z. Contains (f y ∷ map f ys) (f z)) same (contains_first (f y) (map f ys))
  | inr later ↦ contains_later (f y) (map f ys) (f x) (contains_map f ys x later)
]

-- the numbers below a bound
pub in_up_to : (n x : ℕ) → x < n → Contains (up_to n) x
in_up_to n x below = (x, (let l = length-range_with_len 0 n in omega (arith, l, below)), get_or-range_with_len 0 n x x below ∙ zero-add x)

pub below_up_to : (n x : ℕ) → Contains (up_to n) x → x < n
below_up_to n x (k, within, is) =
    let l = length-range_with_len 0 n in
    let below : k < n = omega (arith, within, l) in
    let at = get_or-range_with_len 0 n k x below in
    omega (arith, is, at, below)

-- one more of them
pub up_to_more : (n : ℕ) → up_to (n + 1) ≡ up_to n ++ n ∷ []
up_to_more n = sym (map-id (up_to (n + 1))) ∙ map-range_with_len_more (λ (x : ℕ). x) 0 n n (zero-add n) ∙ ap (λ (l : List ℕ). l ++ n ∷ []) (map-id (up_to n))

-- what the numbers up to one more give
pub flat_map_up_to : {A : Type 0} (f : ℕ → List A) (n : ℕ) → flat_map f (up_to (n + 1)) ≡ flat_map f (up_to n) ++ f n
flat_map_up_to f n = ap (flat_map f) (up_to_more n) ∙ flat_map-append f (up_to n) (n ∷ []) ∙ ap (λ l. flat_map f (up_to n) ++ l) (append-nil (f n))

-- a fold over one more
pub fold_next : {A B : Type 0} (f : B → A → B) (a before next : B) (xs : List A) (i : ℕ) (x : A) → i < length xs → x ≡ get_or xs i x →
    before ≡ fold f a (take i xs) → next ≡ f before x → next ≡ fold f a (take (i + 1) xs)
fold_next f a before next xs i x within is so_far step =
    step ∙ ap (λ b. f b x) so_far ∙ ap (f (fold f a (take i xs))) is ∙ sym (fold_more f a xs i x within)

-- the same where each gives some
pub fold_flat_next : {A B C : Type 0} (f : B → C → B) (g : A → List C) (a before next : B) (xs : List A) (i : ℕ) (x : A) → i < length xs → x ≡ get_or xs i x →
    before ≡ fold f a (flat_map g (take i xs)) → next ≡ fold f before (g x) → next ≡ fold f a (flat_map g (take (i + 1) xs))
fold_flat_next f g a before next xs i x within is so_far step =
    let one = ap (λ l. flat_map g (take i xs) ++ l) (append-nil (g x)) in
    let more : flat_map g (take (i + 1) xs) ≡ flat_map g (take i xs) ++ g x =
    ap (flat_map g) (take_more xs i x within ∙ ap (λ y. take i xs ++ y ∷ []) (sym is)) ∙ flat_map-append g (take i xs) (x ∷ []) ∙ one in
    step ∙ ap (λ b. fold f b (g x)) so_far ∙ sym (ap (fold f a) more ∙ fold-append f a (flat_map g (take i xs)) (g x))

-- a fold over all
pub fold_whole : {A B : Type 0} (f : B → A → B) (a last : B) (xs : List A) (i : ℕ) → length xs ≤ i → last ≡ fold f a (take i xs) → last ≡ fold f a xs
fold_whole f a last xs i done is = is ∙ ap (fold f a) (take_all i xs done)

pub fold_flat_whole : {A B C : Type 0} (f : B → C → B) (g : A → List C) (a last : B) (xs : List A) (i : ℕ) → length xs ≤ i → last ≡ fold f a (flat_map g (take i xs)) → last ≡ fold f a (flat_map g xs)
fold_flat_whole f g a last xs i done is = is ∙ ap (λ l. fold f a (flat_map g l)) (take_all i xs done)

-- what each gives, behind what stood there
pub flat_next : {A B : Type 0} (g : A → List B) (start before next : List B) (xs : List A) (i : ℕ) (x : A) → i < length xs → x ≡ get_or xs i x →
    before ≡ start ++ flat_map g (take i xs) → next ≡ before ++ g x → next ≡ start ++ flat_map g (take (i + 1) xs)
flat_next g start before next xs i x within is so_far step =
    step ∙ ap (λ l. l ++ g x) so_far ∙ flat_map_more g start (take i xs) x ∙ sym (ap (λ l. start ++ flat_map g l) (take_more xs i x within ∙ ap (λ y. take i xs ++ y ∷ []) (sym is)))
