-- Where numbers stand in a list that grows.
use native.Mathlib.Omega.{arith}
use Rattle.std.proofs.Common.{ℕ, zero, suc, ◌+◌, ◌≡◌, ◌≢◌, ◌<◌, Bool, true, false, cond, refl, sym, ◌∙◌, ap, List, [], ◌∷◌, ◌++◌, length, map, get_or, inl, inr, eq-eqb, eqb, true≢false, Option, None, Some}
use Rattle.std.proofs.lemmas.Bool.{ne_eqb, cases_eq}
use Rattle.std.specs.Option.{option_map}
use Rattle.std.specs.Prelude.{is_some, nat_eq}
use Rattle.std.specs.HashMap.{get}
use Rattle.std.specs.Map.{lookup}
use Rattle.tide_grow_shape.specs.transitions.Places.{Indexes, place_of}
use Rattle.tide_grow_shape.specs.declared.transitions.places.Places.{Places}

-- what was found stays, and else the last number is found at its place
abbrev pub after : Option ℕ → Bool → ℕ → Option ℕ
after (Some at) is place = Some at
after None is place = cond is (Some place) None

abbrev later : Option ℕ → Option ℕ
later = option_map (λ place. place + 1)

later_after : (o : Option ℕ) (is : Bool) (place : ℕ) → later (after o is place) ≡ after (later o) is (place + 1)
later_after (Some at) is place = refl
later_after None true place = refl
later_after None false place = refl

one_more : (here is : Bool) (place : ℕ) (o o' : Option ℕ) → o ≡ after o' is place → cond here (Some 0) (later o) ≡ after (cond here (Some 0) (later o')) is (place + 1)
one_more true is place o o' same = refl
one_more false is place o o' same = ap later same ∙ later_after o' is place

pub place_of-push : (numbers : List ℕ) (last number : ℕ) → place_of (numbers ++ last ∷ []) number ≡ after (place_of numbers number) (eqb last number) (length numbers)
place_of-push [] last number = refl
place_of-push (first ∷ others) last number =
    one_more (eqb first number) (eqb last number) (length others) (place_of (others ++ last ∷ []) number) (place_of others number) (place_of-push others last number)
    ∙ ap (after (cond (eqb first number) (Some 0) (later (place_of others number))) (eqb last number)) (longer first others)
  where
    longer : (x : ℕ) (xs : List ℕ) → length xs + 1 ≡ length (x ∷ xs)
    longer x xs = omega arith

none_of_some : {X P : Type 0} (x : X) → Some x ≡ None → P
none_of_some x e = grind (arith, e)

-- a number that stands in the list already is found where it was
pub place_of_old : (numbers : List ℕ) (last number : ℕ) → is_some (place_of numbers last) ≡ true → place_of numbers number ≡ place_of (numbers ++ last ∷ []) number
place_of_old numbers last number there = by_cases (place_of numbers number) refl ∙ sym (place_of-push numbers last number)
  where
    by_cases : (o : Option ℕ) → place_of numbers number ≡ o → place_of numbers number ≡ after (place_of numbers number) (eqb last number) (length numbers)
    by_cases (Some at) is = is ∙ ap (λ (o : Option ℕ). after o (eqb last number) (length numbers)) (sym is)
    by_cases None is = elim (cases_eq last number) [
      | inl same ↦ absurd (true≢false (sym there ∙ ap is_some (ap (place_of numbers) same ∙ is)))
      | inr apart ↦ is ∙ sym (ap (λ (b : Bool). cond b (Some (length numbers)) None) (ne_eqb last number apart)) ∙ ap (λ (o : Option ℕ). after o (eqb last number) (length numbers)) (sym is)
    ]

-- a number that didn't is found last
pub place_of_new : (numbers : List ℕ) (last number : ℕ) → is_some (place_of numbers last) ≡ false → cond (eqb last number) (Some (length numbers)) (place_of numbers number) ≡ place_of (numbers ++ last ∷ []) number
place_of_new numbers last number none = elim (cases_eq last number) [
  | inl same ↦ by_last (place_of numbers number) refl same
  | inr apart ↦ ap (λ (b : Bool). cond b (Some (length numbers)) (place_of numbers number)) (ne_eqb last number apart) ∙ by_other (place_of numbers number) refl apart
] ∙ sym (place_of-push numbers last number)
  where
    by_last : (o : Option ℕ) → place_of numbers number ≡ o → last ≡ number → cond (eqb last number) (Some (length numbers)) (place_of numbers number) ≡ after (place_of numbers number) (eqb last number) (length numbers)
    by_last (Some at) is same = absurd (true≢false (sym (ap is_some (ap (place_of numbers) same ∙ is)) ∙ none))
    by_last None is same = ap (cond (eqb last number) (Some (length numbers))) is ∙ ap (λ (o : Option ℕ). after o (eqb last number) (length numbers)) (sym is)

    by_other : (o : Option ℕ) → place_of numbers number ≡ o → last ≢ number → place_of numbers number ≡ after (place_of numbers number) (eqb last number) (length numbers)
    by_other (Some at) is apart = is ∙ ap (λ (o : Option ℕ). after o (eqb last number) (length numbers)) (sym is)
    by_other None is apart = is ∙ sym (ap (λ (b : Bool). cond b (Some (length numbers)) None) (ne_eqb last number apart)) ∙ ap (λ (o : Option ℕ). after o (eqb last number) (length numbers)) (sym is)

-- what stands where a number was found
record Found {X : Type 0} (f : X → ℕ) (xs : List X) (number at : ℕ) : Type 0 where
  pub within : at < length xs
  pub is : (d : X) → f (get_or xs at d) ≡ number

pub some_same : {X : Type 0} {x y : X} → Some x ≡ Some y → x ≡ y
some_same e = grind (arith, e)

found_next : {X : Type 0} (f : X → ℕ) (x : X) (xs : List X) (number at : ℕ) → ((p : ℕ) → place_of (map f xs) number ≡ Some p → Found f xs number p)
    → (o : Option ℕ) → place_of (map f xs) number ≡ o → later (place_of (map f xs) number) ≡ Some at → Found f (x ∷ xs) number at
found_next f x xs number at others None none e = none_of_some at (sym e ∙ ap later none)
found_next f x xs number at others (Some p) some e =
    let r = others p some in
    let next : at ≡ p + 1 = some_same (sym e ∙ ap later some) in
    let after : at ≡ suc p = omega (arith, next) in
    record { within = let inside = r.within in omega (arith, next, inside); is = λ d. ap (λ (n : ℕ). f (get_or (x ∷ xs) n d)) after ∙ r.is d }

found : {X : Type 0} (f : X → ℕ) (xs : List X) (number at : ℕ) → place_of (map f xs) number ≡ Some at → Found f xs number at
found f [] number at is = none_of_some at (sym is)
found f (x ∷ xs) number at is = elim (cases_eq (f x) number) [
  | inl same ↦
      let zero_is : at ≡ 0 = some_same (sym is ∙ ap (λ (b : Bool). cond b (Some 0) (later (place_of (map f xs) number))) (eq-eqb (f x) number same)) in
      record { within = omega (arith, zero_is); is = λ d. ap (λ (n : ℕ). f (get_or (x ∷ xs) n d)) zero_is ∙ same }
  | inr apart ↦ found_next f x xs number at (λ p. found f xs number p) (place_of (map f xs) number) refl
      (sym (ap (λ (b : Bool). cond b (Some 0) (later (place_of (map f xs) number))) (ne_eqb (f x) number apart)) ∙ is)
]

-- a number was found where an element has it
pub place_of_within : {X : Type 0} (f : X → ℕ) (xs : List X) (number at : ℕ) → place_of (map f xs) number ≡ Some at → at < length xs
place_of_within f xs number at is = (found f xs number at is).within

pub place_of_is : {X : Type 0} (f : X → ℕ) (xs : List X) (number at : ℕ) (d : X) → place_of (map f xs) number ≡ Some at → f (get_or xs at d) ≡ number
place_of_is f xs number at d is = (found f xs number at is).is d

-- a number that wasn't found no element has
none_later : (o : Option ℕ) → later o ≡ None → o ≡ None
none_later None e = refl
none_later (Some p) e = none_of_some (p + 1) e

none_next : {X : Type 0} (f : X → ℕ) (x : X) (xs : List X) (number : ℕ) → f x ≢ number → place_of (map f (x ∷ xs)) number ≡ None → place_of (map f xs) number ≡ None
none_next f x xs number apart none = none_later (place_of (map f xs) number) (sym (ap (λ (b : Bool). cond b (Some 0) (later (place_of (map f xs) number))) (ne_eqb (f x) number apart)) ∙ none)

none_first : {X : Type 0} (f : X → ℕ) (x : X) (xs : List X) (number : ℕ) → place_of (map f (x ∷ xs)) number ≡ None → f x ≢ number
none_first f x xs number none same = none_of_some 0 (sym (ap (λ (b : Bool). cond b (Some 0) (later (place_of (map f xs) number))) (eq-eqb (f x) number same)) ∙ none)

pub place_of_none : {X : Type 0} (f : X → ℕ) (xs : List X) (number : ℕ) → place_of (map f xs) number ≡ None → (k : ℕ) (d : X) → k < length xs → f (get_or xs k d) ≢ number
place_of_none f [] number none k d within = absurd (omega (arith, within))
place_of_none f (x ∷ xs) number none zero d within = none_first f x xs number none
place_of_none f (x ∷ xs) number none (suc k) d within = place_of_none f xs number (none_next f x xs number (none_first f x xs number none) none) k d (omega (arith, within))

-- places of no number
pub indexes_none : (p : Places) → p.places.entries ≡ [] → Indexes p []
indexes_none p none number = ap (λ (es : List (ℕ × ℕ)). lookup (nat_eq number) es) none

-- places that tell the same
pub indexes_same : (p q : Places) (numbers : List ℕ) → ((n : ℕ) → get nat_eq q.places n ≡ get nat_eq p.places n) → Indexes p numbers → Indexes q numbers
indexes_same p q numbers same is n = same n ∙ is n

-- one number more, which is there already
pub indexes_old : (p : Places) (numbers : List ℕ) (last : ℕ) → is_some (get nat_eq p.places last) ≡ true → Indexes p numbers → Indexes p (numbers ++ last ∷ [])
indexes_old p numbers last there is n = is n ∙ place_of_old numbers last n (sym (ap is_some (is last)) ∙ there)

-- and which isn't
pub indexes_new : (p q : Places) (numbers : List ℕ) (last place : ℕ) → is_some (get nat_eq p.places last) ≡ false
    → ((n : ℕ) → get nat_eq q.places n ≡ cond (nat_eq last n) (Some place) (get nat_eq p.places n)) → place ≡ length numbers → Indexes p numbers → Indexes q (numbers ++ last ∷ [])
indexes_new p q numbers last place none updates at is n =
    updates n ∙ ap (λ (o : Option ℕ). cond (nat_eq last n) (Some place) o) (is n) ∙ ap (λ (k : ℕ). cond (nat_eq last n) (Some k) (place_of numbers n)) at
    ∙ place_of_new numbers last n (sym (ap is_some (is last)) ∙ none)
