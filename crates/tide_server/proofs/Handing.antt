-- Tickets are posted place by place.
use Rattle.std.proofs.Common.{ℕ, zero, suc, ◌≡◌, ◌↔◌, ◌+◌, ◌<◌, ◌≤◌, ◌∙◌, refl, sym, ap, subst, arith, Bool, true, false, not, List, [], ◌∷◌, get_or, inl, inr, ◌⊎◌, true≢false}
use Rattle.std.proofs.lemmas.Bool.{and_parts, cases_Bool, cases_eq, eq-eqb, le-ltb, lt-ltb, ltb-false, ltb-true, ne_eqb}
use Rattle.std.specs.Prelude.{if◌then◌else◌, nat_lt}
use Rattle.tide_model.specs.Layout.{Layout}
use Rattle.tide_model.specs.Numbers.{count_where}
use Rattle.tide_posts.specs.Name.{places}
use Rattle.tide_posts.specs.Among.{Among, places_below, times}
use Rattle.tide_server.specs.Keepers.{has_left}

-- who has left was a mutator
pub has_left-below : (layout : Layout) (left : List Bool) (place : ℕ) → has_left layout left place ≡ true → place < layout.mutators
has_left-below layout left place is = ltb-true place layout.mutators (and_parts (nat_lt place layout.mutators) (get_or left place false) is).0

-- each place below a number is among those
pub Among-below : (n place : ℕ) → place < n → Among place (places_below n)
Among-below zero place below = absurd (omega (arith, below))
Among-below (suc n) place below = elim (cases_eq place n) [
  | inl same ↦ inl same
  | inr apart ↦ inr (Among-below n place (omega (arith, below, apart)))
]

one_more : (n : ℕ) → suc n ≡ n + 1
one_more n = omega arith

module _ (layout : Layout) (left : List Bool) (place start given : ℕ)
    (were : given ≡ start + count_where (λ p. not (has_left layout left p)) place) where
  -- whose participant has left gets none
  pub posted-none : has_left layout left place ≡ true →
      given ≡ start + count_where (λ p. not (has_left layout left p)) (place + 1)
  posted-none is = subst (λ (n : ℕ). given ≡ start + count_where (λ p. not (has_left layout left p)) n) (one_more place)
      (let none = ap {B = ℕ} (λ (b : Bool). if not b then 1 else 0) is in omega (arith, were, none))

  -- any other gets one
  pub posted-one : (now : ℕ) → has_left layout left place ≡ false → now ≡ given + 1 →
      now ≡ start + count_where (λ p. not (has_left layout left p)) (place + 1)
  posted-one now isnt more = subst (λ (n : ℕ). now ≡ start + count_where (λ p. not (has_left layout left p)) n) (one_more place)
      (let one = ap {B = ℕ} (λ (b : Bool). if not b then 1 else 0) isnt in omega (arith, were, one, more))

module _ (layout : Layout) (left : List Bool) (place : ℕ) (free now : List ℕ)
    (kept : (q : ℕ) → (q ≡ place → ⊥) → Among q free → Among q now) where
  -- it is known where tickets are due at later places
  pub ahead-more : ((q : ℕ) → place ≤ q → q < places layout → Among q free) →
      (q : ℕ) → place + 1 ≤ q → q < places layout → Among q now
  ahead-more ahead q later below = kept q (λ same. omega (arith, later, same)) (ahead q (omega (arith, later)) below)

  -- and where who has left was
  pub due-more : has_left layout left place ≡ false → ((q : ℕ) → has_left layout left q ≡ true → Among q free) →
      (q : ℕ) → has_left layout left q ≡ true → Among q now
  due-more isnt due q is = kept q (λ same. true≢false (sym is ∙ ap (has_left layout left) same ∙ isnt)) (due q is)

-- no end was posted yet
pub ends-none : (q from start : ℕ) → start ≡ from → (ends : List ℕ) →
    Among q ends ↔ (Among q ends ⊎ ((from ≤ q) × (q < start)))
ends-none q from start same ends = (λ is. inl is, back)
  where
    back : Among q ends ⊎ ((from ≤ q) × (q < start)) → Among q ends
    back (inl is) = is
    back (inr there) = let least = there.0 in let most = there.1 in absurd (omega (arith, same, least, most))

-- one more end was posted
pub ends-more : (q from place : ℕ) → from ≤ place → (start ends now : List ℕ) → now ≡ place ∷ ends →
    Among q ends ↔ (Among q start ⊎ ((from ≤ q) × (q < place))) →
    Among q now ↔ (Among q start ⊎ ((from ≤ q) × (q < place + 1)))
ends-more q from place behind start ends now is were = (λ e. to (subst (Among q) is e), λ e. subst (Among q) (sym is) (back e))
  where
    to : Among q (place ∷ ends) → Among q start ⊎ ((from ≤ q) × (q < place + 1))
    to (inl same) = inr (omega (arith, same, behind), omega (arith, same))
    to (inr there) = elim (were.0 there) [
      | inl was ↦ inl was
      | inr at ↦ let least = at.0 in let most = at.1 in inr (least, omega (arith, most))
    ]

    back : Among q start ⊎ ((from ≤ q) × (q < place + 1)) → Among q (place ∷ ends)
    back (inl was) = inr (were.1 (inl was))
    back (inr at) = let least = at.0 in let most = at.1 in elim (cases_eq q place) [
      | inl same ↦ inl same
      | inr apart ↦ inr (were.1 (inr (least, omega (arith, most, apart))))
    ]

-- where no end was posted before, these are all
pub ends_are : (q from to : ℕ) (start ends : List ℕ) → start ≡ [] →
    Among q ends ↔ (Among q start ⊎ ((from ≤ q) × (q < to))) → Among q ends ↔ ((from ≤ q) × (q < to))
ends_are q from to start ends none are = (λ e. only (are.0 e), λ e. are.1 (inr e))
  where
    only : Among q start ⊎ ((from ≤ q) × (q < to)) → (from ≤ q) × (q < to)
    only (inl was) = absurd (subst (Among q) none was)
    only (inr there) = there

-- whether a place is below one more
below-more : (q place : ℕ) → (q ≡ place → ⊥) → nat_lt q (place + 1) ≡ nat_lt q place
below-more q place apart = elim (cases_Bool (nat_lt q place)) [
  | inl below ↦ lt-ltb q (place + 1) (let less = ltb-true q place below in omega (arith, less)) ∙ sym below
  | inr isnt ↦ le-ltb q (place + 1) (let least = ltb-false q place isnt in omega (arith, least, apart)) ∙ sym isnt
]

-- how many tickets a place got, once those of all places below one are posted
abbrev pub got : Layout → List Bool → ℕ → ℕ → ℕ
got layout left next place = if has_left layout left place then 0 else (if nat_lt place next then 1 else 0)

module _ (layout : Layout) (left : List Bool) where
  -- who isn't below got none yet
  pub got-none : (next q : ℕ) → next ≤ q → got layout left next q ≡ 0
  got-none next q behind = ap {B = ℕ} (λ (b : Bool). if has_left layout left q then 0 else (if b then 1 else 0)) (le-ltb q next behind)
      ∙ by (has_left layout left q)
    where
      by : (b : Bool) → ◌≡◌ {A = ℕ} (if b then 0 else 0) 0
      by true = refl
      by false = refl

  -- and who is below got one, but for who has left
  pub got-all : (next q : ℕ) → q < next → got layout left next q ≡ (if has_left layout left q then 0 else 1)
  got-all next q below = ap {B = ℕ} (λ (b : Bool). if has_left layout left q then 0 else (if b then 1 else 0)) (lt-ltb q next below)

  -- who has left gets none
  pub got-left : (place q : ℕ) → has_left layout left place ≡ true → got layout left (place + 1) q ≡ got layout left place q
  got-left place q is = elim (cases_eq q place) [
    | inl same ↦
        let has = ap (has_left layout left) same ∙ is in
        ap {B = ℕ} (λ (b : Bool). if b then 0 else (if nat_lt q (place + 1) then 1 else 0)) has
        ∙ sym (ap {B = ℕ} (λ (b : Bool). if b then 0 else (if nat_lt q place then 1 else 0)) has)
    | inr apart ↦ ap {B = ℕ} (λ (b : Bool). if has_left layout left q then 0 else (if b then 1 else 0)) (below-more q place apart)
  ]

  -- any other gets one
  pub got-one : (place q : ℕ) (start was now : List ℕ) → has_left layout left place ≡ false → now ≡ place ∷ was →
      times q was ≡ times q start + got layout left place q → times q now ≡ times q start + got layout left (place + 1) q
  got-one place q start was now isnt is were = elim (cases_eq q place) [
    | inl same ↦
        let here = ap (times q) is ∙ ap {B = ℕ} (λ (b : Bool). (if b then 1 else 0) + times q was) (eq-eqb q place same) in
        let none = got-none place q (let at = same in omega (arith, at)) in
        let one = got-all (place + 1) q (let at = same in omega (arith, at))
        ∙ ap {B = ℕ} (λ (b : Bool). if b then 0 else 1) (ap (has_left layout left) same ∙ isnt) in
        omega (arith, here, none, one, were)
    | inr apart ↦
        let there = ap (times q) is ∙ ap {B = ℕ} (λ (b : Bool). (if b then 1 else 0) + times q was) (ne_eqb q place apart) in
        let as_was = ap {B = ℕ} (λ (b : Bool). if has_left layout left q then 0 else (if b then 1 else 0)) (below-more q place apart) in
        omega (arith, there, as_was, were)
  ]

-- how many notes of the open part are out of a place, where those of all places below one are in
abbrev pub out_of : ℕ → ℕ → ℕ
out_of next place = if nat_lt place next then 0 else 1

pub out-more : (place q : ℕ) → (q ≡ place → ⊥) → out_of (place + 1) q ≡ out_of place q
out-more place q apart = ap {B = ℕ} (λ (b : Bool). if b then 0 else 1) (below-more q place apart)

-- one more note was taken
pub out-one : (place q number : ℕ) (was now : List ℕ) → now ≡ place ∷ was → times q was + out_of place q ≡ number →
    times q now + out_of (place + 1) q ≡ number
out-one place q number was now is were = elim (cases_eq q place) [
  | inl same ↦
      let here = ap (times q) is ∙ ap {B = ℕ} (λ (b : Bool). (if b then 1 else 0) + times q was) (eq-eqb q place same) in
      let before = ap {B = ℕ} (λ (b : Bool). if b then 0 else 1) (le-ltb q place (let at = same in omega (arith, at))) in
      let after = ap {B = ℕ} (λ (b : Bool). if b then 0 else 1) (lt-ltb q (place + 1) (let at = same in omega (arith, at))) in
      omega (arith, here, before, after, were)
  | inr apart ↦
      let there = ap (times q) is ∙ ap {B = ℕ} (λ (b : Bool). (if b then 1 else 0) + times q was) (ne_eqb q place apart) in
      let as_was = out-more place q apart in
      omega (arith, there, as_was, were)
]
