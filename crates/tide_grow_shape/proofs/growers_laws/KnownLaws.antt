-- What is known of a shape, by where it stands, and what one more changes.
use native.Mathlib.Omega.{arith}
use Rattle.std.proofs.Common.{ℕ, zero, suc, ◌≡◌, ◌≢◌, ◌<◌, ◌+◌, Bool, true, false, cond, refl, sym, ◌∙◌, ap, List, [], ◌∷◌, ◌++◌, length, map, get_or, inl, inr, eq-eqb, eqb, Option, None, Some}
use Rattle.std.proofs.lemmas.Bool.{ne_eqb, cases_eq}
use Rattle.std.specs.Option.{option_map}
use Rattle.std.specs.Prelude.{Contains, is_some}
use Rattle.tide_grow_shape.specs.growers.Grown.{Fact, known_keys}
use Rattle.tide_grow_shape.specs.growers.Known.{fact_of}
use Rattle.tide_grow_shape.specs.transitions.Places.{place_of}
use Rattle.tide_grow_shape.specs.declared.growers.known.KnownShape.{KnownShape}
use Rattle.tide_grow_shape.proofs.transitions_laws.PlaceLaws.{some_same}

pub none_some : {X P : Type 0} {x : X} → None ≡ Some x → P
none_some e = grind (arith, e)

-- the keys of the shape at a place, if there is one
abbrev keys_at : List KnownShape → KnownShape → Option ℕ → Option (List ℕ)
keys_at known d = option_map (λ at. (get_or known at d).keys.items)

later_keys : (k d : KnownShape) (known : List KnownShape) (o : Option ℕ) → keys_at (k ∷ known) d (option_map (λ place. place + 1) o) ≡ keys_at known d o
later_keys k d known None = refl
later_keys k d known (Some at) = let e : at + 1 ≡ suc at = omega arith in ap (λ (n : ℕ). Some (get_or (k ∷ known) n d).keys.items) e

-- a shape's keys are those at its first place
pub known_at : (known : List KnownShape) (d : KnownShape) (shape : ℕ) → keys_at known d (place_of (map (λ k. k.shape) known) shape) ≡ known_keys (map fact_of known) shape
known_at [] d shape = refl
known_at (k ∷ known) d shape = elim (cases_eq k.shape shape) [
  | inl same ↦ ap (λ (b : Bool). keys_at (k ∷ known) d (cond b (Some 0) (option_map (λ place. place + 1) (place_of (map (λ k. k.shape) known) shape)))) (eq-eqb k.shape shape same)
      ∙ sym (ap (λ (b : Bool). cond b (Some k.keys.items) (known_keys (map fact_of known) shape)) (eq-eqb k.shape shape same))
  | inr apart ↦ ap (λ (b : Bool). keys_at (k ∷ known) d (cond b (Some 0) (option_map (λ place. place + 1) (place_of (map (λ k. k.shape) known) shape)))) (ne_eqb k.shape shape apart)
      ∙ later_keys k d known (place_of (map (λ k. k.shape) known) shape) ∙ known_at known d shape
      ∙ sym (ap (λ (b : Bool). cond b (Some k.keys.items) (known_keys (map fact_of known) shape)) (ne_eqb k.shape shape apart))
]

pub known_some : (known : List KnownShape) (shape at : ℕ) (k : KnownShape) → place_of (map (λ k. k.shape) known) shape ≡ Some at → k ≡ get_or known at k → Some k.keys.items ≡ known_keys (map fact_of known) shape
known_some known shape at k place is = ap (λ (x : KnownShape). Some x.keys.items) is ∙ sym (ap (keys_at known k) place) ∙ known_at known k shape

pub known_none : (known : List KnownShape) (shape : ℕ) → place_of (map (λ k. k.shape) known) shape ≡ None → None ≡ known_keys (map fact_of known) shape
known_none [] shape none = refl
known_none (k ∷ known) shape none = sym (ap (keys_at (k ∷ known) k) none) ∙ known_at (k ∷ known) k shape

-- one more fact, of a shape that isn't known, is known, and changes no other
pub known_push : (facts : List Fact) (shape : ℕ) (keys : List ℕ) → known_keys facts shape ≡ None → known_keys (facts ++ record { shape = shape; keys = keys } ∷ []) shape ≡ Some keys
known_push [] shape keys none = ap (λ (b : Bool). cond b (Some keys) None) (eq-eqb shape shape refl)
known_push (f ∷ facts) shape keys none = elim (cases_eq f.shape shape) [
  | inl same ↦ none_some (sym (sym (ap (λ (b : Bool). cond b (Some f.keys) (known_keys facts shape)) (eq-eqb f.shape shape same)) ∙ none))
  | inr apart ↦ ap (λ (b : Bool). cond b (Some f.keys) (known_keys (facts ++ record { shape = shape; keys = keys } ∷ []) shape)) (ne_eqb f.shape shape apart)
      ∙ known_push facts shape keys (sym (ap (λ (b : Bool). cond b (Some f.keys) (known_keys facts shape)) (ne_eqb f.shape shape apart)) ∙ none)
]

pub known_others : (facts : List Fact) (shape other : ℕ) (keys : List ℕ) → other ≢ shape → known_keys (facts ++ record { shape = shape; keys = keys } ∷ []) other ≡ known_keys facts other
known_others [] shape other keys apart = ap (λ (b : Bool). cond b (Some keys) None) (ne_eqb shape other (λ same. apart (sym same)))
known_others (f ∷ facts) shape other keys apart = ap (λ (rest : Option (List ℕ)). cond (eqb f.shape other) (Some f.keys) rest) (known_others facts shape other keys apart)

-- what is known is a fact
pub known_is_fact : (facts : List Fact) (shape : ℕ) (keys : List ℕ) → known_keys facts shape ≡ Some keys → Contains facts record { shape = shape; keys = keys }
known_is_fact [] shape keys is = none_some is
known_is_fact (f ∷ facts) shape keys is = elim (cases_eq f.shape shape) [
  | inl same ↦ (0, omega arith, λ i. record { shape = same i; keys = some_same (sym (ap (λ (b : Bool). cond b (Some f.keys) (known_keys facts shape)) (eq-eqb f.shape shape same)) ∙ is) i })
  | inr apart ↦ let r = known_is_fact facts shape keys (sym (ap (λ (b : Bool). cond b (Some f.keys) (known_keys facts shape)) (ne_eqb f.shape shape apart)) ∙ is) in (suc r.0, omega (arith, r.1), r.2)
]

-- a shape of a fact is known
known_first : (f : Fact) (b : Bool) (rest : Option (List ℕ)) → is_some rest ≡ true → is_some (cond b (Some f.keys) rest) ≡ true
known_first f true rest is = refl
known_first f false rest is = is

pub fact_is_known : (facts : List Fact) (k : ℕ) (d : Fact) → k < length facts → is_some (known_keys facts (get_or facts k d).shape) ≡ true
fact_is_known [] k d within = absurd (omega (arith, within))
fact_is_known (f ∷ facts) zero d within = ap (λ (b : Bool). is_some (cond b (Some f.keys) (known_keys facts f.shape))) (eq-eqb f.shape f.shape refl)
fact_is_known (f ∷ facts) (suc k) d within = known_first f (eqb f.shape (get_or facts k d).shape) (known_keys facts (get_or facts k d).shape) (fact_is_known facts k d (omega (arith, within)))

pub facts_push : (known : List KnownShape) (k : KnownShape) → map fact_of (known ++ k ∷ []) ≡ map fact_of known ++ fact_of k ∷ []
facts_push [] k = refl
facts_push (x ∷ known) k = ap (λ (fs : List Fact). fact_of x ∷ fs) (facts_push known k)

pub shapes_push : (known : List KnownShape) (k : KnownShape) → map (λ k. k.shape) (known ++ k ∷ []) ≡ map (λ k. k.shape) known ++ k.shape ∷ []
shapes_push [] k = refl
shapes_push (x ∷ known) k = ap (λ (ns : List ℕ). x.shape ∷ ns) (shapes_push known k)
