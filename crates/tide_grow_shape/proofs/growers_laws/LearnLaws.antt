-- How a grower learns what another knows.
use native.Mathlib.Omega.{arith}
use Rattle.std.proofs.Common.{ℕ, ◌≡◌, ◌≢◌, ◌<◌, ◌≤◌, ◌+◌, ◌^◌, ◌⊎◌, Bool, true, false, cond, refl, sym, ◌∙◌, ap, subst, List, [], ◌∷◌, ◌++◌, length, map, get_or, inl, inr, Option, None, Some}
use Rattle.std.proofs.lemmas.Bool.{cases_eq}
use Rattle.std.proofs.lemmas.List.{get_or-map, get_or_default, length-map}
use Rattle.std.proofs.lemmas.List.Elements.{Contains-append_left, Contains-append_right, Contains-push_cases}
use Rattle.std.specs.Prelude.{Contains, is_some}
use Rattle.tide_grow_shape.specs.growers.Grown.{Fact, known_keys, learned}
use Rattle.tide_grow_shape.specs.growers.Known.{fact_of}
use Rattle.tide_grow_shape.specs.declared.growers.known.KnownShape.{KnownShape}
use Rattle.tide_grow_shape.proofs.growers_laws.KnownLaws.{known_push, known_others}

-- what was known stays, and at most one fact comes
pub contains_learned : (facts : List Fact) (shape : ℕ) (keys : List ℕ) (f : Fact) → Contains facts f → Contains (learned facts shape keys) f
contains_learned facts shape keys f there = by_cases (is_some (known_keys facts shape))
  where
    by_cases : (b : Bool) → Contains (cond b facts (facts ++ record { shape = shape; keys = keys } ∷ [])) f
    by_cases true = there
    by_cases false = Contains-append_left facts (record { shape = shape; keys = keys } ∷ []) f there

among_learned : (facts others : List Fact) (shape : ℕ) (keys : List ℕ) → Contains others record { shape = shape; keys = keys } → ((f : Fact) → Contains facts f → Contains others f)
    → (f : Fact) → Contains (learned facts shape keys) f → Contains others f
among_learned facts others shape keys one all f there = by_cases (is_some (known_keys facts shape)) there
  where
    by_cases : (b : Bool) → Contains (cond b facts (facts ++ record { shape = shape; keys = keys } ∷ [])) f → Contains others f
    by_cases true there = all f there
    by_cases false there = elim (Contains-push_cases facts (record { shape = shape; keys = keys }) f there) [
      | inl old ↦ all f old
      | inr new ↦ subst (Contains others) new one
    ]

-- a shape that was learned is known
pub some_learned : (facts : List Fact) (shape : ℕ) (keys : List ℕ) → is_some (known_keys (learned facts shape keys) shape) ≡ true
some_learned facts shape keys = by_cases (known_keys facts shape) refl
  where
    by_cases : (o : Option (List ℕ)) → known_keys facts shape ≡ o → is_some (known_keys (learned facts shape keys) shape) ≡ true
    by_cases None e = ap (λ (o : Option (List ℕ)). is_some (known_keys (cond (is_some o) facts (facts ++ record { shape = shape; keys = keys } ∷ [])) shape)) e ∙ ap is_some (known_push facts shape keys e)
    by_cases (Some others) e = ap (λ (o : Option (List ℕ)). is_some (known_keys (cond (is_some o) facts (facts ++ record { shape = shape; keys = keys } ∷ [])) shape)) e ∙ ap is_some e

-- and what was known still is
pub some_kept : (facts : List Fact) (shape : ℕ) (keys : List ℕ) (other : ℕ) → is_some (known_keys facts other) ≡ true → is_some (known_keys (learned facts shape keys) other) ≡ true
some_kept facts shape keys other there = elim (cases_eq other shape) [
  | inl same ↦ ap (λ (n : ℕ). is_some (known_keys (learned facts shape keys) n)) same ∙ some_learned facts shape keys
  | inr apart ↦ by_cases (is_some (known_keys facts shape)) apart
]
  where
    by_cases : (b : Bool) → other ≢ shape → is_some (known_keys (cond b facts (facts ++ record { shape = shape; keys = keys } ∷ [])) other) ≡ true
    by_cases true apart = there
    by_cases false apart = ap is_some (known_others facts shape other keys apart) ∙ there

-- so many of another grower's shapes were learned
pub record Learns (old now : List Fact) (shapes : List KnownShape) (count : ℕ) : Type 0 where
  pub kept : (f : Fact) → Contains old f → Contains now f
  pub among : (f : Fact) → Contains now f → Contains (old ++ map fact_of shapes) f
  pub merged : (k : ℕ) (d : KnownShape) → k < count → k < length shapes → is_some (known_keys now (get_or shapes k d).shape) ≡ true

pub learns_none : (old : List Fact) (shapes : List KnownShape) → Learns old old shapes 0
learns_none old shapes = record {
  kept = λ f there. there;
  among = λ f there. Contains-append_left old (map fact_of shapes) f there;
  merged = λ k d below within. absurd (omega (arith, below));
}

fact_in : (shapes : List KnownShape) (at : ℕ) (s : KnownShape) → at < length shapes → s ≡ get_or shapes at s → Contains (map fact_of shapes) (fact_of s)
fact_in shapes at s within is = (at, subst (λ (n : ℕ). at < n) (sym (length-map shapes fact_of)) within, get_or-map fact_of shapes at s (fact_of s) within ∙ ap fact_of (sym is))

pub learns_more : (old now new : List Fact) (shapes : List KnownShape) (at : ℕ) (s : KnownShape) (keys : List ℕ) → Learns old now shapes at → at < length shapes → s ≡ get_or shapes at s
    → keys ≡ s.keys.items → new ≡ learned now s.shape keys → Learns old new shapes (at + 1)
learns_more old now new shapes at s keys l within read copy is = subst (λ (facts : List Fact). Learns old facts shapes (at + 1)) (sym is) record {
  kept = λ f there. contains_learned now s.shape keys f (l.kept f there);
  among = among_learned now (old ++ map fact_of shapes) s.shape keys
      (subst (λ (ks : List ℕ). Contains (old ++ map fact_of shapes) record { shape = s.shape; keys = ks }) (sym copy) (Contains-append_right old (map fact_of shapes) (fact_of s) (fact_in shapes at s within read))) l.among;
  merged = λ k d below inside. elim (cases_eq k at) [
    | inl same ↦ subst (λ (t : KnownShape). is_some (known_keys (learned now s.shape keys) t.shape) ≡ true) (read ∙ sym (ap (λ (i : ℕ). get_or shapes i s) same) ∙ get_or_default shapes k s d inside) (some_learned now s.shape keys)
    | inr apart ↦ some_kept now s.shape keys (get_or shapes k d).shape (l.merged k d (omega (arith, below, apart)) inside)
  ];
}

-- at the end all are known
learnt_at : (now : List Fact) (shapes : List KnownShape) → ((k : ℕ) (d : KnownShape) → k < length shapes → is_some (known_keys now (get_or shapes k d).shape) ≡ true)
    → (f : Fact) (k : ℕ) → k < length shapes → get_or (map fact_of shapes) k f ≡ f → is_some (known_keys now f.shape) ≡ true
learnt_at now [] each f k within is = absurd (omega (arith, within))
learnt_at now (x ∷ xs) each f k within is =
    subst (λ (g : Fact). is_some (known_keys now g.shape) ≡ true) (sym (get_or-map fact_of (x ∷ xs) k x f within) ∙ is) (each k x within)

pub learns_all : (old now : List Fact) (shapes : List KnownShape) (count : ℕ) → Learns old now shapes count → length shapes ≤ count → (f : Fact) → Contains (map fact_of shapes) f → is_some (known_keys now f.shape) ≡ true
learns_all old now shapes count l enough f there =
    learnt_at now shapes (λ k d within. l.merged k d (omega (arith, enough, within)) within) f there.0 (subst (λ (n : ℕ). there.0 < n) (length-map shapes fact_of) there.1) there.2

-- a number that is above those of so many shapes, and the lowest that is
pub record IsPast (shapes : List KnownShape) (count past : ℕ) : Type 0 where
  pub above : (k : ℕ) (d : KnownShape) → k < count → k < length shapes → (get_or shapes k d).shape < past
  pub lowest : (bound : ℕ) → ((f : Fact) → Contains (map fact_of shapes) f → f.shape < bound) → past ≤ bound
  pub fits : past ≤ 2 ^ 32

pub past_none : (shapes : List KnownShape) → IsPast shapes 0 0
past_none shapes = record {
  above = λ k d below within. absurd (omega (arith, below));
  lowest = λ bound above. omega arith;
  fits = omega arith;
}

pub past_more : (shapes : List KnownShape) (at past new : ℕ) (s : KnownShape) → IsPast shapes at past → at < length shapes → s ≡ get_or shapes at s → s.shape < 2 ^ 32
    → past ≤ new → s.shape < new → (new ≡ past) ⊎ (new ≡ s.shape + 1) → IsPast shapes (at + 1) new
past_more shapes at past new s is within read small more last or = record {
  above = λ k d below inside. elim (cases_eq k at) [
    | inl same ↦ subst (λ (t : KnownShape). t.shape < new) (read ∙ sym (ap (λ (i : ℕ). get_or shapes i s) same) ∙ get_or_default shapes k s d inside) last
    | inr apart ↦ let old = is.above k d (omega (arith, below, apart)) inside in omega (arith, old, more)
  ];
  lowest = λ bound above. let old = is.lowest bound above in let it = above (fact_of s) (fact_in shapes at s within read) in elim or [
    | inl same ↦ omega (arith, old, same)
    | inr next ↦ omega (arith, it, next)
  ];
  fits = let old = is.fits in elim or [
    | inl same ↦ omega (arith, old, same)
    | inr next ↦ omega (arith, small, next)
  ];
}

-- a number that is above those of shapes is above those of their facts
pub past_all : (shapes : List KnownShape) (past : ℕ) → ((k : ℕ) (d : KnownShape) → k < length shapes → (get_or shapes k d).shape < past) → (f : Fact) → Contains (map fact_of shapes) f → f.shape < past
past_all [] past above f there = let none = there.1 in absurd (omega (arith, none))
past_all (x ∷ xs) past above f there =
    let within : there.0 < length (x ∷ xs) = subst (λ (n : ℕ). there.0 < n) (length-map (x ∷ xs) fact_of) there.1 in
    subst (λ (g : Fact). g.shape < past) (sym (get_or-map fact_of (x ∷ xs) there.0 x f within) ∙ there.2) (above there.0 x within)
