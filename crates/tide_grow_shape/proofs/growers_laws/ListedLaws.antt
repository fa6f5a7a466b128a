-- A shape that is known has the keys that what was read gives it.
use Rattle.std.proofs.Common.{ℕ, ◌≡◌, true, refl, sym, ◌∙◌, ap, subst, List, true≢false, Option, None, Some}
use Rattle.std.proofs.lemmas.List.Elements.{All-contains}
use Rattle.std.specs.Prelude.{All, Contains, is_some}
use Rattle.tide_grow_shape.specs.growers.Grown.{Fact, known_keys}
use Rattle.tide_grow_shape.specs.transitions.Walks.{Edge, AreOfOne, Lists}
use Rattle.tide_grow_shape.proofs.transitions_laws.GrownLaws.{keys_same}
use Rattle.tide_grow_shape.proofs.growers_laws.KnownLaws.{known_is_fact, fact_is_known}

module _ (edges : List Edge) (one : AreOfOne edges) (facts : List Fact) (known : All (λ (f : Fact). Lists edges f.shape f.keys) facts) where
  -- what is known of a shape it has
  pub lists_fact : (shape : ℕ) (keys : List ℕ) → known_keys facts shape ≡ Some keys → Lists edges shape keys
  lists_fact shape keys is = All-contains (λ (f : Fact). Lists edges f.shape f.keys) facts record { shape = shape; keys = keys } known (known_is_fact facts shape keys is)

  -- and what a known shape has is known of it
  pub known_by : (shape : ℕ) (keys : List ℕ) → is_some (known_keys facts shape) ≡ true → Lists edges shape keys → known_keys facts shape ≡ Some keys
  known_by shape keys there lists = by_cases (known_keys facts shape) refl
    where
      by_cases : (o : Option (List ℕ)) → known_keys facts shape ≡ o → known_keys facts shape ≡ Some keys
      by_cases None e = absurd (true≢false (sym there ∙ ap is_some e))
      by_cases (Some others) e = e ∙ ap (λ (xs : List ℕ). Some xs) (keys_same edges one refl (lists_fact shape others e) lists)

  -- each fact is known
  pub fact_known : (shape : ℕ) (keys : List ℕ) → Contains facts record { shape = shape; keys = keys } → known_keys facts shape ≡ Some keys
  fact_known shape keys there = known_by shape keys
      (subst (λ (f : Fact). is_some (known_keys facts f.shape) ≡ true) there.2 (fact_is_known facts there.0 record { shape = shape; keys = keys } there.1))
      (All-contains (λ (f : Fact). Lists edges f.shape f.keys) facts record { shape = shape; keys = keys } known there)
