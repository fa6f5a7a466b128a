-- What was read of one table grows.
use native.Mathlib.Omega.{arith}
use Rattle.std.proofs.Common.{◌≡◌, ◌≢◌, ◌<◌, sym, ◌∙◌, ap, List, [], ◌∷◌, ◌++◌, inl, inr}
use Rattle.std.proofs.lemmas.List.Elements.{Contains-push_cases}
use Rattle.std.specs.Prelude.{Contains}
use Rattle.tide_grow_shape.specs.transitions.Walks.{Edge, AreOfOne}
use Rattle.tide_grow_shape.specs.transitions.Sights.{edge_of}
use Rattle.tide_grow_shape.specs.declared.transitions.sight.Sight.{Sight}

-- nothing was read
pub AreOfOne-nothing : AreOfOne []
AreOfOne-nothing = record { spots = λ a b h. grind (arith, h); parents = λ a b h. grind (arith, h); keys = λ a b h. grind (arith, h); some = λ a h. grind (arith, h) }

-- an edge that was read last is of one table with those before it
pub AreOfOne-push : (edges : List Edge) (new : Edge) → AreOfOne edges → new.child ≢ 0
    → ((a : Edge) → Contains edges a → a.spot ≡ new.spot → a.child ≡ new.child)
    → ((a : Edge) → Contains edges a → a.child ≡ new.child → (a.parent ≡ new.parent) × (a.key ≡ new.key))
    → AreOfOne (edges ++ new ∷ [])
AreOfOne-push edges new one some spots told = record {
  spots = λ a b in_a in_b same. elim (Contains-push_cases edges new a in_a) [
    | inl a_old ↦ elim (Contains-push_cases edges new b in_b) [
      | inl b_old ↦ one.spots a b a_old b_old same
      | inr b_new ↦ spots a a_old (same ∙ sym (ap (λ (e : Edge). e.spot) b_new)) ∙ ap (λ (e : Edge). e.child) b_new
    ]
    | inr a_new ↦ elim (Contains-push_cases edges new b in_b) [
      | inl b_old ↦ sym (spots b b_old (sym same ∙ sym (ap (λ (e : Edge). e.spot) a_new)) ∙ ap (λ (e : Edge). e.child) a_new)
      | inr b_new ↦ ap (λ (e : Edge). e.child) (sym a_new ∙ b_new)
    ]
  ];
  parents = λ a b in_a in_b same. elim (Contains-push_cases edges new a in_a) [
    | inl a_old ↦ elim (Contains-push_cases edges new b in_b) [
      | inl b_old ↦ one.parents a b a_old b_old same
      | inr b_new ↦ (told a a_old (same ∙ sym (ap (λ (e : Edge). e.child) b_new))).0 ∙ ap (λ (e : Edge). e.parent) b_new
    ]
    | inr a_new ↦ elim (Contains-push_cases edges new b in_b) [
      | inl b_old ↦ sym ((told b b_old (sym same ∙ sym (ap (λ (e : Edge). e.child) a_new))).0 ∙ ap (λ (e : Edge). e.parent) a_new)
      | inr b_new ↦ ap (λ (e : Edge). e.parent) (sym a_new ∙ b_new)
    ]
  ];
  keys = λ a b in_a in_b same. elim (Contains-push_cases edges new a in_a) [
    | inl a_old ↦ elim (Contains-push_cases edges new b in_b) [
      | inl b_old ↦ one.keys a b a_old b_old same
      | inr b_new ↦ (told a a_old (same ∙ sym (ap (λ (e : Edge). e.child) b_new))).1 ∙ ap (λ (e : Edge). e.key) b_new
    ]
    | inr a_new ↦ elim (Contains-push_cases edges new b in_b) [
      | inl b_old ↦ sym ((told b b_old (sym same ∙ sym (ap (λ (e : Edge). e.child) a_new))).1 ∙ ap (λ (e : Edge). e.key) a_new)
      | inr b_new ↦ ap (λ (e : Edge). e.key) (sym a_new ∙ b_new)
    ]
  ];
  some = λ a in_a. elim (Contains-push_cases edges new a in_a) [
    | inl a_old ↦ one.some a a_old
    | inr a_new ↦ λ zero. some (ap (λ (e : Edge). e.child) a_new ∙ zero)
  ];
}

-- so is that of a sight which tells of its cell, and of its child, what was read
pub AreOfOne_seen : (edges : List Edge) (s : Sight) → AreOfOne edges → 0 < s.child
    → ((a : Edge) → Contains edges a → a.spot ≡ (edge_of s).spot → a.child ≡ s.child)
    → ((a : Edge) → Contains edges a → a.child ≡ s.child → (a.parent ≡ s.parent) × (a.key ≡ s.key))
    → AreOfOne (edges ++ edge_of s ∷ [])
AreOfOne_seen edges s one some spots told = AreOfOne-push edges (edge_of s) one (λ zero. grind (arith, some, zero)) spots told
