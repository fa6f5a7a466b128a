-- A table that was worked out by hand: the empty shape has the children 1, by key 5, and 2, by key 6, and 1 has the
-- child 3, by key 6.
use native.Mathlib.Omega.{arith}
use Rattle.std.proofs.Common.{ℕ, zero, suc, ◌≡◌, ◌≢◌, ◌<◌, cond, eqb, refl, sym, ◌∙◌, ap, subst, List, [], ◌∷◌, get_or}
use Rattle.std.specs.Prelude.{Contains}
use Rattle.tide_grow_shape.specs.transitions.Walks.{Spot, first_of, next_of, Edge, Finds, here, there, Lists, empty, longer, AreOfOne}
use Rattle.tide_grow_shape.proofs.transitions_laws.GrownLaws.{keys_same, shape_same}

-- what was read of it
abbrev one : Edge
one = record { spot = first_of 0; child = 1; parent = 0; key = 5 }

abbrev two : Edge
two = record { spot = next_of 1; child = 2; parent = 0; key = 6 }

abbrev three : Edge
three = record { spot = first_of 1; child = 3; parent = 1; key = 6 }

abbrev read : List Edge
read = one ∷ two ∷ three ∷ []

in_one : Contains read one
in_one = (0, omega arith, refl)

in_two : Contains read two
in_two = (1, omega arith, refl)

in_three : Contains read three
in_three = (2, omega arith, refl)

each : (P : Edge → Type 0) → P one → P two → P three → (e : Edge) → Contains read e → P e
each P p q r e is = by_place is.0 is.1 is.2
  where
    by_place : (k : ℕ) → k < 3 → get_or read k e ≡ e → P e
    by_place zero within at = subst P at p
    by_place (suc zero) within at = subst P at q
    by_place (suc (suc zero)) within at = subst P at r
    by_place (suc (suc (suc k))) within at = absurd (omega (arith, within))

-- it is of one table
abbrev child_of : Spot → ℕ
child_of spot = cond spot.next 2 (cond (eqb spot.shape 0) 1 3)

abbrev parent_of : ℕ → ℕ
parent_of child = cond (eqb child 3) 1 0

abbrev key_of : ℕ → ℕ
key_of child = cond (eqb child 1) 5 6

pub of_one : AreOfOne read
of_one = record {
  spots = λ a b in_a in_b same. child_is a in_a ∙ ap child_of same ∙ sym (child_is b in_b);
  parents = λ a b in_a in_b same. parent_is a in_a ∙ ap parent_of same ∙ sym (parent_is b in_b);
  keys = λ a b in_a in_b same. key_is a in_a ∙ ap key_of same ∙ sym (key_is b in_b);
  some = each (λ e. e.child ≢ 0) (λ e. grind (arith, e)) (λ e. grind (arith, e)) (λ e. grind (arith, e));
}
  where
    child_is : (e : Edge) → Contains read e → e.child ≡ child_of e.spot
    child_is = each (λ e. e.child ≡ child_of e.spot) refl refl refl

    parent_is : (e : Edge) → Contains read e → e.parent ≡ parent_of e.child
    parent_is = each (λ e. e.parent ≡ parent_of e.child) refl refl refl

    key_is : (e : Edge) → Contains read e → e.key ≡ key_of e.child
    key_is = each (λ e. e.key ≡ key_of e.child) refl refl refl

-- the walk for key 6 from the empty shape on passes 1, and comes to 2
pub two_is_found : Finds read 0 6 (first_of 0) 2
two_is_found = there one in_one refl (λ e. grind (arith, e)) (here two in_two refl refl refl refl)

-- shape 3 has the keys 5 and 6, and in no other order and not fewer
pub three_has_both : Lists read 3 (5 ∷ 6 ∷ [])
three_has_both = longer 1 (5 ∷ []) 6 (longer 0 [] 5 (empty refl refl) (here one in_one refl refl refl refl) refl) (here three in_three refl refl refl refl) refl

pub three_has_no_other_order : ¬ (Lists read 3 (6 ∷ 5 ∷ []))
three_has_no_other_order lists = let same = keys_same read of_one refl three_has_both lists in grind (arith, same)

pub three_has_no_fewer : ¬ (Lists read 3 (6 ∷ []))
three_has_no_fewer lists = let same = keys_same read of_one refl three_has_both lists in grind (arith, same)

-- and no other shape has these
pub two_has_not_both : ¬ (Lists read 2 (5 ∷ 6 ∷ []))
two_has_not_both lists = let same = shape_same read of_one refl three_has_both lists in grind (arith, same)
