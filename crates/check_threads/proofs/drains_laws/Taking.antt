-- Both notes are those of all.
use Rattle.std.proofs.Common.{ℕ, ◌≡◌, ◌⊎◌, sym, subst, arith, inl, inr, List}
use Rattle.tide_heap.specs.Parties.{In, IsParty}
use Rattle.tide_heap.specs.Turns.{noted}
use Rattle.tide_heap.specs.tide_core.declared.machine.view.View.{View}
use Rattle.tide_model.specs.Layout.{Layout}

pub is_in : (who : ℕ) (v u w : View) → u.who ≡ who → w ≡ noted v u → In who w.notes
is_in who v u w is took = subst (λ (x : View). In who x.notes) (sym took) (inl (sym is))

pub stays_in : (who : ℕ) (v u w : View) → w ≡ noted v u → In who v.notes → In who w.notes
stays_in who v u w took at = subst (λ (x : View). In who x.notes) (sym took) (inr at)

pub all_of_both : (layout : Layout) (notes gone : List ℕ) → layout.mutators ≡ 1 → layout.visitors ≡ 1 → In 0 notes → In 16 notes →
    (i : ℕ) → IsParty layout i → In i notes ⊎ In i gone
all_of_both layout notes gone one other first second i (inl below) =
    inl (subst (λ (n : ℕ). In n notes) (let is : 0 ≡ i = omega (arith, below, one) in is) first)
all_of_both layout notes gone one other first second i (inr (least, most)) =
    inl (subst (λ (n : ℕ). In n notes) (let is : 16 ≡ i = omega (arith, least, most, other) in is) second)
