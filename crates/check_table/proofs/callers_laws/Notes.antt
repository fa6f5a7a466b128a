-- Whose notes are in.
use Rattle.std.proofs.Common.{ℕ, ◌≡◌, ◌⊎◌, refl, sym, subst, ap, inl, List}
use Rattle.tide_heap.specs.Parties.{In}
use Rattle.tide_heap.specs.Turns.{noted}
use Rattle.tide_heap.specs.tide_core.declared.machine.view.View.{View}

-- the note that was taken in
pub noted_in : (v u w : View) → w ≡ noted v u → In u.who w.notes
noted_in v u w is = subst (In u.who) (sym (ap (λ (x : View). x.notes) is)) (inl refl)

-- that of the only participant is that of each
pub in_then : (i who : ℕ) (notes gone : List ℕ) → In who notes → i ≡ who → In i notes ⊎ In i gone
in_then i who notes gone at is = inl (subst (λ (n : ℕ). In n notes) (sym is) at)
