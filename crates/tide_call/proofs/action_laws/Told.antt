-- Which operations the registers tell.
use Rattle.std.proofs.Common.{ℕ, ◌≡◌, refl, true}
use Rattle.tide_model.specs.declared.op.Op.{Op}
use Rattle.tide_model.specs.declared.op.Op.TheVariants as op
use Rattle.tide_call.specs.Actions.{is_told_by_registers}

-- an operation that they tell and that is none of the others asks for a cycle
pub asks_else : (one : Op) → is_told_by_registers one ≡ true →
    ((dst class : ℕ) → one ≡ op.Alloc dst class → ⊥) →
    ((dst : ℕ) → one ≡ op.Table dst → ⊥) →
    ((dst src slot : ℕ) → one ≡ op.Get dst src slot → ⊥) →
    ((src slot val : ℕ) → one ≡ op.Put src slot val → ⊥) →
    ((dst src : ℕ) → one ≡ op.Move dst src → ⊥) →
    ((dst n : ℕ) → one ≡ op.Set dst n → ⊥) →
    ((dst : ℕ) → one ≡ op.Drop dst → ⊥) →
    ((src : ℕ) → one ≡ op.Claim src → ⊥) →
    ((src : ℕ) → one ≡ op.Release src → ⊥) →
    (one ≡ op.Unclaim → ⊥) →
    ((at val : ℕ) → one ≡ op.StrongSet at val → ⊥) →
    ((dst at : ℕ) → one ≡ op.StrongGet dst at → ⊥) →
    ((at val : ℕ) → one ≡ op.WeakSet at val → ⊥) →
    ((dst at : ℕ) → one ≡ op.WeakGet dst at → ⊥) →
    ((src n : ℕ) → one ≡ op.Group src n → ⊥) →
    (one ≡ op.Retire → ⊥) →
    one ≡ op.Collect
asks_else op.Collect told n0 n1 n2 n3 n4 n5 n6 n7 n8 n9 n10 n11 n12 n13 n14 n15 = refl
asks_else (op.Alloc dst class) told n0 n1 n2 n3 n4 n5 n6 n7 n8 n9 n10 n11 n12 n13 n14 n15 = absurd (n0 dst class refl)
asks_else (op.Table dst) told n0 n1 n2 n3 n4 n5 n6 n7 n8 n9 n10 n11 n12 n13 n14 n15 = absurd (n1 dst refl)
asks_else (op.Get dst src slot) told n0 n1 n2 n3 n4 n5 n6 n7 n8 n9 n10 n11 n12 n13 n14 n15 = absurd (n2 dst src slot refl)
asks_else (op.Put src slot val) told n0 n1 n2 n3 n4 n5 n6 n7 n8 n9 n10 n11 n12 n13 n14 n15 = absurd (n3 src slot val refl)
asks_else (op.Move dst src) told n0 n1 n2 n3 n4 n5 n6 n7 n8 n9 n10 n11 n12 n13 n14 n15 = absurd (n4 dst src refl)
asks_else (op.Set dst n) told n0 n1 n2 n3 n4 n5 n6 n7 n8 n9 n10 n11 n12 n13 n14 n15 = absurd (n5 dst n refl)
asks_else (op.Drop dst) told n0 n1 n2 n3 n4 n5 n6 n7 n8 n9 n10 n11 n12 n13 n14 n15 = absurd (n6 dst refl)
asks_else (op.Claim src) told n0 n1 n2 n3 n4 n5 n6 n7 n8 n9 n10 n11 n12 n13 n14 n15 = absurd (n7 src refl)
asks_else (op.Release src) told n0 n1 n2 n3 n4 n5 n6 n7 n8 n9 n10 n11 n12 n13 n14 n15 = absurd (n8 src refl)
asks_else op.Unclaim told n0 n1 n2 n3 n4 n5 n6 n7 n8 n9 n10 n11 n12 n13 n14 n15 = absurd (n9 refl)
asks_else (op.StrongSet at val) told n0 n1 n2 n3 n4 n5 n6 n7 n8 n9 n10 n11 n12 n13 n14 n15 = absurd (n10 at val refl)
asks_else (op.StrongGet dst at) told n0 n1 n2 n3 n4 n5 n6 n7 n8 n9 n10 n11 n12 n13 n14 n15 = absurd (n11 dst at refl)
asks_else (op.WeakSet at val) told n0 n1 n2 n3 n4 n5 n6 n7 n8 n9 n10 n11 n12 n13 n14 n15 = absurd (n12 at val refl)
asks_else (op.WeakGet dst at) told n0 n1 n2 n3 n4 n5 n6 n7 n8 n9 n10 n11 n12 n13 n14 n15 = absurd (n13 dst at refl)
asks_else (op.Group src n) told n0 n1 n2 n3 n4 n5 n6 n7 n8 n9 n10 n11 n12 n13 n14 n15 = absurd (n14 src n refl)
asks_else op.Retire told n0 n1 n2 n3 n4 n5 n6 n7 n8 n9 n10 n11 n12 n13 n14 n15 = absurd (n15 refl)
asks_else one told n0 n1 n2 n3 n4 n5 n6 n7 n8 n9 n10 n11 n12 n13 n14 n15 = absurd (cc)
