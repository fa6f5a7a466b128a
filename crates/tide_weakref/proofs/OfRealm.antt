-- What an operation that a realm makes of its own isn't.
use Rattle.std.proofs.Common.{◌≡◌, refl, true, false}
use Rattle.tide_heap.specs.tide_core.machine.kinds.TakeFree.{TakesCell}
use Rattle.tide_model.specs.declared.op.Op.{Op}
use Rattle.tide_model.specs.declared.op.Op.TheVariants.{Alloc, Table, Claim, Release, Unclaim, Retire}
use Rattle.tide_mutator.specs.calls.Called.{is_of_claims}
use Rattle.tide_weakref.specs.Calls.{is_of_realm}

-- it takes no cell, doesn't retire, and is of no claim
pub takes_none : (op : Op) → is_of_realm op ≡ true → TakesCell op → ⊥
takes_none (Alloc dst class) is takes = absurd (let e : false ≡ true = is in cc)
takes_none (Table dst) is takes = absurd (let e : false ≡ true = is in cc)
takes_none op is takes = takes

pub goes_on : (op : Op) → is_of_realm op ≡ true → op ≡ Retire → ⊥
goes_on Retire is same = (let e : false ≡ true = is in cc)
goes_on op is same = cc

pub of_no_claim : (op : Op) → is_of_realm op ≡ true → is_of_claims op ≡ false
of_no_claim (Claim src) is = absurd (let e : false ≡ true = is in cc)
of_no_claim (Release src) is = absurd (let e : false ≡ true = is in cc)
of_no_claim Unclaim is = absurd (let e : false ≡ true = is in cc)
of_no_claim op is = refl
