-- The scripts that reading makes are within a workload's limits.
use Rattle.std.proofs.Common.{◌≡◌, ℕ, ◌+◌, ◌≤◌, arith, length, map, ap, refl, subst, List, [], ◌∷◌, Option, Some, None, Result, Ok, Err, Vec, Global, All}
use Rattle.std.proofs.lemmas.List.{length-map}
use Rattle.std.proofs.lemmas.List.Elements.{All-nil, All-cons, All-map}
use Rattle.tide_model.specs.declared.op.Op.{Op}
use Rattle.tide_text.specs.declared.work.fault.Fault.{Fault}
use Rattle.tide_text.specs.declared.work.workload.TheConstants.{MAX_MUTATORS, MAX_OPS}
use Rattle.tide_text.specs.work.OpArguments.{OpArguments}
use Rattle.tide_text.specs.work.ReadOp.{op_of}
use Rattle.tide_text.specs.work.Work.{IsOperation, AreOperations, IsSized}
use Rattle.tide_text.proofs.work_laws.OperationLemmas.{op_within}
use Rattle.tide_workload.specs.Scripts.{op_or, op_at, ops_of, scripts_of}
use Rattle.tide_workload.specs.Steps.{◌>>=◌, each_from}

result_step : {A B : Type 0} (r : Result A Fault) (f : A → Result B Fault) (b : B) → (r >>= f) ≡ Ok b → (a : A) × (r ≡ Ok a) × (f a ≡ Ok b)
result_step (Err e) f b h = absurd (cc)
result_step (Ok a) f b h = (a, refl, h)

-- what holds of each thing that a step gives holds of all that it gave in turn
each_within : {A B : Type 0} (P : B → Type 0) (f : ℕ → A → Result B Fault) → ((at : ℕ) (a : A) (b : B) → f at a ≡ Ok b → P b)
    → (at : ℕ) (xs : List A) (ys : List B) → each_from f at xs ≡ Ok ys → All P ys
each_within P f gives at [] ys h = let e : [] ≡ ys = cc in subst (All P) e (All-nil P)
each_within P f gives at (x ∷ xs) ys h =
    let (y, e1, h1) = result_step (f at x) (λ y. each_from f (at + 1) xs >>= (λ rest. Ok (y ∷ rest))) ys h in
    let (rest, e2, h2) = result_step (each_from f (at + 1) xs) (λ rest. Ok (y ∷ rest)) ys h1 in
    let e : y ∷ rest ≡ ys = cc in
    subst (All P) e (All-cons P y rest (gives at x y e1) (each_within P f gives (at + 1) xs rest e2))

op_or-some : (mutator at : ℕ) (o : Option Op) (op : Op) → op_or mutator at o ≡ Ok op → o ≡ Some op
op_or-some mutator at None op h = absurd (cc)
op_or-some mutator at (Some x) op h = let e : x ≡ op = cc in ap Some e

op_at_within : (limits : OpArguments) (mutator at : ℕ) (text : List ℕ) (op : Op) → op_at limits mutator at text ≡ Ok op → IsOperation limits op
op_at_within limits mutator at text op h = op_within limits text op (op_or-some mutator at (op_of limits text) op h)

-- the scripts of some texts
pub scripts_within : (limits : OpArguments) (texts : List (List (List ℕ))) (scripts : List (List Op)) → scripts_of limits texts ≡ Ok scripts
    → AreOperations limits scripts
scripts_within limits texts scripts h =
    each_within (λ ops. All (IsOperation limits) ops) (ops_of limits)
    (λ mutator script ops read. each_within (IsOperation limits) (op_at limits mutator) (op_at_within limits mutator) 0 script ops read) 0 texts scripts h

pub scripts_sized : (scripts : List (Vec Op Global)) → 1 ≤ length scripts → length scripts ≤ MAX_MUTATORS
    → All (λ ops. length ops.items ≤ MAX_OPS) scripts → IsSized (map (λ ops. ops.items) scripts)
scripts_sized scripts some few short = record {
  some = omega (arith, length-map scripts (λ (ops : Vec Op Global). ops.items));
  few = omega (arith, length-map scripts (λ (ops : Vec Op Global). ops.items));
  short = All-map (λ ops. length ops ≤ MAX_OPS) (λ ops. ops.items) scripts short;
}
