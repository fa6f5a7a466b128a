-- Which operation numbers say whose kind is that of a look at a slot.
use Rattle.std.proofs.Common.{ℕ, ap, sym}
use Rattle.tide_c.specs.Operations.{op_of}
use Rattle.tide_c.proofs.operation.Operation.of_cells.Goals as goal

pub returns-in-2-clause-said : goal.returns-in-2-clause-said
returns-in-2-clause-said c = sym (ap (λ (k : ℕ). op_of (record c.args.self { kind = k })) c.in-2.is)
