-- A part of the zeros is zeros.
use Rattle.std.proofs.Common.{arith}
use Rattle.std.proofs.lemmas.List.{take-replicate}
use Rattle.tide_table.proofs.zeros.zeros.Goals as goal

pub returns-then-count-le327680 : goal.returns-then-count-le327680
returns-then-count-le327680 c =
    let few = c.if-count-le327680.true in
    record { zeros = take-replicate c.args.count 327680 0 (omega (arith, few)) }
