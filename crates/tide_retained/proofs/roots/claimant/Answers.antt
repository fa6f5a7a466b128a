-- A word that is of no number is of no mutator.
use Rattle.std.proofs.Common.{◌<◌, ◌^◌, arith}
use Rattle.tide_retained.proofs.roots.claimant.Goals as goal

pub returns-in-None-clause-none : goal.returns-in-None-clause-none
returns-in-None-clause-none c = λ who few is. c.in-None.ensures.none who (let small : who < 2 ^ 32 = omega (arith, few) in small) is
