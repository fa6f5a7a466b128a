-- Answers to the goals of gathering::Gathered::hand_on.
use Rattle.std.proofs.Common.{arith}
use Rattle.std.proofs.KnownBytes.{Keeps-refl, Keeps-trans}
use Rattle.tide_io.proofs.gathering.Gathered.hand_on.Goals as goal

pub loop-self-init : goal.loop-self-init
loop-self-init g c = (Keeps-refl _, omega arith)

pub loop-self-preserved : goal.loop-self-preserved
loop-self-preserved g c =
    (Keeps-trans _ _ _ c.loop-self.invariant.0 c.in_ok-hand_on_some.ensures.same, omega (arith, c.loop-self.invariant.1, c.in_ok-hand_on_some.ensures.cause.later))

pub returns-in_err-hand_on_some-clause-same : goal.returns-in_err-hand_on_some-clause-same
returns-in_err-hand_on_some-clause-same g c = Keeps-trans _ _ _ c.loop-self.invariant.0 c.in_err-hand_on_some.ensures.same
