-- A claim is given up where it was made.
use Rattle.std.proofs.Common.{Bool, refl, subst, sym}
use Rattle.tide.specs.Keyed.{HasReleased}
use Rattle.tide.specs.Threads.{calling_of}
use Rattle.tide.proofs.thread.Thread.release.Goals as goal

pub returns-then-not-claimed-clause-releases : goal.returns-then-not-claimed-clause-releases
returns-then-not-claimed-clause-releases g c =
    let same = calling_of c.args.self.now in
    subst (λ (claimed : Bool). HasReleased same same c.args.src claimed) (sym c.if-not-claimed.true) refl

pub returns-clause-releases : goal.returns-clause-releases
returns-clause-releases g c =
    subst (λ (claimed : Bool). HasReleased (calling_of c.args.self.now) (calling_of c.call.new.self) c.args.src claimed)
    (sym c.if-not-claimed.false) (c.call.result, c.call.ensures.called)
