use Rattle.std.proofs.Common.{◌<◌, arith, ap, sym, ◌∙◌}
use Rattle.tide_model.specs.Layout.{Layout}
use Rattle.tide_model.specs.Numbers.{is_among}
use Rattle.tide_plain.specs.stored.Contents.{state_of}
use Rattle.tide_plain.proofs.calls_laws.Claiming.{held_by-first}
use Rattle.tide_plain.proofs.calls.claims.holder_of.Goals as goal

pub returns-then-holds-clause-first : goal.returns-then-holds-clause-first
returns-then-holds-clause-first c =
    let contents = c.args.contents.now in
    let below : c.loop-who.who < contents.layout.mutators = omega (arith, c.loop-who-test.true, c.mutators.ensures.count, c.from-who-end.ensures, ap (λ (l : Layout). l.mutators) c.layout.ensures.layout) in
    held_by-first (λ who. is_among ((state_of contents).claims who) c.args.cell) contents.layout.mutators c.loop-who.who below
    c.loop-who.invariant (sym c.holds.ensures ∙ c.if-holds.true)
