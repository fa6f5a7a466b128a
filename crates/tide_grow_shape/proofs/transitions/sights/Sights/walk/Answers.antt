use Rattle.std.proofs.Common.{rules}
use Rattle.tide_grow_shape.specs.transitions.Cells.{name_of}
use Rattle.tide_grow_shape.proofs.transitions_laws.WalkLaws.{walks_found, walks_step, walks_within}
use Rattle.tide_grow_shape.proofs.transitions.sights.Sights.walk.Goals as goal

pub returns-then-seen-sought-clause-found : goal.returns-then-seen-sought-clause-found
returns-then-seen-sought-clause-found g c =
    let found = walks_found (name_of c.args.cells.now) c.args.self.now c.loop.self c.observe.new.self c.args.sought.shape c.args.sought.key c.loop.next c.loop.of c.loop.mine
    c.loop.invariant c.observe.ensures.sights c.observe.ensures.more c.in_ok-seen.seen c.in_ok-seen.ensures.seen c.if-seen-sought.true c.if-seen-sought-2.false in
    search (rules, found)

pub returns-then-seen-sought-clause-last : goal.returns-then-seen-sought-clause-last
returns-then-seen-sought-clause-last g c = walks_within (name_of c.args.cells.now) c.args.self.now c.loop.self c.observe.new.self c.args.sought.shape c.args.sought.key c.loop.next c.loop.of c.loop.mine
    c.loop.invariant c.observe.ensures.sights c.observe.ensures.more c.in_ok-seen.seen c.in_ok-seen.ensures.seen

pub loop-preserved : goal.loop-preserved
loop-preserved g c = walks_step (name_of c.args.cells.now) c.args.self.now c.loop.self c.observe.new.self c.args.sought.shape c.args.sought.key c.loop.next c.loop.of c.loop.mine
    c.loop.invariant c.observe.ensures.sights c.observe.ensures.more c.in_ok-seen.seen c.in_ok-seen.ensures.seen c.if-seen-sought.false c.observe.new.mine c.observe.ensures.mine
