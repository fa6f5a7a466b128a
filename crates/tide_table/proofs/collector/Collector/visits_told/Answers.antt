-- Why the sum fits, and is that of one visitor more.
use Rattle.std.proofs.Common.{◌≡◌, ◌<◌, ◌≤◌, ◌∙◌, ap, arith}
use Rattle.tide_model.specs.Layout.{Layout}
use Rattle.tide_table.proofs.VisitsTold.{visits_left-next}
use Rattle.tide_table.proofs.collector.Collector.visits_told.Goals as goal

pub overflow_add-visits : goal.overflow_add-visits
overflow_add-visits g c =
    let few = c.loop-visitor.invariant.few in
    let count = c.visitors.ensures.limits.few_visitors in
    let test = c.loop-visitor-test.true in
    let from = c.from-visitors.ensures in
    omega (arith, few, count, test, from)

pub loop-visitor-preserved : goal.loop-visitor-preserved
loop-visitor-preserved g c =
    let layout = c.args.heap.now.key.layout in
    let v = c.args.self.now.seat.me.0 in
    let n = c.loop-visitor.visitor in
    let count : c.visitors.result ≡ layout.visitors = c.visitors.ensures.count ∙ ap (λ (l : Layout). l.visitors) c.layout.ensures in
    let eight : layout.visitors ≤ 8 = (let most = c.visitors.ensures.limits.few_visitors in omega (arith, most, count)) in
    let below : n < layout.visitors = (let test = c.loop-visitor-test.true in let from = c.from-visitors.ensures in omega (arith, test, from, count)) in
    let next = visits_left-next layout v.run v.visited c.args.self.now.visits n c.requires.told c.args.self.now.visits_are eight below in
    let sum = c.loop-visitor.invariant.sum in
    let few = c.loop-visitor.invariant.few in
    let told = c.from-visits.ensures in
    record { sum = omega (arith, next, sum, told); few = omega (arith, few) }
