-- Why the passes are those of their numbers.
use Rattle.std.proofs.Common.{ℕ, ◌+◌, ◌∙◌, [], ◌∷◌, length, length-append, refl, sym, subst, arith, ap}
use Rattle.tide_heap.specs.tide_core.machine.Frozen.{newcomer}
use Rattle.tide_heap.specs.tide_core.declared.machine.view.View.{View}
use Rattle.tide_table.proofs.Starting.{passes_push, next_trans}
use Rattle.tide_heap.specs.Parties.{IsParty}
use Rattle.tide_table.specs.Started.{ArePasses}
use Rattle.tide_table.proofs.collector.Collector.seat_all.Goals as goal

pub loop-i-init : goal.loop-i-init
loop-i-init g c = record {
  own = c.requires.own;
  id = refl;
  next = (let l = c.requires.later in omega (arith, l));
  same = (c.args.self.now.seat.me.0.next, refl);
  count = ap length c.new-passes.ensures.items;
  long = c.new-passes.ensures.len;
  all = subst (ArePasses c.args.heap.now.table.shared.table_id c.args.first) (sym c.new-passes.ensures.items) tt;
}

pub loop-i-preserved : goal.loop-i-preserved
loop-i-preserved g c =
    let inv = c.loop-i.invariant in
    let e = c.seat_as.ensures.same in
    let s = c.seat_as.ensures.seating in
    let m = c.seat_as.ensures.member in record {
      own = e.0 ∙ inv.own;
      id = e.1 ∙ inv.id;
      next = (let n = ap (λ (v : View). v.next) s in omega (arith, n));
      same = next_trans c.args.self.now.seat.me.0 c.loop-i.self.seat.me.0 c.seat_as.new.self.seat.me.0 inv.same
          (c.args.first + c.loop-i.i + 1, s);
      count = ap length c.in_ok-push.ensures.items ∙ length-append c.loop-i.passes.items (c.seat_as.result ∷ [])
          ∙ ap (λ (n : ℕ). n + 1) inv.count;
      long = (let l = c.in_ok-push.ensures.len in let m = inv.long in omega (arith, l, m));
      all = subst (ArePasses c.args.heap.now.table.shared.table_id c.args.first) (sym c.in_ok-push.ensures.items)
          (passes_push c.args.heap.now.table.shared.table_id c.args.first c.loop-i.passes.items c.seat_as.result inv.all
          (m.0 ∙ inv.own) (m.1 ∙ ap newcomer (let n = inv.count in omega (arith, n))));
    }

pub seat_as-requires-clause-party : goal.seat_as-requires-clause-party
seat_as-requires-clause-party g c =
    let party : IsParty c.args.heap.now.key.layout (c.args.first + c.loop-i.i) =
    c.requires.parties c.loop-i.i c.loop-i-test.true in party
