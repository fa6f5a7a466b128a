-- Why the entry keeps the rule.
use Rattle.std.proofs.Common.{◌≡◌, subst, ap, ◌∙◌, sym, true, false}
use Rattle.std.specs.Prelude.{◌%◌, ◌^◌}
use Rattle.tide_model.specs.Lawful.{Stands}
use Rattle.tide_model.specs.Layout.{Layout}
use Rattle.tide_model.specs.Refused.{ShapeLists}
use Rattle.tide_heap.proofs.steps_laws.BeginsAndStops.{zero_below}
use Rattle.tide_table.proofs.Tabled.{enters_as}
use Rattle.tide_heap.specs.Turns.{visits_over}
use Rattle.tide_heap.specs.tide_core.declared.machine.view.View.{View}
use Rattle.tide_table.proofs.Visits.{AreNumbersTold-over}
use Rattle.tide_table.specs.VisitsTold.{AreNumbersTold}
use Rattle.tide_table.proofs.Pauses.{pauses-entered}
use Rattle.tide_table.proofs.collector.Collector.enter_visits_as.Goals as goal

pub load-requires : goal.load-requires
load-requires g c =
    let h = c.args.heap.now in
    let seat = c.args.self.now.seat in
    let layout = h.table.shared.key.layout in
    let shapes = g.S.HeapShapes.lists h.table.shared.key.shapes in
    let event = g.J.Choice.event in (
      c.requires.own,
      zero_below h.key.layout h.table.shared.table_id.words h.sized,
      enters_as layout shapes h.table.shared.table_id.slots seat.id seat.me event
          (visits_over g.J.Choice.number event seat.me.0).visited c.args.self.now.collects c.requires.frozen
          (subst (λ (x : Layout × ShapeLists). Stands x.0 x.1 seat.me.0.seen event)
          (λ i. (h.same_layout i, (ap g.S.HeapShapes.lists h.same_shapes) i)) c.requires.stands) c.requires.no_call
          c.requires.no_open,
    )

pub invariant_of-self : goal.invariant_of-self
invariant_of-self g c =
    let s = c.args.self.now in
    let e = c.load.ensures.2 in record {
      collects = (λ i. (e i).role) ∙ s.collects;
      period_is = s.period_is ∙ (λ i. (sym e i).period);
      run_is = s.run_is ∙ (λ i. (sym e i).run);
      marking_is = s.marking_is ∙ (λ i. (sym e i).marks);
      cycle_is = s.cycle_is ∙ (λ i. (sym e i).cycle);
      base_is = s.base_is ∙ (λ i. (sym e i).mark_version);
      few_cycles = s.few_cycles;
      born_is = s.born_is ∙ (λ i. (sym e i).births % 2 ^ 32);
      told = λ running. (let clash : true ≡ false = sym ((λ i. (e i).frozen) ∙ c.requires.frozen) ∙ running in absurd (cc));
      visits_are = subst (λ (v : View). AreNumbersTold s.visits v.visited) (sym e)
          (AreNumbersTold-over g.J.Choice.number s.visits s.seat.me.0.visited s.visits_are);
      pauses_are = pauses-entered s.seat.me.0 c.load.new.seat.me.0 g.J.Choice.event s.pauses c.requires.frozen
          ((λ i. (e i).frozen) ∙ c.requires.frozen) (λ i. (e i).seen) c.requires.no_pause s.pauses_are;
    }

pub returns : goal.returns
returns g c =
    let e = c.load.ensures in record { same = (e.0, e.1); entered = e.2 }
