-- Why a pause keeps the rule, and the numbers of the last two.
use Rattle.std.proofs.Common.{subst, ap, ◌∙◌, sym, refl}
use Rattle.std.specs.Prelude.{◌≡◌, false}
use Rattle.std.specs.Prelude.{◌%◌, ◌^◌}
use Rattle.tide_model.specs.History.{is_call_of, is_open}
use Rattle.tide_model.specs.Lawful.{Stands}
use Rattle.tide_model.specs.Layout.{Layout}
use Rattle.tide_model.specs.Refused.{ShapeLists}
use Rattle.tide_model.specs.declared.entry.Event.{Event}
use Rattle.tide_heap.proofs.steps_laws.BeginsAndStops.{zero_below}
use Rattle.tide_table.proofs.Pauses.{pauses-paused}
use Rattle.tide_table.proofs.Tabled.{enters}
use Rattle.tide_heap.specs.tide_core.declared.machine.view.View.{View}
use Rattle.tide_table.specs.VisitsTold.{AreNumbersTold, CountsTold}
use Rattle.tide_table.proofs.collector.Collector.enter_pause_as.Goals as goal

pub load-requires : goal.load-requires
load-requires g c =
    let h = c.args.heap.now in
    let seat = c.args.self.now.seat in
    let layout = h.table.shared.key.layout in
    let shapes = g.S.HeapShapes.lists h.table.shared.key.shapes in
    let is = sym c.requires.pause in (
      c.requires.own,
      zero_below h.key.layout h.table.shared.table_id.words h.sized,
      enters layout shapes h.table.shared.table_id.slots seat.id seat.me g.J.Choice.event c.args.self.now.collects
          c.requires.frozen
          (subst (λ (x : Layout × ShapeLists). Stands x.0 x.1 seat.me.0.seen g.J.Choice.event)
          (λ i. (h.same_layout i, (ap g.S.HeapShapes.lists h.same_shapes) i)) c.requires.stands)
          (λ p. subst (λ (e : Event). is_call_of p e.entry ≡ false) is refl) (subst (λ (e : Event). is_open e.entry ≡ false) is refl),
    )

pub invariant_of-self : goal.invariant_of-self
invariant_of-self g c =
    let s = c.args.self.now in
    let e = c.load.ensures.2 in record {
      collects = (λ i. (e i).role) ∙ s.collects;
      period_is = s.period_is ∙ (λ i. (sym e i).period);
      run_is = s.run_is ∙ (λ i. (sym e i).run);
      marking_is = s.marking_is ∙ (λ i. (sym e i).marks);
      cycle_is = s.cycle_is ∙ (λ i. (sym e i).cycle);
      base_is = s.base_is ∙ (λ i. (sym e i).mark_version);
      few_cycles = s.few_cycles;
      born_is = s.born_is ∙ (λ i. (sym e i).births % 2 ^ 32);
      told = subst CountsTold (sym e) s.told;
      visits_are = subst (λ (v : View). AreNumbersTold s.visits v.visited) (sym e) s.visits_are;
      pauses_are = pauses-paused s.seat.me.0 c.load.new.seat.me.0 g.J.Choice.event s.pauses c.args.visits c.requires.frozen
          ((λ i. (e i).frozen) ∙ c.requires.frozen) (λ i. (e i).seen) c.requires.pause s.pauses_are;
    }

pub returns : goal.returns
returns g c =
    let e = c.load.ensures in record { same = (e.0, e.1); entered = e.2 }
