-- Why the mutator may be asked for an action, and what the action says.
use Rattle.std.proofs.Common.{ℕ, ◌≡◌, ◌<◌, ◌+◌, sym, ◌∙◌, ap, subst, true}
use Rattle.std.specs.Prelude.{◌^◌}
use Rattle.tide_heap.specs.tide_call.Actions.{IsAction, is_told_by_registers}
use Rattle.tide_heap.specs.tide_call.declared.action.Action.TheVariants.{Allocate}
use Rattle.tide_heap.specs.tide_layout.Limits.{IsWithinLimits}
use Rattle.tide_heap.specs.tide_layout.declared.region.Region.TheVariants.{Call}
use Rattle.tide_heap.specs.tide_core.declared.machine.view.View.{View}
use Rattle.tide_heap.specs.tide_core.machine.kinds.TakeFree.{TakesCell}
use Rattle.tide_model.specs.Caller.{IsOwn}
use Rattle.tide_model.specs.History.{state_after}
use Rattle.tide_model.specs.Layout.{Layout}
use Rattle.tide_model.specs.Refused.{ShapeLists}
use Rattle.tide_mutator.proofs.calls_laws.acting_laws.Fitting.{fits_there}
use Rattle.tide_mutator.proofs.cells_laws.BirthSteps.{is_taking}
use Rattle.tide_mutator.proofs.calls_laws.Planning.{IsCalm, asked, owns_then, planned_by, same_caller, stands_still}
use Rattle.tide_mutator.proofs.calls_laws.Taken.{told_by_action}
use Rattle.tide_mutator.proofs.calls_laws.Unread.{below_unread, calling_unread, calm_unread, counts_unread}
use Rattle.tide_mutator.specs.owed.Acting.{is_plain}
use Rattle.tide_mutator.specs.owed.Calling.{IsCalling}
use Rattle.tide_mutator.specs.owed.Standing.{IsPlanned, caller_of, claims_of}
use Rattle.tide_mutator.specs.calls.Owning.{OwnsAt, unread}
use Rattle.tide_heap.specs.tide_words.heap.Heap.{Heap}
use Rattle.tide_mutator.proofs.calls.deciding.decide.Given.{Over}
use Rattle.tide_mutator.proofs.calls.deciding.decide.Goals as goal
use Rattle.tide_mutator.proofs.calls.deciding.decide.Goals.{After-plan_call}

pub plan_call-requires-clause-known : goal.plan_call-requires-clause-known
plan_call-requires-clause-known g c = λ κs outlives.
    let h = c.args.heap.now in
    let layout = h.key.layout in
    let shapes = g.S.ShapeTable.lists h.key.shapes in
    let v = c.args.own.now.pass.seat.me.0 in
    let u = c.load_call.new.self.seat.me.0 in
    let f = c.load_call.ensures.step.follows in
    let caller = c.new-planner.ensures.planner
    ∙ same_caller layout c.layout-2.result.now shapes (g.S.ShapeTable.lists c.shapes.result.now) u c.who-who.result
    c.args.claims.now c.layout-2.ensures (ap g.S.ShapeTable.lists c.shapes.ensures) c.who-who.ensures
    (c.requires.claims ∙ ap claims_of (sym f.view)) in
    asked layout shapes u (c.load_call.new.self.seat.table_id ≡ h.table.shared.table_id)
    (c.load_call.ensures.step.table ∙ c.requires.own) c.new-planner.result caller
    (subst (λ (x : View). x.who < layout.mutators) (sym f.view) c.requires.mutator) f.moment.settled
    (subst (λ (x : View). OwnsAt layout shapes x layout x.who f.moment.settled) (sym f.view)
    (owns_then layout shapes v f.log Call v.who c.load_call.result c.requires.stays c.requires.runs
    c.requires.between.owed c.requires.between.growth f.moment))

-- what the action says
module _ (g : Over) (c : After-plan_call g) where
  abbrev layout : Layout
  layout = c.args.heap.now.key.layout

  abbrev shapes : ShapeLists
  shapes = g.S.ShapeTable.lists c.args.heap.now.key.shapes

  abbrev v : View
  v = c.args.own.now.pass.seat.me.0

  abbrev last : View
  last = c.plan_call.new.own.pass.seat.me.0

  is_unread : unread last ≡ unread v
  is_unread = ap (λ rest. rest.2) c.plan_call.ensures.owns.2 ∙ ap unread c.load_call.ensures.step.follows.view

  same_table : c.plan_call.new.own.pass.seat.table_id ≡ c.args.heap.now.table.shared.table_id
  same_table = ap (λ rest. rest.0) c.plan_call.ensures.owns.2 ∙ c.load_call.ensures.step.table ∙ c.requires.own

  calm : IsCalm last
  calm = calm_unread v last is_unread record {
    runs = c.requires.runs;
    stays = c.requires.stays;
    owed = c.requires.between.owed;
    growth = c.requires.between.growth;
  }

  below : last.who < layout.mutators
  below = below_unread v last is_unread layout c.requires.mutator

  is_caller : c.new-planner.result ≡ caller_of layout shapes last
  is_caller = c.new-planner.ensures.planner
      ∙ same_caller layout c.layout-2.result.now shapes (g.S.ShapeTable.lists c.shapes.result.now)
      c.load_call.new.self.seat.me.0 c.who-who.result c.args.claims.now c.layout-2.ensures
      (ap g.S.ShapeTable.lists c.shapes.ensures) c.who-who.ensures
      (c.requires.claims ∙ ap claims_of (sym c.load_call.ensures.step.follows.view))
      ∙ ap (caller_of layout shapes) (sym (ap (λ rest. rest.2) c.plan_call.ensures.owns.2))

  planned : IsPlanned layout shapes last c.args.call.op c.plan_call.result
  planned = planned_by layout shapes last
      (c.plan_call.new.own.pass.seat.table_id ≡ c.args.heap.now.table.shared.table_id) same_table c.new-planner.result is_caller
      below c.args.call.op c.plan_call.result calm c.plan_call.ensures.action

  owns_last : OwnsAt layout shapes last layout last.who c.plan_call.ensures.owns.0.heap
  owns_last = stands_still layout shapes last
      (c.plan_call.new.own.pass.seat.table_id ≡ c.args.heap.now.table.shared.table_id) same_table c.new-planner.result is_caller
      below c.plan_call.ensures.owns.0

  action_here : IsAction (caller_of layout shapes last) c.plan_call.ensures.owns.0.heap (state_after layout owns_last.log) c.args.call.op
      c.plan_call.result
  action_here = planned c.plan_call.ensures.owns.0.heap owns_last.log owns_last.stands

  limits : IsWithinLimits layout
  limits = subst IsWithinLimits c.layout.ensures c.mutators.ensures.limits

  calling : IsCalling layout last c.args.call.op
  calling = calling_unread v last is_unread layout c.args.call.op record {
    limits = limits;
    is_mutator = c.requires.mutator;
    runs = c.requires.runs;
    stays = c.requires.stays;
    between = c.requires.between;
    own = let f = c.load_call.ensures.step.follows in subst (λ (x : View). IsOwn x.who x.seen x.mine) f.view (sym f.own);
    fits = c.requires.fits;
    bare = c.requires.bare;
  }

  told : is_plain c.plan_call.result ≡ true → is_told_by_registers c.args.call.op ≡ true
  told = told_by_action (caller_of layout shapes last) c.plan_call.ensures.owns.0.heap
      (state_after layout owns_last.log) c.args.call.op c.plan_call.result action_here

  births : (dst class : ℕ) → c.plan_call.result ≡ Allocate dst class → TakesCell c.args.call.op
  births dst class is = (is_taking (caller_of layout shapes last) c.plan_call.ensures.owns.0.heap
      (state_after layout owns_last.log) c.args.call.op dst class (told (ap is_plain is))
      (subst (IsAction (caller_of layout shapes last) c.plan_call.ensures.owns.0.heap (state_after layout owns_last.log)
      c.args.call.op) is action_here)).takes

pub returns-clause-same_view : goal.returns-clause-same_view
returns-clause-same_view g c = (
  ap (λ rest. rest.0) c.plan_call.ensures.owns.2 ∙ c.load_call.ensures.step.table,
  ap (λ rest. rest.1) c.plan_call.ensures.owns.2 ∙ c.load_call.ensures.step.seat,
  is_unread g c,
)

pub returns-clause-may : goal.returns-clause-may
returns-clause-may g c = record {
  own = same_table g c;
  calling = calling g c;
  counts = counts_unread (v g c) (last g c) (is_unread g c) c.args.call.number c.requires.counts;
  planned = planned g c;
  told = told g c;
  few = λ dst class is. subst (λ (x : View). x.born + 1 < 2 ^ 32) (sym (is_unread g c))
      (c.requires.few (births g c dst class is));
  words = c.plan_call.ensures.owns.0.heap;
  fits = fits_there (layout g c) (shapes g c) (last g c) c.args.call.op c.plan_call.result
      c.plan_call.ensures.owns.0.heap (owns_last g c).log (limits g c) c.requires.fits (below g c) (owns_last g c).stands
      (planned g c);
}
