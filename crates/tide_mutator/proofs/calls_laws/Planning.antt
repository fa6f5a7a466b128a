-- What an action that was planned says, wherever its mutator may stand.
use Rattle.std.proofs.Common.{ℕ, ◌≡◌, ◌<◌, refl, sym, ◌∙◌, ap, subst, true, false, List, []}
use Rattle.tide_heap.specs.tide_call.Callers.{Planner, CallsIn, MayCallNow, OwnHeaps}
use Rattle.tide_heap.specs.tide_call.Actions.{IsAction}
use Rattle.tide_heap.specs.tide_call.declared.action.Action.{Action}
use Rattle.tide_heap.specs.tide_layout.declared.region.Region.{Region}
use Rattle.tide_heap.specs.tide_core.machine.Moment.{Moment}
use Rattle.tide_heap.specs.tide_core.declared.machine.view.Growth.TheVariants.{Nothing}
use Rattle.tide_heap.specs.tide_core.declared.machine.view.View.{View}
use Rattle.tide_model.specs.History.{state_after}
use Rattle.tide_model.specs.Layout.{Layout}
use Rattle.tide_model.specs.Refused.{ShapeLists}
use Rattle.tide_model.specs.State.{State}
use Rattle.tide_model.specs.declared.entry.Event.{Event}
use Rattle.tide_model.specs.declared.op.Op.{Op}
use Rattle.tide_mutator.proofs.owed_laws.Standing.{calls_there, stands_then}
use Rattle.tide_mutator.specs.owed.Standing.{IsPlanned, MutatorStandsAt, caller_of, claims_of}
use Rattle.tide_mutator.specs.calls.Owning.{OwnsAt}
use Rattle.tide_heap.specs.tide_words.heap.Heap.{Heap}

-- the caller that was made is the mutator
pub same_caller : (layout given : Layout) (shapes lists : ShapeLists) (v : View) (who : ℕ) (claims : List ℕ) →
    given ≡ layout → lists ≡ shapes → who ≡ v.who → claims ≡ claims_of v →
    record { layout = given; shapes = lists; who = who; claims = claims } ≡ caller_of layout shapes v
same_caller layout given shapes lists v who claims a b c d =
    λ i. record { layout = a i; shapes = b i; who = c i; claims = d i }

-- a mutator that runs and owes nothing may stand where it stepped
pub owns_then : (layout : Layout) (shapes : ShapeLists) (v : View) (log : List Event) (at : Region) (index read : ℕ) →
    v.left ≡ false → v.runs ≡ true → v.owed ≡ [] → v.growth ≡ Nothing →
    (m : Moment layout shapes v log at index read) → OwnsAt layout shapes v layout v.who m.settled
owns_then layout shapes v log at index read stays runs calm grows_not m = record {
  same_layout = refl;
  same_who = refl;
  runs = runs;
  stays = stays;
  calm = calm;
  grows_not = grows_not;
  log = log;
  stands = stands_then layout shapes v log at index read stays m;
}

-- it runs, hasn't retired, and owes nothing
pub record IsCalm (v : View) : Type 0 where
  pub runs : v.runs ≡ true
  pub stays : v.left ≡ false
  pub owed : v.owed ≡ []
  pub growth : v.growth ≡ Nothing

-- A mutator with this view asks for an action, beside something else that stays.
module _ (layout : Layout) (shapes : ShapeLists) (v : View) (Same : Type 0) (same : Same) (caller : Planner)
    (is : caller ≡ caller_of layout shapes v) (below : v.who < layout.mutators) where
  abbrev owns : OwnHeaps
  owns given who heap = Same × OwnsAt layout shapes v given who heap

  -- where it may stand it may call
  calls_where : (heap : Heap) → (o : OwnsAt layout shapes v layout v.who heap) →
      CallsIn owns (caller_of layout shapes v) heap (state_after layout o.log)
  calls_where heap o = record {
    owned = (same, o);
    reads = o.stands.reads;
    is_caller = calls_there layout shapes v heap o.log below o.stands;
  }

  -- so it may be asked for an action
  pub asked : (heap : Heap) → OwnsAt layout shapes v layout v.who heap → MayCallNow owns caller
  asked heap o = subst (MayCallNow owns) (sym is) record {
    heap = heap;
    owned = (same, o);
    each = λ other owned. (state_after layout owned.1.log, calls_where other owned.1);
  }

  -- where it still may call, it may stand
  pub stands_still : (may : MayCallNow owns caller) → OwnsAt layout shapes v layout v.who may.heap
  stands_still may = subst (λ (one : Planner). OwnsAt layout shapes v one.layout one.who may.heap) is may.owned.1

  -- and an action is the call's wherever it may stand
  pub planned_by : (op : Op) (does : Action) → IsCalm v →
      ((heap : Heap) (state : State) → CallsIn owns caller heap state → IsAction caller heap state op does) →
      IsPlanned layout shapes v op does
  planned_by op does calm actions heap log stands =
      subst (λ (one : Planner). IsAction one heap (state_after layout log) op does) is
      (actions heap (state_after layout log)
      (subst (λ (one : Planner). CallsIn owns one heap (state_after layout log)) (sym is) (calls_where heap record {
        same_layout = refl;
        same_who = refl;
        runs = calm.runs;
        stays = calm.stays;
        calm = calm.owed;
        grows_not = calm.growth;
        log = log;
        stands = stands;
      })))
