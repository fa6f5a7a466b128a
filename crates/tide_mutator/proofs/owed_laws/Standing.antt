-- Where a mutator may stand, by what a step told it, and by the wave.
use Rattle.std.proofs.Common.{ℕ, ◌≡◌, ◌<◌, refl, sym, ◌∙◌, ap, subst, Bool, true, false, List}
use Rattle.std.specs.Prelude.{not}
use Rattle.tide_heap.proofs.tide_call.action_laws.Callers.{mutators_may_call}
use Rattle.tide_heap.specs.tide_call.Callers.{IsCallerOf}
use Rattle.tide_heap.specs.tide_layout.declared.region.Region.{Region}
use Rattle.tide_heap.proofs.tide_core.machine_laws.steps.Moments.{moment_of}
use Rattle.tide_heap.specs.tide_core.machine.Moment.{Moment}
use Rattle.tide_heap.specs.tide_core.machine.Own.{Own}
use Rattle.tide_heap.specs.tide_core.machine.RunningWave.{RunningWave}
use Rattle.tide_heap.specs.tide_core.machine.World.{World}
use Rattle.tide_heap.specs.tide_core.declared.machine.view.View.{View}
use Rattle.tide_model.specs.History.{state_after}
use Rattle.tide_model.specs.Layout.{Layout}
use Rattle.tide_model.specs.Refused.{ShapeLists}
use Rattle.tide_model.specs.declared.entry.Event.{Event}
use Rattle.tide_mutator.proofs.owed_laws.OwnClaims.{own_at}
use Rattle.tide_mutator.specs.owed.Standing.{MutatorStandsAt, caller_of}
use Rattle.tide_heap.specs.tide_words.heap.Heap.{Heap}

-- at the moment of a step it may stand there
pub stands_then : (layout : Layout) (shapes : ShapeLists) (v : View) (log : List Event) (at : Region) (index read : ℕ) →
    v.left ≡ false → (m : Moment layout shapes v log at index read) → MutatorStandsAt layout shapes v m.settled log
stands_then layout shapes v log at index read stays m = record {
  lawful = m.lawful;
  own = m.own;
  active = by_left ((state_after layout log).active v.who) (sym m.left ∙ stays);
  claims = ap (λ (o : Own). o.claims) (own_at layout v.who log v.mine m.own);
  refs = m.refs;
  reads = m.reads;
  known = λ r i word other knows. m.known r i word knows;
}
  where
    by_left : (b : Bool) → not b ≡ false → b ≡ true
    by_left true is = refl
    by_left false is = absurd (cc)

-- what a machine with the wave tells of a word
abbrev pub moment_in : (layout : Layout) (shapes : ShapeLists) (w : World) (v : View) (at : Region) (index : ℕ) →
    RunningWave layout shapes w → w.part v.who ≡ v → Moment layout shapes v w.log at index (w.heap at index)
moment_in layout shapes w v at index running is = moment_of layout shapes w v at index running is

-- where it may stand it may call
pub calls_there : (layout : Layout) (shapes : ShapeLists) (v : View) (heap : Heap) (log : List Event) →
    v.who < layout.mutators → MutatorStandsAt layout shapes v heap log →
    IsCallerOf (caller_of layout shapes v) (state_after layout log)
calls_there layout shapes v heap log below s =
    mutators_may_call (caller_of layout shapes v) heap (state_after layout log) below s.active s.claims s.refs s.reads
