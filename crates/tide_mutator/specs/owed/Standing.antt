-- Where a mutator may stand in the history, as far as its view tells.
use Rattle.std.specs.Prelude.{ℕ, ◌≡◌, true, false, List, [], filter, ◌==◌}
use Rattle.tide_heap.specs.tide_call.Callers.{Planner}
use Rattle.tide_heap.specs.tide_call.Actions.{IsAction}
use Rattle.tide_heap.specs.tide_call.declared.action.Action.{Action}
use Rattle.tide_heap.specs.tide_layout.Region.{tag}
use Rattle.tide_heap.specs.tide_layout.declared.region.Region.{Region}
use Rattle.tide_heap.specs.tide_layout.declared.region.Region.TheVariants.{Elements}
use Rattle.tide_heap.specs.tide_core.machine.Own.{own_of}
use Rattle.tide_heap.specs.tide_core.machine.Owed.{Knows}
use Rattle.tide_heap.specs.tide_core.declared.machine.view.Growth.TheVariants.{Nothing}
use Rattle.tide_heap.specs.tide_core.declared.machine.view.View.{View}
use Rattle.tide_model.specs.History.{state_after, is_call_of}
use Rattle.tide_model.specs.Lawful.{IsLawful}
use Rattle.tide_model.specs.Layout.{Layout}
use Rattle.tide_model.specs.References.{RefsAreLive}
use Rattle.tide_model.specs.Refused.{ShapeLists}
use Rattle.tide_model.specs.declared.entry.Event.{Event}
use Rattle.tide_model.specs.declared.op.Op.{Op}
use Rattle.tide_heap.specs.steps.Plays.{no_layout}
use Rattle.tide_heap.specs.tide_words.heap.Heap.{Heap}
use Rattle.tide_heap.specs.tide_words.heap.Reading.{ReadsAs}

-- the cells that a mutator claims after these calls of its own, the oldest claim first; no layout matters for them
abbrev pub claims_after_calls : ℕ → List Event → List ℕ
claims_after_calls who mine = (own_of who (state_after no_layout mine)).claims

-- the cells that a mutator with this view claims
abbrev pub claims_of : View → List ℕ
claims_of v = claims_after_calls v.who v.mine

-- the mutator with this view, as one that makes a call
abbrev pub caller_of : Layout → ShapeLists → View → Planner
caller_of layout shapes v = record { layout = layout; shapes = shapes; who = v.who; claims = claims_of v }

-- A mutator with this view may stand after this history: it is lawful, has all calls of its own, and it hasn't retired
-- in it. References are live, and the words of the heap read as the state. Those that the view knows are as it knows
-- them, but for elements, of which no action asks.
pub record MutatorStandsAt (layout : Layout) (shapes : ShapeLists) (v : View) (heap : Heap) (log : List Event)
    : Type 0 where
  pub lawful : IsLawful layout shapes log
  pub own : filter (λ event. is_call_of v.who event.entry) log ≡ v.mine
  pub active : (state_after layout log).active v.who ≡ true
  pub claims : (state_after layout log).claims v.who ≡ claims_of v
  pub refs : RefsAreLive (state_after layout log)
  pub reads : ReadsAs layout shapes heap (state_after layout log)
  pub known : (at : Region) (index word : ℕ) → (tag at == tag Elements) ≡ false → Knows v at index word →
      heap at index ≡ word

-- the action is that of the call, wherever the mutator may stand
abbrev pub IsPlanned : Layout → ShapeLists → View → Op → Action → Type 0
IsPlanned layout shapes v op does =
    (heap : Heap) (log : List Event) → MutatorStandsAt layout shapes v heap log →
    IsAction (caller_of layout shapes v) heap (state_after layout log) op does
