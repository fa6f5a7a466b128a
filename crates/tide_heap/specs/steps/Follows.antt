-- What a participant's step asks, and what it tells its caller.
use Rattle.std.specs.Prelude.{ℕ, ◌≡◌, ◌<◌, true, List, filter}
use Rattle.tide_core.specs.tide_layout.Region.{place_in, size_of}
use Rattle.tide_core.specs.machine.Kind.{Kind, LoadCall, LoadRegister, region_of, index_of, act_of}
use Rattle.tide_core.specs.machine.Machine.{IsAllowed}
use Rattle.tide_core.specs.machine.Moment.{Moment}
use Rattle.tide_core.specs.machine.RunningWave.{RunningWave}
use Rattle.tide_core.specs.machine.Views.{view_after}
use Rattle.tide_core.specs.machine.World.{World}
use Rattle.tide_core.specs.declared.machine.act.Act.{Act}
use Rattle.tide_core.specs.declared.machine.act.Act.TheVariants.{Load, Store, Swap, And, Or, Exchange}
use Rattle.tide_core.specs.declared.machine.view.View.{View}
use Rattle.tide_model.specs.History.{is_call_of}
use Rattle.tide_model.specs.Lawful.{IsLawful}
use Rattle.tide_model.specs.Layout.{Layout}
use Rattle.tide_model.specs.Refused.{ShapeLists}
use Rattle.tide_model.specs.declared.entry.Event.{Event}
use Rattle.tide_heap.specs.steps.Works.{is_work}

-- Whatever the machine is when a participant with this view steps, it is allowed the step of this kind. What the caller
-- knows of the machine is that the wave holds, and its own view.
abbrev pub MayStep : Layout → ShapeLists → View → Kind → Type 0
MayStep layout shapes v kind = (w : World) → RunningWave layout shapes w → w.part v.who ≡ v →
    IsAllowed layout shapes w v.who kind

-- the view with the word that a step of this kind found; what its registers and its call word tell, it knows already
abbrev pub with_found : Kind → ℕ → View → View
with_found (LoadRegister register) read v = v
with_found LoadCall read v = v
with_found _ read v = record v { found = read }

-- What a step of a kind tells, where the word was found: it took place after some history, of which the caller had seen
-- a beginning; the view is the one that the machine says, with the word; and what the machine was at that moment.
pub record Follows (layout : Layout) (shapes : ShapeLists) (kind : Kind) (v : View) (read : ℕ) (u : View)
    : Type 0 where
  pub log : List Event
  pub view : u ≡ with_found kind read (view_after layout shapes log v.who kind read v)
  pub moment : Moment layout shapes v log (region_of kind) (index_of layout v.who kind) read
  -- it has seen a lawful history, with all of its own calls
  pub lawful : IsLawful layout shapes u.seen
  pub own : filter (λ event. is_call_of u.who event.entry) u.seen ≡ u.mine

-- what a store tells: some word was there before, which it doesn't tell
abbrev pub FollowsSome : Layout → ShapeLists → Kind → View → View → Type 0
FollowsSome layout shapes kind v u = (read : ℕ) × Follows layout shapes kind v read u

-- What a step tells with this operation: what was there before a store isn't told.
abbrev pub Tells : Act → Layout → ShapeLists → Kind → View → ℕ → View → Type 0
Tells Load layout shapes kind v read u = Follows layout shapes kind v read u
Tells (Store word) layout shapes kind v read u = FollowsSome layout shapes kind v u
Tells Swap layout shapes kind v read u = Follows layout shapes kind v read u
Tells (And mask) layout shapes kind v read u = Follows layout shapes kind v read u
Tells (Or mask) layout shapes kind v read u = Follows layout shapes kind v read u
Tells (Exchange old new) layout shapes kind v read u = Follows layout shapes kind v read u

-- the place is that of the word that a step of this kind by this participant is on
pub record StandsAt (layout : Layout) (who : ℕ) (kind : Kind) (at : ℕ) : Type 0 where
  pub place : at ≡ place_in layout (region_of kind) (index_of layout who kind)
  pub inside : index_of layout who kind < size_of layout (region_of kind)

-- what has to be shown for a step of this kind with this operation at this place
pub record May (layout : Layout) (shapes : ShapeLists) (v : View) (kind : Kind) (at : ℕ) (act : Act) : Type 0 where
  pub works : is_work kind ≡ true
  pub runs : v.runs ≡ true
  pub stands : StandsAt layout v.who kind at
  pub acts : act ≡ act_of kind
  pub may : MayStep layout shapes v kind
