-- The machine's world: words, what each participant knows, and one history.
use Rattle.std.specs.Prelude.{ℕ, ◌+◌, ◌<◌, ◌≤◌, ◌⊎◌, List, ◌==◌, if◌then◌else◌}
use Rattle.tide_words.specs.tide_layout.Slots.{total_below}
use Rattle.tide_core.specs.declared.machine.view.Duty.{Duty}
use Rattle.tide_core.specs.declared.machine.view.Duty.TheVariants as duty
use Rattle.tide_core.specs.declared.machine.view.View.{View}
use Rattle.tide_model.specs.Layout.{Layout}
use Rattle.tide_model.specs.declared.entry.Event.{Event}
use Rattle.tide_words.specs.heap.Heap.{Heap}
use Rattle.tide_words.specs.marking.Marking.{times_in}

-- the words, what each participant knows, by its number, and the history
pub record World : Type 0 where
  pub heap : Heap
  pub part : ℕ → View
  pub log : List Event

-- no participant has a number from here on: mutators have those below 16, and visitors the next eight
abbrev pub parties : ℕ
parties = 24

-- the number of the first visitor
abbrev pub first_visitor : ℕ
first_visitor = 16

-- a participant of the layout: a mutator's number, or 16 plus a visitor's
abbrev pub IsParty : Layout → ℕ → Type 0
IsParty layout p = (p < layout.mutators) ⊎ ((first_visitor ≤ p) × (p < first_visitor + layout.visitors))

-- what all participants have of something, added up
abbrev pub total : (View → ℕ) → (ℕ → View) → ℕ
total count part = total_below (λ who. count (part who)) parties

-- how often a duty is to push this cell
abbrev pub pushes : Duty → ℕ → ℕ
pushes (duty.Push c) cell = if c == cell then 1 else 0
pushes (duty.PushRace c) cell = if c == cell then 1 else 0
pushes duty.Nothing cell = 0
pushes (duty.Barrier c) cell = 0
pushes (duty.Regrey c word) cell = 0
pushes (duty.Born c) cell = 0

-- how often a view holds a cell: among those that it took from grey words or marked, or as one that it has to push
abbrev pub holds : ℕ → View → ℕ
holds cell v = times_in v.held cell + pushes v.duty cell
