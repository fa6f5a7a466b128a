-- Which handles a realm's mutator set between two views.
use Rattle.std.specs.Prelude.{ℕ, ◌≡◌, ◌≤◌, ◌<◌, ◌+◌, ◌⊎◌, Bool, true, length, drop, Contains}
use Rattle.tide_heap.specs.tide_core.declared.machine.view.View.{View}
use Rattle.tide_model.specs.declared.entry.Entry.{Entry}
use Rattle.tide_model.specs.declared.entry.Event.{Event}
use Rattle.tide_weakref.specs.Handles.{IsIn, sets_strong, sets_weak}
use Rattle.tide_weakref.specs.Jobs.{Jobs, handle_of}
use Rattle.tide_weakref.specs.declared.weak.Weak.{Weak}

-- between two views the mutator made a call of this kind
pub record WasMade (kind : Entry → Bool) (v u : View) : Type 0 where
  pub event : Event
  pub made : Contains (drop (length v.mine) u.mine) event
  pub is : kind event.entry ≡ true

-- it set this weak handle
abbrev pub WasSet : View → View → ℕ → Type 0
WasSet v u handle = WasMade (sets_weak handle) v u

-- it set this strong handle
abbrev pub WasSetStrong : View → View → ℕ → Type 0
WasSetStrong v u handle = WasMade (sets_strong handle) v u

-- each strong handle that it set is one of these, and each weak one is one of those
pub record SetsOnly (These Those : ℕ → Type 0) (v u : View) : Type 0 where
  pub strong : (handle : ℕ) → WasSetStrong v u handle → These handle
  pub weak : (handle : ℕ) → WasSet v u handle → Those handle

-- no handle is one
abbrev pub NoHandle : ℕ → Type 0
NoHandle handle = ⊥

-- it set none
abbrev pub SetsNone : View → View → Type 0
SetsNone v u = SetsOnly NoHandle NoHandle v u

-- it set this weak one, and no other handle
pub record SetsAlone (v u : View) (handle : ℕ) : Type 0 where
  pub was_set : WasSet v u handle
  pub no_other : SetsOnly NoHandle (λ other. other ≡ handle) v u

-- the strong handle is that of a cell which a realm keeps
abbrev pub IsKeptIn : Jobs → ℕ → Type 0
IsKeptIn jobs handle = (jobs.strong.first ≤ handle) × (handle < jobs.strong.first + length jobs.cells)

-- None of the weak handles that a realm used was set, and each that it took into use was. So what an end freed since a
-- handle in use was last set, an end freed since the call that took it into use. No handle was set but weak ones of the
-- realm, and strong ones of cells that it kept or keeps.
pub record SetsWhatItTakes (v u : View) (jobs now : Jobs) : Type 0 where
  pub spares : (one : Weak) → Contains jobs.uses one → WasSet v u (handle_of jobs one) → ⊥
  pub takes : (one : Weak) → Contains now.uses one → Contains jobs.uses one ⊎ WasSet v u (handle_of now one)
  pub weak : (handle : ℕ) → WasSet v u handle → IsIn jobs.weak handle
  pub strong : (handle : ℕ) → WasSetStrong v u handle → IsKeptIn jobs handle ⊎ IsKeptIn now handle
