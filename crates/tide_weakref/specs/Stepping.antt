-- What holds between the calls that a realm makes for one call of its own.
use Rattle.std.specs.Prelude.{ℕ, ◌≡◌, ◌≢◌, Bool, true, false, List, [], ◌∷◌, ◌++◌, Contains, Option, None, Some, IfSome, if◌then◌else◌}
use Rattle.atomic_table.specs.Seated.{TableId}
use Rattle.tide_heap.specs.tide_core.declared.machine.view.View.{View}
use Rattle.tide_model.specs.Caller.{IsOwn}
use Rattle.tide_model.specs.History.{state_after}
use Rattle.tide_model.specs.Layout.{Layout}
use Rattle.tide_model.specs.Prefix.{IsPrefix}
use Rattle.tide_model.specs.Refused.{ShapeLists}
use Rattle.tide_model.specs.declared.entry.Entry.TheVariants.{Call}
use Rattle.tide_model.specs.declared.entry.Event.{Event}
use Rattle.tide_model.specs.declared.op.Op.TheVariants.{WeakGet}
use Rattle.tide_model.specs.declared.op.Refusal.TheVariants.{NotCell as NoCell}
use Rattle.tide_model.specs.declared.op.Reply.{Reply}
use Rattle.tide_model.specs.declared.op.Reply.TheVariants.{Refused, Seen}
use Rattle.tide_model.specs.declared.val.Val.{Val}
use Rattle.tide_model.specs.declared.val.Val.TheVariants.{Empty, Int, Cell}
use Rattle.tide_mutator.specs.calls.Viewed as works
use Rattle.tide_mutator.specs.declared.calls.mutator.Mutator.{Mutator}
use Rattle.tide_weakref.specs.Calls.{HasCalled, IsRunning}
use Rattle.tide_weakref.specs.Handles.{IsGone, IsIn, WeakStands, is_cell}
use Rattle.tide_weakref.specs.Jobs.{HoldsJobs, Jobs, OthersSpare, handle_of, registers_of}
use Rattle.tide_weakref.specs.declared.refused.WeakRefused.{WeakRefused}
use Rattle.tide_weakref.specs.declared.refused.WeakRefused.TheVariants.{NotCell, RefsFull}
use Rattle.tide_weakref.specs.declared.weak.Weak.{Weak}

-- A mutator made some calls, none among them: it runs as it did, and if what it has made are all calls of its own, they
-- were before.
pub record HasStepped (id : TableId) (layout : Layout) (shapes : ShapeLists) (old new : Mutator) : Type 0 where
  pub running : IsRunning id layout new
  pub seat : works.seat_of new ≡ works.seat_of old
  pub who : (works.view_of new).who ≡ (works.view_of old).who
  pub called : HasCalled layout shapes (works.view_of old) (works.view_of new)
  pub own : IsOwn (works.view_of new).who (works.view_of new).seen (works.view_of new).mine →
      IsOwn (works.view_of old).who (works.view_of old).seen (works.view_of old).mine

-- what the realm has stood after a beginning of what its mutator has seen, in which all of the mutator's calls are
pub record HasHeldJobs (layout : Layout) (v : View) (jobs : Jobs) : Type 0 where
  pub at : List Event
  pub earlier : IsPrefix at v.seen
  pub holds : HoldsJobs layout v.who jobs at v.mine

-- what the realm has stands now
abbrev pub HoldsNow : Layout → View → Jobs → Type 0
HoldsNow layout v jobs = HoldsJobs layout v.who jobs v.seen v.mine

-- what the mutator's registers hold
abbrev pub held_in : Layout → View → ℕ → Val
held_in layout v = registers_of layout v.who v.seen

-- the register is empty, if what the mutator has made are all calls of its own
abbrev pub IsBare : Layout → View → ℕ → Type 0
IsBare layout v register = IsOwn v.who v.seen v.mine → held_in layout v register ≡ Empty

-- the registers but one hold what they held
abbrev pub SameBut : Layout → ℕ → View → View → Type 0
SameBut layout register v u = (r : ℕ) → r ≢ register → held_in layout u r ≡ held_in layout v r

-- what a realm has that stood, stands
abbrev pub LetsStand : Layout → View → View → Type 0
LetsStand layout v u = (jobs : Jobs) → HasHeldJobs layout v jobs → HoldsNow layout u jobs

-- so it does where a weak handle isn't in use
abbrev pub LetsStandApart : Layout → ℕ → View → View → Type 0
LetsStandApart layout handle v u = (jobs : Jobs) →
    ((one : Weak) → Contains jobs.uses one → handle_of jobs one ≢ handle) → HasHeldJobs layout v jobs →
    HoldsNow layout u jobs

-- What a realm's weak handles tell of targets stays: one that is gone is gone afterwards, and one that the scratch
-- register holds isn't, if it wasn't before.
pub record KeepsTargets (layout : Layout) (jobs : Jobs) (v u : View) : Type 0 where
  pub gone : (handle target : ℕ) → IsIn jobs.weak handle → OthersSpare v.who jobs u.seen →
      IsGone v.seen handle target → IsGone u.seen handle target
  pub alive : (handle target : ℕ) → IsIn jobs.weak handle → OthersSpare v.who jobs u.seen →
      held_in layout v jobs.scratch ≡ Cell target → (IsGone v.seen handle target → ⊥) → IsGone u.seen handle target → ⊥

-- so it does for each realm
abbrev pub TellsTargets : Layout → View → View → Type 0
TellsTargets layout v u = (jobs : Jobs) → KeepsTargets layout jobs v u

-- the cell that a value names
abbrev pub cell_in : Val → Option ℕ
cell_in (Cell cell) = Some cell
cell_in Empty = None
cell_in (Int n) = None

-- the cell that a reply shows
abbrev pub cell_seen : Reply → Option ℕ
cell_seen (Seen value) = cell_in value
cell_seen _ = None

-- A weak handle was read into the scratch register, and this is the cell that it holds, if it holds one.
pub record WasLoaded (layout : Layout) (v u : View) (scratch handle : ℕ) (found : Option ℕ) : Type 0 where
  pub value : Val
  pub found_is : found ≡ cell_in value
  pub handle_has : (state_after layout u.seen).weak handle ≡ value
  pub scratch_has : held_in layout u scratch ≡ value
  pub read : (event : Event) × (u.mine ≡ v.mine ++ event ∷ [])
      × (event.entry ≡ Call v.who (WeakGet scratch handle) (Seen value))

-- A weak handle was set to what a register held, and read into the scratch register. Where the handle is one of a
-- realm's that no other mutator sets, the cell that is answered is the one that the register held, and the handle
-- stands for it.
pub record WasAimed (layout : Layout) (v u : View) (scratch handle src : ℕ) (found : Option ℕ) : Type 0 where
  pub scratch_has : IfSome found (λ cell. held_in layout u scratch ≡ Cell cell)
  pub found_is : (jobs : Jobs) → IsIn jobs.weak handle → OthersSpare v.who jobs u.seen →
      found ≡ cell_in (held_in layout v src)
  pub stands : (jobs : Jobs) → IsIn jobs.weak handle → OthersSpare v.who jobs u.seen →
      IfSome found (WeakStands layout u.seen handle)

-- why nothing is made of what a register holds, where each weak handle is in use
abbrev pub refusal_where_full : ℕ → Val → WeakRefused
refusal_where_full register value = if is_cell value then RefsFull else NotCell register

-- the reply refuses a register that holds no cell
abbrev pub refuses_no_cell : Reply → Bool
refuses_no_cell (Refused (NoCell register)) = true
refuses_no_cell _ = false
