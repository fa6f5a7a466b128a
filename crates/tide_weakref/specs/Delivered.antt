-- What a realm answers where it is asked for the held value of a target that is gone.
use Rattle.std.specs.List.{remove}
use Rattle.std.specs.Prelude.{ℕ, ◌≡◌, false, List, take, drop, length, Option, None, Some, slice_get, Contains}
use Rattle.tide_heap.specs.tide_core.declared.machine.view.View.{View}
use Rattle.tide_model.specs.declared.entry.Entry.TheVariants.{Call}
use Rattle.tide_model.specs.declared.entry.Event.{Event}
use Rattle.tide_model.specs.declared.op.Op.TheVariants.{WeakGet}
use Rattle.tide_model.specs.declared.op.Reply.TheVariants.{Seen}
use Rattle.tide_model.specs.declared.val.Val.{Val}
use Rattle.tide_model.specs.declared.val.Val.TheVariants.{Cell}
use Rattle.tide_weakref.specs.Handles.{IsGone, is_cell}
use Rattle.tide_weakref.specs.Jobs.{Jobs, OthersSpare, handle_of}
use Rattle.tide_weakref.specs.declared.weak.Role.TheVariants.{Registration}
use Rattle.tide_weakref.specs.declared.weak.Weak.{Weak}

-- between two views the mutator read the handle, and it held this value
pub record WasRead (v u : View) (handle : ℕ) (value : Val) : Type 0 where
  pub event : Event
  pub made : Contains (drop (length v.mine) u.mine) event
  pub register : ℕ
  pub is : event.entry ≡ Call v.who (WeakGet register handle) (Seen value)

-- it read the handle of each of these registrations, and each held a cell
abbrev pub AllHeldCells : View → View → Jobs → List Weak → Type 0
AllHeldCells v u jobs some = (one : Weak) (held token : ℕ) → Contains some one → one.role ≡ Registration held token →
    (cell : ℕ) × WasRead v u (handle_of jobs one) (Cell cell)

-- The first registration whose handle, read now, holds no cell stands at this place: where no other mutator sets the
-- realm's handles, an end since it was made freed its target.
pub record IsFirstGone (v u : View) (jobs : Jobs) (place : ℕ) (one : Weak) (held token : ℕ) : Type 0 where
  pub at : slice_get jobs.uses place ≡ Some one
  pub registered : one.role ≡ Registration held token
  pub earlier : AllHeldCells v u jobs (take place jobs.uses)
  pub value : Val
  pub read : WasRead v u (handle_of jobs one) value
  pub holds_none : is_cell value ≡ false
  pub gone : OthersSpare v.who jobs u.seen → IsGone u.seen (handle_of jobs one) one.target

-- It was asked for the held value of the first registration whose target is gone, which is taken out. There was none
-- exactly where the handle of each registration, read by the calls between the views, held a cell.
pub data IsDelivered (v u : View) (jobs : Jobs) : Jobs → Option ℕ → Type 0 where
  nothing : AllHeldCells v u jobs jobs.uses → IsDelivered v u jobs jobs None
  delivers : (place : ℕ) (one : Weak) (held token : ℕ) → IsFirstGone v u jobs place one held token →
      IsDelivered v u jobs (record jobs { uses = remove jobs.uses place }) (Some held)
