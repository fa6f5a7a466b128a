-- What a mutator's view is once its call has its entry, while the call still owes something.
use Rattle.std.specs.Prelude.{ℕ, ◌≡◌, ◌≤◌, ◌+◌, Bool, true, false, List, [], ◌∷◌, ◌++◌, length, Option}
use Rattle.tide_heap.specs.tide_call.ActionWords.{ActionWords}
use Rattle.tide_heap.specs.tide_call.declared.action.Action.{Action}
use Rattle.tide_heap.specs.tide_call.declared.action.Action.TheVariants as action
use Rattle.tide_heap.specs.tide_core.machine.Entries.{call_of}
use Rattle.tide_heap.specs.tide_core.declared.machine.view.Duty.{Duty}
use Rattle.tide_heap.specs.tide_core.declared.machine.view.Duty.TheVariants.{Nothing}
use Rattle.tide_heap.specs.tide_core.declared.machine.view.Owed.{Owed}
use Rattle.tide_heap.specs.tide_core.declared.machine.view.View.{View}
use Rattle.tide_heap.specs.tide_core.machine.kinds.TakeFree.{TakesCell}
use Rattle.tide_model.specs.Caller.{IsOwn}
use Rattle.tide_model.specs.Lawful.{IsLawful}
use Rattle.tide_model.specs.Layout.{Layout}
use Rattle.tide_model.specs.Prefix.{IsPrefix}
use Rattle.tide_model.specs.Refused.{ShapeLists}
use Rattle.tide_model.specs.Script.{is_retire}
use Rattle.tide_model.specs.declared.entry.Event.{Event}
use Rattle.tide_model.specs.declared.op.Op.{Op}
use Rattle.tide_model.specs.declared.op.Reply.{Reply}
use Rattle.tide_mutator.specs.owed.Calling.{Kept, kept}
use Rattle.tide_mutator.specs.owed.Standing.{MutatorStandsAt}
use Rattle.tide_heap.specs.tide_words.heap.Heap.{Heap}

-- of a mutator's view what a call's entry changes, and nothing that the call does after it
pub record Shown : Type 0 where
  pub kept : Kept
  pub seen : List Event
  pub mine : List Event
  pub left : Bool
  pub born : ℕ

abbrev pub shown : View → Shown
shown v = record { kept = kept v; seen = v.seen; mine = v.mine; left = v.left; born = v.born }

-- how many births there were before a call and after it: it has one at most, and none where its operation takes no cell
pub record HasBirths (op : Op) (before after : ℕ) : Type 0 where
  pub most : after ≤ before + 1
  pub none : (TakesCell op → ⊥) → after ≡ before

-- The call's entry stands right after a history in which the mutator with this view could stand, of which it had seen a
-- beginning. Carrying out this action writes the words of the heap there that make the call, and answers so.
pub record IsMade (layout : Layout) (shapes : ShapeLists) (op : Op) (does : Action) (reply : Reply)
    (v : View) (after : Shown) : Type 0 where
  pub took : Option ℕ
  pub log : List Event
  pub heap : Heap
  pub new : Heap
  pub stands : MutatorStandsAt layout shapes v heap log
  pub words : ActionWords layout heap v.who does reply took new
  pub before : IsPrefix v.seen log
  pub seen : after.seen ≡ log ++ call_of v.who op reply took ∷ []
  pub mine : after.mine ≡ v.mine ++ call_of v.who op reply took ∷ []
  pub lawful : IsLawful layout shapes after.seen
  pub own : IsOwn v.who after.seen after.mine
  pub kept : after.kept ≡ kept v
  pub left : is_retire op ≡ false → after.left ≡ v.left
  pub gone : does ≡ action.Retire → after.left ≡ true
  pub births : HasBirths op v.born after.born

-- The call has its entry. It still owes these words and this, and its call word doesn't tell it yet.
pub record HasMade (layout : Layout) (shapes : ShapeLists) (op : Op) (does : Action) (reply : Reply)
    (v u : View) (debts : List Owed) (due : Duty) : Type 0 where
  pub made : IsMade layout shapes op does reply v (shown u)
  pub owed : u.owed ≡ debts
  pub duty : u.duty ≡ due

-- The call owes nothing more, and its call word tells it.
pub record HasDone (layout : Layout) (shapes : ShapeLists) (op : Op) (does : Action) (reply : Reply)
    (v u : View) : Type 0 where
  pub made : IsMade layout shapes op does reply v (shown u)
  pub owed : u.owed ≡ []
  pub duty : u.duty ≡ Nothing
  pub calls : u.calls ≡ length u.mine
