-- What a mutator knows between two of its calls, and what its calls leave.
use Rattle.std.specs.Prelude.{ℕ, ◌≡◌, ◌<◌, Bool, true, List, [], ◌∷◌, None}
use Rattle.tide_heap.specs.tide_core.machine.Entries.{call_of}
use Rattle.tide_heap.specs.tide_core.machine.May.{Rests}
use Rattle.tide_heap.specs.tide_core.declared.machine.view.View.{View}
use Rattle.tide_model.specs.Layout.{Layout}
use Rattle.tide_model.specs.declared.entry.Event.{Event}
use Rattle.tide_model.specs.declared.op.Op.{Op}
use Rattle.tide_model.specs.declared.op.Op.TheVariants.{Retire, Set, StrongSet, WeakSet}
use Rattle.tide_model.specs.declared.op.Reply.TheVariants.{Done}

-- the mutator runs, made these calls, has left for good or not, and owes nothing
pub record IsReady (layout : Layout) (v : View) (mine : List Event) (left : Bool) : Type 0 where
  pub runs : v.runs ≡ true
  pub is_mutator : v.who < layout.mutators
  pub rests : Rests v
  pub made : v.mine ≡ mine
  pub is_left : v.left ≡ left

-- what no call changes
pub record Stays (v u : View) : Type 0 where
  pub who : u.who ≡ v.who
  pub begun : u.begun ≡ v.begun
  pub ticket : u.ticket ≡ v.ticket
  pub period : u.period ≡ v.period
  pub visits : u.visits ≡ v.visits

-- a call that was done
abbrev pub done : ℕ → Op → Event
done who op = call_of who op Done None

-- its calls after each of its acts: it sets a register, puts it into two handles, and retires
abbrev pub set_calls : ℕ → List Event
set_calls who = done who (Set 0 7) ∷ []

abbrev pub strong_calls : ℕ → List Event
strong_calls who = done who (Set 0 7) ∷ done who (StrongSet 0 0) ∷ []

abbrev pub put_calls : ℕ → List Event
put_calls who = done who (Set 0 7) ∷ done who (StrongSet 0 0) ∷ done who (WeakSet 0 0) ∷ []

abbrev pub all_calls : ℕ → List Event
all_calls who = done who (Set 0 7) ∷ done who (StrongSet 0 0) ∷ done who (WeakSet 0 0) ∷ done who Retire ∷ []
