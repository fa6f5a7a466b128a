-- Why a call may be made where its action is carried out, and what its view is then.
use Rattle.std.proofs.Common.{ℕ, ◌≡◌, ◌+◌, refl, sym, ◌∙◌, ap, subst, arith, true, false, List, [], ◌∷◌, ◌++◌, Option, Some}
use Rattle.std.specs.Prelude.{filter}
use Rattle.tide_heap.proofs.tide_call.action_laws.Acting.{actions_are_calls}
use Rattle.tide_heap.specs.tide_call.ActionWords.{ActionWords}
use Rattle.tide_heap.specs.tide_call.declared.action.Action.{Action}
use Rattle.tide_heap.specs.tide_call.declared.action.Action.TheVariants as action
use Rattle.tide_heap.specs.tide_layout.declared.region.Region.{Region}
use Rattle.tide_heap.specs.tide_core.machine.Entries.{call_of}
use Rattle.tide_heap.specs.tide_core.machine.May.{MayCall, IsBetweenCalls, RunsAsMutator}
use Rattle.tide_heap.specs.tide_core.machine.Moment.{Moment}
use Rattle.tide_heap.specs.tide_core.machine.Views.{with_entry}
use Rattle.tide_heap.specs.tide_core.machine.World.{World}
use Rattle.tide_heap.specs.tide_core.declared.machine.view.View.{View}
use Rattle.tide_heap.specs.tide_core.machine.kinds.TakeFree.{TakesCell}
use Rattle.tide_model.proofs.ClaimLaws.{ClaimsAreOwn-lawful}
use Rattle.tide_model.specs.History.{state_after, is_call_of}
use Rattle.tide_model.specs.Lawful.{IsLawful}
use Rattle.tide_model.specs.Layout.{Layout}
use Rattle.tide_model.specs.Refused.{ShapeLists}
use Rattle.tide_model.specs.Room.{StandsRefused}
use Rattle.tide_model.specs.Script.{is_retire}
use Rattle.tide_model.specs.declared.entry.Event.{Event}
use Rattle.tide_model.specs.declared.op.Op.{Op}
use Rattle.tide_model.specs.declared.op.Refusal.TheVariants.{Full}
use Rattle.tide_model.specs.declared.op.Reply.{Reply}
use Rattle.tide_model.specs.declared.op.Reply.TheVariants.{Refused}
use Rattle.tide_mutator.proofs.owed_laws.Standing.{calls_there, stands_then}
use Rattle.tide_mutator.specs.owed.Calling.{IsCalling, Kept, kept}
use Rattle.tide_mutator.specs.owed.Made.{HasBirths, IsMade, shown}
use Rattle.tide_mutator.specs.owed.Standing.{IsPlanned, MutatorStandsAt, caller_of}
use Rattle.tide_heap.specs.tide_words.heap.Heap.{Heap}

-- the mutator with a view that is its participant's in a world runs there
pub runs_there : (layout : Layout) (w : World) (v : View) (op : Op) → w.part v.who ≡ v → IsCalling layout v op →
    RunsAsMutator layout w v.who
runs_there layout w v op is calling =
    record { is_mutator = calling.is_mutator; runs = ap (λ (x : View). x.runs) is ∙ calling.runs }

-- a call may be made with the answer that carrying out its action gives
pub may_call : (layout : Layout) (shapes : ShapeLists) (w : World) (v : View) (op : Op) (does : Action) (reply : Reply)
    (took : Option ℕ) (at : Region) (index read : ℕ) → w.part v.who ≡ v → IsCalling layout v op →
    IsPlanned layout shapes v op does → (m : Moment layout shapes v w.log at index read) (new : Heap) →
    ActionWords layout m.settled v.who does reply took new →
    ((class : ℕ) → reply ≡ Refused (Full class) → StandsRefused layout w.log v.who class) →
    MayCall layout shapes w v.who op reply took
may_call layout shapes w v op does reply took at index read is calling planned m new words room = record {
  runner = runs_there layout w v op is calling;
  between = subst IsBetweenCalls (sym is) calling.between;
  stands = record {
    is_mutator = calling.is_mutator;
    is_active = stands.active;
    fits = calling.fits;
    answers = (actions_are_calls (caller_of layout shapes v) m.settled new (state_after layout w.log) op does reply took
        calling.fits (calls_there layout shapes v m.settled w.log calling.is_mutator stands) stands.active calling.bare
        m.refs (ClaimsAreOwn-lawful layout shapes w.log m.lawful) m.reads (planned m.settled w.log stands) words).0;
    room = room;
  };
}
  where
    stands : MutatorStandsAt layout shapes v m.settled w.log
    stands = stands_then layout shapes v w.log at index read calling.stays m

-- the view after the step that made it
pub made_by : (layout : Layout) (shapes : ShapeLists) (op : Op) (does : Action) (reply : Reply) (took : Option ℕ)
    (v u changed : View) (log : List Event) (at : Region) (index read : ℕ) →
    IsCalling layout v op → (m : Moment layout shapes v log at index read) → IsLawful layout shapes u.seen →
    filter (λ event. is_call_of u.who event.entry) u.seen ≡ u.mine →
    u ≡ record (with_entry log (Some (call_of v.who op reply took)) changed) { found = read } →
    (new : Heap) → ActionWords layout m.settled v.who does reply took new →
    kept changed ≡ kept v → changed.mine ≡ v.mine → (is_retire op ≡ false → changed.left ≡ v.left) →
    (does ≡ action.Retire → changed.left ≡ true) →
    HasBirths op v.born changed.born → IsMade layout shapes op does reply v (shown u)
made_by layout shapes op does reply took v u changed log at index read calling m lawful own view new words same mine
    left gone births = record {
      took = took;
      log = log;
      heap = m.settled;
      new = new;
      stands = stands_then layout shapes v log at index read calling.stays m;
      words = words;
      before = m.before;
      seen = ap (λ (x : View). x.seen) view;
      mine = ap (λ (x : View). x.mine) view
          ∙ ap (λ (l : List Event). l ++ call_of v.who op reply took ∷ []) mine;
      lawful = lawful;
      own = sym (subst (λ (n : ℕ). filter (λ event. is_call_of n event.entry) u.seen ≡ u.mine)
          (ap (λ (k : Kept). k.who) keeps) own);
      kept = keeps;
      left = λ stays. ap (λ (x : View). x.left) view ∙ left stays;
      gone = λ is. ap (λ (x : View). x.left) view ∙ gone is;
      births = subst (HasBirths op v.born) (sym (ap (λ (x : View). x.born) view)) births;
    }
  where
    keeps : kept u ≡ kept v
    keeps = ap kept view ∙ same

-- a step that bears no cell
pub none_born : {op : Op} (n : ℕ) → HasBirths op n n
none_born n = record { most = omega arith; none = λ takes. refl }

-- a step that bears the cell that its operation takes
pub one_born : {op : Op} (n : ℕ) → TakesCell op → HasBirths op n (n + 1)
one_born n takes = record { most = omega arith; none = λ never. absurd (never takes) }
