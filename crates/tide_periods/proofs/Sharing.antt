-- How one mutator's share of a part grows by a call.
use Rattle.std.proofs.Common.{ℕ, ◌≡◌, ◌+◌, ◌<◌, refl, sym, ◌∙◌, ap, subst, arith, Bool, true, false, List, [], ◌∷◌, ◌++◌, length, append_assoc, append-nil, inl, inr, eq-eqb}
use Rattle.std.proofs.lemmas.List.{length-append, map-append}
use Rattle.std.proofs.lemmas.List.Elements.{All-nil, All-push}
use Rattle.std.specs.Prelude.{Option, is_some, not, ◌&&◌, ◌||◌, map}
use Rattle.tide_model.specs.declared.op.Op.{Op}
use Rattle.tide_model.specs.declared.op.Reply.{Reply}
use Rattle.tide_model.specs.declared.entry.Event.{Event}
use Rattle.tide_model.specs.Answer.{IsAnswer}
use Rattle.tide_model.specs.History.{is_call_of, state_after}
use Rattle.tide_model.specs.State.{State}
use Rattle.tide_model.specs.Script.{calls_of, is_full_reply, retry_after_all, retry_of}
use Rattle.tide_model.specs.Share.{HasCallLeft, ends_share, has_ended, is_asked}
use Rattle.tide_model.specs.Each.{Each}
use Rattle.tide_model.proofs.Histories.{push_cases}
use Rattle.tide_model.proofs.PeriodLaws.{has_ended-push}
use Rattle.tide_periods.specs.declared.cursor.ScriptCursor.{ScriptCursor}
use Rattle.tide_periods.specs.Answered.{pair_of}
use Rattle.tide_periods.specs.Asking.{IsCursor, IsCursorAt, IsMutatorAt, Standing, TookReply, after_reply, claims_after, next_of, op_or_leave, standing_of}
use Rattle.tide_periods.specs.Store.{Setting}
use Rattle.tide_periods.proofs.PartLoops.{IsSharing}
use Rattle.tide_periods.specs.Part.{RanShare}
use Rattle.tide_periods.specs.Recorded.{IsSettled, MadeCall, Recorded}
use Rattle.tide_model.proofs.PeriodLaws.{Each-nil}
use Rattle.tide_periods.proofs.CursorLaws.{IsMutatorAt-called}
use Rattle.tide_model.proofs.OwnCalls.{called, calls_of-push, is_some-flag, retry_after-flag, retry_of-events}

-- no call was made yet
pub IsSharing-nothing : (old : Recorded) (run who : ℕ) → IsSettled old → IsSharing old old run who 0 false
IsSharing-nothing old run who settled = record {
  settled = settled;
  same = refl;
  counts = record { cycles = refl; parts = refl };
  events = [];
  history = sym (append-nil old.history);
  own = All-nil (λ event. is_call_of who event.entry ≡ true);
  each = Each-nil (HasCallLeft run (retry_of who old.history));
  count = refl;
  stops = refl;
}

-- one call more, by its mutator's standing
pub IsSharing-called : (old now new : Recorded) (run who made : ℕ) (ops : List Op) (standing : Standing) (calls : List (Op × Reply)) (claims : ℕ) (op : Op) (reply : Reply) →
    IsSharing old now run who made false → made < run → IsMutatorAt now.setting now.history who ops standing calls → op ≡ next_of ops standing claims → MadeCall now new who op reply →
    IsSharing old new run who (made + 1) (is_asked reply || (not standing.retry && is_full_reply reply))
IsSharing-called old now new run who made ops standing calls claims op reply sharing below at is call = record {
  settled = call.settled;
  same = call.same ∙ sharing.same;
  counts = record { cycles = call.counts.cycles ∙ sharing.counts.cycles; parts = call.counts.parts ∙ sharing.counts.parts };
  events = sharing.events ++ event ∷ [];
  history = call.history ∙ ap (λ (h : List Event). h ++ event ∷ []) sharing.history ∙ append_assoc old.history sharing.events (event ∷ []);
  own = All-push (λ e. is_call_of who e.entry ≡ true) sharing.events event sharing.own (eq-eqb who who refl);
  each = subst (Each (HasCallLeft run retry)) (sym grown)
      (push_cases (HasCallLeft run retry) own (op, reply) sharing.each (record {
        left = let count = sharing.count in omega (arith, count, below);
        goes_on = sharing.stops;
        retries = λ o pending. is ∙ ap (λ (x : Option Op). op_or_leave x claims) (at.retries o (still ∙ pending));
      }));
  count = ap length grown ∙ length-append own ((op, reply) ∷ []) ∙ ap (λ (n : ℕ). n + 1) sharing.count;
  stops = ap (has_ended retry) grown ∙ has_ended-push false retry own (op, reply)
      ∙ ap (λ (o : Option Op). ends_share o (op, reply)) (sym still)
      ∙ ap (λ (o : Option Op). is_asked reply || is_some o) (retry_after-flag (retry_of who now.history) standing.retry op reply at.retry)
      ∙ ap (λ (b : Bool). is_asked reply || b) (is_some-flag (not standing.retry && is_full_reply reply) op);
}
  where
    event : Event
    event = called who op reply call.took

    retry : Option Op
    retry = retry_of who old.history

    own : List (Op × Reply)
    own = calls_of who sharing.events

    grown : calls_of who (sharing.events ++ event ∷ []) ≡ own ++ (op, reply) ∷ []
    grown = calls_of-push who sharing.events op reply call.took

    still : retry_of who now.history ≡ retry_after_all retry own
    still = ap (retry_of who) sharing.history ∙ retry_of-events who old.history sharing.events

-- all calls were made, or the mutator has retired
pub RanShare-over : (old new : Recorded) (run who made : ℕ) → IsSharing old new run who made false →
    (made < run → (state_after new.setting.layout new.history).active who ≡ false) → RanShare old new run who false
RanShare-over old new run who made sharing fewer = record {
  settled = sharing.settled;
  same = sharing.same;
  counts = sharing.counts;
  events = sharing.events;
  history = sharing.history;
  own = sharing.own;
  share = record { each = sharing.each; fewer = λ few. inl (fewer (let count = sharing.count in omega (arith, count, few))) };
  stops = sym sharing.stops;
}

-- the last call ended the share
pub RanShare-stops : (old new : Recorded) (run who made : ℕ) → IsSharing old new run who made true → RanShare old new run who true
RanShare-stops old new run who made sharing = record {
  settled = sharing.settled;
  same = sharing.same;
  counts = sharing.counts;
  events = sharing.events;
  history = sharing.history;
  own = sharing.own;
  share = record { each = sharing.each; fewer = λ few. inr sharing.stops };
  stops = sym sharing.stops;
}

-- the same of equal things
IsMutatorAt-by : (setting : Setting) (history : List Event) (who who' : ℕ) (ops ops' : List Op) (standing standing' : Standing) (calls calls' : List (Op × Reply)) →
    who ≡ who' → ops ≡ ops' → standing ≡ standing' → calls ≡ calls' → IsMutatorAt setting history who ops standing calls → IsMutatorAt setting history who' ops' standing' calls'
IsMutatorAt-by setting history who who' ops ops' standing standing' calls calls' e1 e2 e3 e4 at =
    subst (λ (w : ℕ). IsMutatorAt setting history w ops' standing' calls') e1
    (subst (λ (o : List Op). IsMutatorAt setting history who o standing' calls') e2
    (subst (λ (s : Standing). IsMutatorAt setting history who ops s calls') e3
    (subst (IsMutatorAt setting history who ops standing) e4 at)))

-- a cursor that took the reply to its call
pub IsCursorAt-took : (setting : Setting) (history : List Event) (cursor taken : ScriptCursor) (op : Op) (reply : Reply) (took : Option ℕ) → IsCursorAt setting history cursor → cursor.retired ≡ false →
    op ≡ next_of cursor.ops.items (standing_of cursor) (claims_after setting.layout history cursor.who) →
    IsAnswer setting.layout setting.shapes (state_after setting.layout history) cursor.who op reply took → TookReply cursor taken op reply →
    IsCursorAt setting (history ++ called cursor.who op reply took ∷ []) taken
IsCursorAt-took setting history cursor taken op reply took at stays is answers record' =
    IsMutatorAt-by setting (history ++ called cursor.who op reply took ∷ []) cursor.who taken.who cursor.ops.items taken.ops.items (after_reply cursor.ops.items (standing_of cursor) op reply) (standing_of taken)
    (map pair_of cursor.calls.items ++ (op, reply) ∷ []) (map pair_of taken.calls.items)
    (sym record'.who) (ap (λ ops. ops.items) (sym record'.ops)) (sym record'.standing)
    (sym (ap (map pair_of) record'.calls ∙ map-append pair_of cursor.calls.items (record { op = op; reply = reply } ∷ [])))
    (IsMutatorAt-called setting history cursor.who cursor.ops.items (standing_of cursor) (map pair_of cursor.calls.items) op reply took at stays is answers)

-- so where a recorder made the call
pub IsCursor-took : (old new : Recorded) (cursor took : ScriptCursor) (op : Op) (reply : Reply) → IsSettled old → IsCursor old cursor → cursor.retired ≡ false →
    op ≡ next_of cursor.ops.items (standing_of cursor) (length (old.state.claims cursor.who)) → MadeCall old new cursor.who op reply → TookReply cursor took op reply →
    IsCursor new took
IsCursor-took old new cursor taken op reply settled at stays is made record' =
    subst (λ (s : Setting). IsCursorAt s new.history taken) (sym made.same)
    (subst (λ (h : List Event). IsCursorAt old.setting h taken) (sym made.history)
    (IsCursorAt-took old.setting old.history cursor taken op reply made.took at stays
    (is ∙ ap (λ (s : State). next_of cursor.ops.items (standing_of cursor) (length (s.claims cursor.who))) (sym settled.leaves))
    (subst (λ (s : State). IsAnswer old.setting.layout old.setting.shapes s cursor.who op reply made.took) (sym settled.leaves) made.answers) record'))
