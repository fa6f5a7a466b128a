-- The calls of one mutator in a history, which are those of its own entries.
use Rattle.std.proofs.Common.{ℕ, ◌≡◌, ◌+◌, refl, sym, ◌∙◌, ap, subst, arith, Bool, true, false, List, [], ◌∷◌, ◌++◌, length, eq-eqb}
use Rattle.std.specs.Prelude.{Option, None, Some, ◌&&◌, filter, is_some, not, slice_get, if◌then◌else◌}
use Rattle.tide_model.specs.declared.op.Op.{Op}
use Rattle.tide_model.specs.declared.op.Reply.{Reply}
use Rattle.tide_model.specs.declared.entry.Entry.{Entry}
use Rattle.tide_model.specs.declared.entry.Entry.TheVariants.{Call, Begin, Pause, Visits, End, Taken, Sweep, Open}
use Rattle.tide_model.specs.declared.entry.Event.{Event}
use Rattle.tide_model.specs.Caller.{IsOwn}
use Rattle.tide_model.specs.History.{is_call_of}
use Rattle.tide_model.specs.Lawful.{IsLawful, Stands}
use Rattle.tide_model.specs.Layout.{Layout}
use Rattle.tide_model.specs.Refused.{ShapeLists}
use Rattle.tide_model.specs.Script.{calls_of, is_full_reply, own_calls, retry_after, retry_after_all, retry_of}
use Rattle.tide_model.specs.Share.{IsShare}
use Rattle.tide_model.proofs.Cycles.{take-all}
use Rattle.tide_model.proofs.Histories.{calls_of-append, retry_after_all-append, take-append-short}

-- an entry that is no call of a mutator
pub own_calls-other : (who : ℕ) (entry : Entry) → is_call_of who entry ≡ false → own_calls who entry ≡ []
own_calls-other who (Call w op reply) other =
    ap (λ (b : Bool). if◌then◌else◌ {A = List (Op × Reply)} b ((op, reply) ∷ []) []) other
own_calls-other who (Begin cycle full) other = refl
own_calls-other who (Pause visits) other = refl
own_calls-other who (Visits w visits) other = refl
own_calls-other who (End cycle freed) other = refl
own_calls-other who (Taken block) other = refl
own_calls-other who (Sweep block) other = refl
own_calls-other who (Open number run) other = refl

-- whose entry it is
abbrev pub is_own : ℕ → Event → Bool
is_own who event = is_call_of who event.entry

-- a mutator's calls are those of its own entries
pub calls_of-own : (who : ℕ) (history : List Event) → calls_of who (filter (is_own who) history) ≡ calls_of who history
calls_of-own who [] = refl
calls_of-own who (event ∷ history) = step (calls_of-own who history) (is_own who event) refl
  where
    step : calls_of who (filter (is_own who) history) ≡ calls_of who history → (b : Bool) → is_own who event ≡ b →
        calls_of who (if b then event ∷ filter (is_own who) history else filter (is_own who) history) ≡ own_calls who event.entry ++ calls_of who history
    step later true e = ap (λ (more : List (Op × Reply)). own_calls who event.entry ++ more) later
    step later false e = later ∙ ap (λ (more : List (Op × Reply)). more ++ calls_of who history) (sym (own_calls-other who event.entry e))

pub calls_of-mine : (who : ℕ) (history mine : List Event) → IsOwn who history mine → calls_of who mine ≡ calls_of who history
calls_of-mine who history mine own = ap (calls_of who) own ∙ calls_of-own who history

-- the event of a call
abbrev pub called : ℕ → Op → Reply → Option ℕ → Event
called who op reply took = record { entry = Call who op reply; took = took }

-- one's own call
pub calls_of-called : (who : ℕ) (op : Op) (reply : Reply) (took : Option ℕ) → calls_of who (called who op reply took ∷ []) ≡ (op, reply) ∷ []
calls_of-called who op reply took = ap (λ (b : Bool). (if b then (op, reply) ∷ [] else []) ++ []) (eq-eqb who who refl)

pub calls_of-push : (who : ℕ) (history : List Event) (op : Op) (reply : Reply) (took : Option ℕ) →
    calls_of who (history ++ called who op reply took ∷ []) ≡ calls_of who history ++ (op, reply) ∷ []
calls_of-push who history op reply took =
    calls_of-append who history (called who op reply took ∷ []) ∙ ap (λ (more : List (Op × Reply)). calls_of who history ++ more) (calls_of-called who op reply took)

-- what a mutator has to try again, in the midst of its share
pub retry_of-events : (who : ℕ) (before events : List Event) → retry_of who (before ++ events) ≡ retry_after_all (retry_of who before) (calls_of who events)
retry_of-events who before events = ap (retry_after_all None) (calls_of-append who before events) ∙ retry_after_all-append None (calls_of who before) (calls_of who events)

-- after one more call
pub retry_of-push : (who : ℕ) (history : List Event) (op : Op) (reply : Reply) (took : Option ℕ) →
    retry_of who (history ++ called who op reply took ∷ []) ≡ retry_after (retry_of who history) (op, reply)
retry_of-push who history op reply took =
    ap (retry_after_all None) (calls_of-push who history op reply took) ∙ retry_after_all-append None (calls_of who history) ((op, reply) ∷ [])

-- what is to be tried again after a call, by whether it was a second try
pub retry_after-flag : (pending : Option Op) (retry : Bool) (op : Op) (reply : Reply) → retry ≡ is_some pending →
    retry_after pending (op, reply) ≡ (if not retry && is_full_reply reply then Some op else None)
retry_after-flag None true op reply e = absurd (cc)
retry_after-flag None false op reply e = refl
retry_after-flag (Some tried) true op reply e = refl
retry_after-flag (Some tried) false op reply e = absurd (cc)

pub is_some-flag : (flag : Bool) (op : Op) → is_some (if flag then Some op else None) ≡ flag
is_some-flag true op = refl
is_some-flag false op = refl

-- a share of equal things
pub IsShare-by : (run : ℕ) (retry retry' : Option Op) (active active' : Bool) (calls calls' : List (Op × Reply)) → retry ≡ retry' → active ≡ active' → calls ≡ calls' →
    IsShare run retry active calls → IsShare run retry' active' calls'
IsShare-by run retry retry' active active' calls calls' e1 e2 e3 share =
    subst (λ (r : Option Op). IsShare run r active' calls') e1 (subst (λ (a : Bool). IsShare run retry a calls') e2 (subst (IsShare run retry active) e3 share))

-- the last event of a lawful history stands
pub stands_last : (layout : Layout) (shapes : ShapeLists) (before : List Event) (event : Event) → IsLawful layout shapes (before ++ event ∷ []) → Stands layout shapes before event
stands_last layout shapes before event lawful =
    subst (λ (h : List Event). Stands layout shapes h event) (take-append-short before (event ∷ []) (length before) (omega arith) ∙ take-all before)
    (lawful (length before) event (at_end before event))
  where
    at_end : (xs : List Event) (x : Event) → slice_get (xs ++ x ∷ []) (length xs) ≡ Some x
    at_end [] x = refl
    at_end (y ∷ xs) x = at_end xs x
