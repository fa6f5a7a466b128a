-- Who has retired is active no more.
use Rattle.std.proofs.Common.{ℕ, ◌≡◌, refl, sym, ◌∙◌, ap, subst, Bool, true, false, List, [], ◌∷◌, ◌++◌, inl, inr, Option, append-nil}
use Rattle.std.proofs.lemmas.Bool.{cases_Bool}
use Rattle.std.proofs.lemmas.List.Elements.{filter-append}
use Rattle.std.specs.Prelude.{filter, if◌then◌else◌, ◌==◌}
use Rattle.tide_core.proofs.machine_laws.steps.OwnState.{own_state}
use Rattle.tide_core.specs.machine.Own.{Own, own_of}
use Rattle.tide_model.proofs.ActiveLaws.{active_after-call}
use Rattle.tide_model.proofs.Histories.{state_after-push}
use Rattle.tide_model.specs.Applied.{after_call}
use Rattle.tide_model.specs.History.{state_after, after_entry, is_call_of}
use Rattle.tide_model.specs.Layout.{Layout}
use Rattle.tide_model.specs.Script.{is_retire}
use Rattle.tide_model.specs.State.{State}
use Rattle.tide_model.specs.declared.entry.Entry.{Entry}
use Rattle.tide_model.specs.declared.entry.Entry.TheVariants.{Call, Begin, Pause, Visits, End, Taken, Sweep, Open}
use Rattle.tide_model.specs.declared.entry.Event.{Event}
use Rattle.tide_model.specs.declared.op.Op.{Op}
use Rattle.tide_model.specs.declared.op.Op.TheVariants.{Retire}
use Rattle.tide_model.specs.declared.op.Reply.{Reply}
use Rattle.tide_model.specs.declared.op.Reply.TheVariants.{Done, Born, Seen, Asked, Refused}

retires : (op : Op) → is_retire op ≡ true → op ≡ Retire
retires Retire is = refl
retires op is = absurd (cc)

-- a call of Retire makes nobody active
inactive_retire : (s : State) (who : ℕ) (reply : Reply) (took : Option ℕ) (i : ℕ) → s.active i ≡ false →
    (after_call s who Retire reply took).active i ≡ false
inactive_retire s who Done took i h = by_test (i == who)
  where
    by_test : (b : Bool) → (if b then false else s.active i) ≡ false
    by_test true = refl
    by_test false = h
inactive_retire s who (Born cell) took i h = h
inactive_retire s who (Seen value) took i h = h
inactive_retire s who Asked took i h = h
inactive_retire s who (Refused refusal) took i h = h

inactive_call : (s : State) (who : ℕ) (op : Op) (reply : Reply) (took : Option ℕ) (i : ℕ) → s.active i ≡ false →
    (after_call s who op reply took).active i ≡ false
inactive_call s who op reply took i h = elim (cases_Bool (is_retire op)) [
  | inl is ↦ subst (λ (o : Op). (after_call s who o reply took).active i ≡ false) (sym (retires op is))
      (inactive_retire s who reply took i h)
  | inr isnt ↦ ap (λ (f : ℕ → Bool). f i) (active_after-call s who op reply took isnt) ∙ h
]

inactive_entry : (layout : Layout) (s : State) (entry : Entry) (took : Option ℕ) (i : ℕ) → s.active i ≡ false →
    (after_entry layout s entry took).active i ≡ false
inactive_entry layout s (Call who op reply) took i h = inactive_call s who op reply took i h
inactive_entry layout s (Begin cycle full) took i h = h
inactive_entry layout s (Pause visits) took i h = h
inactive_entry layout s (Visits who visits) took i h = h
inactive_entry layout s (End cycle freed) took i h = h
inactive_entry layout s (Taken block) took i h = h
inactive_entry layout s (Sweep block) took i h = h
inactive_entry layout s (Open number run) took i h = h

-- who isn't active stays so
pub inactive-push : (layout : Layout) (log : List Event) (event : Event) (i : ℕ) →
    (state_after layout log).active i ≡ false → (state_after layout (log ++ event ∷ [])).active i ≡ false
inactive-push layout log event i h = ap (λ (s : State). s.active i) (state_after-push layout log event)
    ∙ inactive_entry layout (state_after layout log) event.entry event.took i h

-- an entry that is no call of this mutator leaves it as active as it was
pub active-push : (layout : Layout) (log : List Event) (event : Event) (i : ℕ) → is_call_of i event.entry ≡ false →
    (state_after layout (log ++ event ∷ [])).active i ≡ (state_after layout log).active i
active-push layout log event i no_call = ap (λ (o : Own). o.active) (own_state layout i (log ++ event ∷ [])
    ∙ ap (λ (l : List Event). own_of i (state_after layout l)) same ∙ sym (own_state layout i log))
  where
    test : Event → Bool
    test e = is_call_of i e.entry

    same : filter test (log ++ event ∷ []) ≡ filter test log
    same = filter-append test log (event ∷ [])
        ∙ ap (λ (b : Bool). filter test log ++ (if b then event ∷ [] else [])) no_call
        ∙ append-nil (filter test log)

-- the one that made the call Retire isn't active
pub inactive-retired : (layout : Layout) (log : List Event) (i : ℕ) (took : Option ℕ) →
    (state_after layout (log ++ record { entry = Call i Retire Done; took = took } ∷ [])).active i ≡ false
inactive-retired layout log i took =
    ap (λ (s : State). s.active i) (state_after-push layout log (record { entry = Call i Retire Done; took = took }))
    ∙ ap (λ (b : Bool). if b then false else (state_after layout log).active i)
    (Rattle.std.proofs.lemmas.Bool.eq-eqb i i refl)
