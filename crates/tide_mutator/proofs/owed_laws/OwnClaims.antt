-- What is a mutator's own after a history is what it is after its own calls, under whatever layout.
use Rattle.std.proofs.Common.{ℕ, ◌≡◌, refl, sym, ◌∙◌, ap, subst, List, [], ◌∷◌, inl, inr}
use Rattle.std.proofs.lemmas.Bool.{cases_eq}
use Rattle.std.specs.Prelude.{filter}
use Rattle.tide_heap.proofs.tide_core.machine_laws.steps.OwnState.{own_after, own_call, other_call, own_state}
use Rattle.tide_heap.specs.tide_core.machine.Own.{Own, own_of}
use Rattle.tide_model.specs.Applied.{after_call}
use Rattle.tide_model.specs.History.{after_entry, after_event, is_call_of, state_after, state_from}
use Rattle.tide_model.specs.Layout.{Layout}
use Rattle.tide_model.specs.State.{State, empty_state}
use Rattle.tide_model.specs.declared.entry.Entry.{Entry}
use Rattle.tide_model.specs.declared.entry.Entry.TheVariants as entry
use Rattle.tide_model.specs.declared.entry.Event.{Event}
use Rattle.tide_heap.specs.steps.Plays.{no_layout}

module _ (one other : Layout) (p : ℕ) where
  same_event : (s t : State) (event : Event) (e : Entry) → own_of p s ≡ own_of p t →
      own_of p (after_entry one s e event.took) ≡ own_of p (after_entry other t e event.took)
  same_event s t event (entry.Call who op reply) same = elim (cases_eq p who) [
    | inl is ↦
        subst (λ (w : ℕ). own_of p (after_call s w op reply event.took) ≡ own_of p (after_call t w op reply event.took))
        is (own_call p s op reply event.took ∙ ap (λ (o : Own). own_after o op reply) same
        ∙ sym (own_call p t op reply event.took))
    | inr apart ↦ other_call p who s op reply event.took apart ∙ same ∙ sym (other_call p who t op reply event.took apart)
  ]
  same_event s t event (entry.Begin cycle full) same = same
  same_event s t event (entry.Pause visits) same = same
  same_event s t event (entry.Visits who visits) same = same
  same_event s t event (entry.End cycle freed) same = same
  same_event s t event (entry.Taken block) same = same
  same_event s t event (entry.Sweep block) same = same
  same_event s t event (entry.Open number run) same = same

  same_from : (s t : State) (log : List Event) → own_of p s ≡ own_of p t →
      own_of p (state_from one s log) ≡ own_of p (state_from other t log)
  same_from s t [] same = same
  same_from s t (event ∷ log) same = same_from (after_event one s event) (after_event other t event) log
      (same_event s t event event.entry same)

-- after a history with these calls of its own
pub own_at : (layout : Layout) (p : ℕ) (log mine : List Event) →
    filter (λ event. is_call_of p event.entry) log ≡ mine →
    own_of p (state_after layout log) ≡ own_of p (state_after no_layout mine)
own_at layout p log mine is = own_state layout p log
    ∙ ap (λ (l : List Event). own_of p (state_after layout l)) is
    ∙ same_from layout no_layout p empty_state empty_state mine refl
