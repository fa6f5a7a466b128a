-- How the window of a refusal for room grows by one event.
use Rattle.std.proofs.Common.{ℕ, suc, ◌≡◌, ◌≤◌, refl, sym, ◌∙◌, ap, subst, arith, Bool, true, false, List, [], ◌∷◌, ◌++◌, length, length-append}
use Rattle.std.specs.Prelude.{◌||◌, if◌then◌else◌, max}
use Rattle.tide_model.specs.declared.entry.Event.{Event}
use Rattle.tide_model.specs.Layout.{Layout, IsBlockOf}
use Rattle.tide_model.specs.History.{state_after, is_call_of, is_open, moment_after_last}
use Rattle.tide_model.specs.Room.{DeadIsTaken, IsFullBlock, StandsFull, window_start}
use Rattle.tide_model.proofs.Cycles.{take-all}
use Rattle.tide_model.proofs.Histories.{take-append-short, moment_after_last-le, moment_after_last-push}

-- the window begins anew behind the mutator's own entry and behind an Open, and else where it began
pub window_start-push : (who : ℕ) (history : List Event) (event : Event) →
    window_start who (history ++ event ∷ []) ≡ (if is_call_of who event.entry || is_open event.entry then suc (length history) else window_start who history)
window_start-push who history event =
    ap (λ (m : ℕ). max m (moment_after_last opens (history ++ event ∷ []))) (moment_after_last-push calls history event)
    ∙ ap (λ (m : ℕ). max (if calls event then suc (length history) else moment_after_last calls history) m) (moment_after_last-push opens history event)
    ∙ step (calls event) (opens event) (moment_after_last-le calls history) (moment_after_last-le opens history)
  where
    calls : Event → Bool
    calls e = is_call_of who e.entry

    opens : Event → Bool
    opens e = is_open e.entry

    step : (is_call is_open' : Bool) → moment_after_last calls history ≤ length history → moment_after_last opens history ≤ length history →
        max (if is_call then suc (length history) else moment_after_last calls history) (if is_open' then suc (length history) else moment_after_last opens history)
        ≡ (if is_call || is_open' then suc (length history) else window_start who history)
    step true true _ _ = omega arith
    step true false _ early = omega arith
    step false true early _ = omega arith
    step false false _ _ = refl

-- what could be refused before an event of somebody else can be refused after it
pub StandsFull-push : (layout : Layout) (history : List Event) (event : Event) (who class : ℕ) → is_call_of who event.entry ≡ false → is_open event.entry ≡ false →
    StandsFull layout history who class → StandsFull layout (history ++ event ∷ []) who class
StandsFull-push layout history event who class no_call no_open full block of_class =
    let was = full block of_class in
    let from : window_start who (history ++ event ∷ []) ≡ window_start who history =
    window_start-push who history event
    ∙ ap (λ (b : Bool). if b || is_open event.entry then suc (length history) else window_start who history) no_call
    ∙ ap (λ (b : Bool). if b then suc (length history) else window_start who history) no_open in
    let longer = length-append history (event ∷ []) in (
      was.0,
      omega (arith, from, was.1),
      omega (arith, longer, was.2),
      subst (λ (h : List Event). IsFullBlock layout (state_after layout h) block) (sym (take-append-short history (event ∷ []) was.0 was.2)) was.3,
      subst (λ (h : List Event). DeadIsTaken layout h block) (sym (take-append-short history (event ∷ []) was.0 was.2)) was.4,
    )

-- each block of the class is full right now, and what is dead there was taken: this is a moment of the window
pub StandsFull-now : (layout : Layout) (history : List Event) (who class : ℕ) →
    ((block : ℕ) → IsBlockOf layout class block → IsFullBlock layout (state_after layout history) block) →
    ((block : ℕ) → IsBlockOf layout class block → DeadIsTaken layout history block) → StandsFull layout history who class
StandsFull-now layout history who class full taken block of_class =
    let calls = moment_after_last-le (λ event. is_call_of who event.entry) history in
    let opens = moment_after_last-le (λ event. is_open event.entry) history in (
      length history,
      omega (arith, calls, opens),
      omega arith,
      subst (λ (h : List Event). IsFullBlock layout (state_after layout h) block) (sym (take-all history)) (full block of_class),
      subst (λ (h : List Event). DeadIsTaken layout h block) (sym (take-all history)) (taken block of_class),
    )
