-- How often events of a kind came, and what came since the last one, where a history grows by one event.
use Rattle.std.proofs.Common.{ℕ, suc, ◌≡◌, ◌+◌, ◌∙◌, ap, arith, Bool, true, false, List, [], ◌∷◌, ◌++◌, length, length-append, zero-add}
use Rattle.std.proofs.lemmas.List.{drop-append-le, drop_all}
use Rattle.std.proofs.lemmas.List.Sums.{sum_by-append}
use Rattle.std.specs.Prelude.{count_by, drop, if◌then◌else◌, sum_by}
use Rattle.tide_model.specs.declared.entry.Entry.{Entry}
use Rattle.tide_model.specs.declared.entry.Event.{Event}
use Rattle.tide_model.specs.History.{moment_after_last}
use Rattle.tide_model.specs.Since.{since, visits_in, visits_since}
use Rattle.tide_model.proofs.Histories.{moment_after_last-le, moment_after_last-push}

-- one more passes a test where the new event does
pub count-push : (test : Event → Bool) (history : List Event) (event : Event) →
    count_by test (history ++ event ∷ []) ≡ count_by test history + (if test event then 1 else 0)
count-push test history event =
    sum_by-append (λ e. if test e then 1 else 0) history (event ∷ [])
    ∙ (let more = zero-add (if test event then 1 else 0) in ap (λ (n : ℕ). count_by test history + n) more)

-- an event of another kind came since then too
pub since-push : (test : Entry → Bool) (history : List Event) (event : Event) → test event.entry ≡ false →
    since test (history ++ event ∷ []) ≡ since test history ++ event ∷ []
since-push test history event other =
    let kind = λ (e : Event). test e.entry in
    let last = moment_after_last kind history in
    ap (λ (moment : ℕ). drop moment (history ++ event ∷ []))
    (moment_after_last-push kind history event ∙ ap (λ (is : Bool). if is then suc (length history) else last) other)
    ∙ drop-append-le last history (event ∷ []) (moment_after_last-le kind history)

-- after one of this kind nothing came yet
pub since-none : (test : Entry → Bool) (history : List Event) (event : Event) → test event.entry ≡ true →
    since test (history ++ event ∷ []) ≡ []
since-none test history event is_one =
    let kind = λ (e : Event). test e.entry in
    let parts = length-append history (event ∷ []) in
    ap (λ (moment : ℕ). drop moment (history ++ event ∷ []))
    (moment_after_last-push kind history event
    ∙ ap (λ (is : Bool). if is then suc (length history) else moment_after_last kind history) is_one)
    ∙ drop_all (suc (length history)) (history ++ event ∷ []) (omega (arith, parts))

-- the cells that it says to have made black are counted too
pub visits_since-push : (test : Entry → Bool) (history : List Event) (event : Event) → test event.entry ≡ false →
    visits_since test (history ++ event ∷ []) ≡ visits_since test history + visits_in event.entry
visits_since-push test history event other =
    let more = zero-add (visits_in event.entry) in
    ap {A = List Event} (sum_by (λ e. visits_in e.entry)) (since-push test history event other)
    ∙ sum_by-append (λ e. visits_in e.entry) (since test history) (event ∷ [])
    ∙ ap (λ (n : ℕ). visits_since test history + n) more
