-- While a cycle marks, nothing is dead at any moment of the open part.
use Rattle.std.proofs.Common.{ℕ, suc, zero, ◌≡◌, ◌≤◌, refl, sym, ◌∙◌, ap, arith, true, List, [], ◌∷◌, ◌++◌, take}
use Rattle.std.proofs.lemmas.List.{take-append-drop}
use Rattle.std.specs.List.{list_all}
use Rattle.std.specs.Prelude.{Contains, drop, map}
use Rattle.tide_model.proofs.DeadLaws.{marking_is_swept}
use Rattle.tide_model.proofs.Histories.{IsLawful-prefix, state_after-append}
use Rattle.tide_model.proofs.PhaseLaws.{marking_after-part, phase_after-events}
use Rattle.tide_model.specs.Cycle.{IsSwept}
use Rattle.tide_model.specs.Freeze.{is_marking_phase, marks_after}
use Rattle.tide_model.specs.History.{is_open, moment_after_last, state_after}
use Rattle.tide_model.specs.Lawful.{IsLawful}
use Rattle.tide_model.specs.Layout.{Layout}
use Rattle.tide_model.specs.Refused.{ShapeLists}
use Rattle.tide_model.specs.Since.{is_of_part, since}
use Rattle.tide_model.specs.State.{State}
use Rattle.tide_model.specs.declared.entry.Event.{Event}

-- what stands behind a later place stands behind an earlier one
in_later : (xs : List Event) (early later : ℕ) (x : Event) → early ≤ later → Contains (drop later xs) x → Contains (drop early xs) x
in_later xs zero zero x before has = has
in_later xs zero (suc later) x before has = in_all xs (suc later) has
  where
    in_all : (ys : List Event) (n : ℕ) → Contains (drop n ys) x → Contains ys x
    in_all ys zero is = is
    in_all [] (suc n) is = is
    in_all (y ∷ ys) (suc n) is = (let (k, below, at) = in_all ys n is in (suc k, omega (arith, below), at))
in_later xs (suc early) zero x before has = absurd (omega (arith, before))
in_later [] (suc early) (suc later) x before has = has
in_later (y ∷ xs) (suc early) (suc later) x before has = in_later xs early later x (omega (arith, before)) has

-- entries of a part, one by one
all_of_part : (events : List Event) → ((event : Event) → Contains events event → is_of_part event.entry ≡ true) →
    list_all is_of_part (map (λ e. e.entry) events) ≡ true
all_of_part [] each = refl
all_of_part (event ∷ events) each =
    Rattle.std.proofs.lemmas.Bool.and_from (is_of_part event.entry) (list_all is_of_part (map (λ e. e.entry) events))
    (each event (zero, omega arith, refl))
    (all_of_part events (λ e has. each e (let (k, below, at) = has in (suc k, omega (arith, below), at))))

pub part_is_swept : (layout : Layout) (shapes : ShapeLists) (log : List Event) → IsLawful layout shapes log →
    ((event : Event) → Contains (since is_open log) event → is_of_part event.entry ≡ true) → marks_after layout log ≡ true →
    (moment : ℕ) → moment_after_last (λ event. is_open event.entry) log ≤ moment → IsSwept layout (take moment log)
part_is_swept layout shapes log lawful alone marks moment from =
    marking_is_swept layout shapes (take moment log)
    (IsLawful-prefix layout shapes (take moment log) log (record { rest = drop moment log; joins = joins }) lawful)
    (sym (marking_after-part (marks_after layout (take moment log)) (map (λ e. e.entry) (drop moment log))
    (all_of_part (drop moment log) (λ e has. alone e (in_later log (moment_after_last (λ event. is_open event.entry) log) moment e from has))))
    ∙ sym (phase_after-events layout (state_after layout (take moment log)) (drop moment log))
    ∙ ap (λ (s : State). is_marking_phase s.phase) (sym (state_after-append layout (take moment log) (drop moment log)))
    ∙ ap (marks_after layout) joins ∙ marks)
  where
    joins : take moment log ++ drop moment log ≡ log
    joins = take-append-drop moment log
