-- What calls answer, and what they leave of their caller.
use Rattle.std.proofs.Common.{ℕ, ◌≡◌, ◌+◌, ◌<◌, refl, arith, Bool, true, false, List, [], ◌∷◌, length, drop}
use Rattle.std.proofs.lemmas.Bool.{eqb-true}
use Rattle.std.specs.Prelude.{◌==◌, Option}
use Rattle.tide_model.specs.declared.op.Op.TheVariants.{Unclaim, Retire}
use Rattle.tide_model.specs.declared.op.Reply.{Reply}
use Rattle.tide_model.specs.declared.op.Reply.TheVariants.{Done}
use Rattle.tide_model.specs.declared.op.Refusal.TheVariants.{NotHeld}
use Rattle.tide_model.specs.Answer.{IsAnswer, IsAnswerUnless, IsGranted}
use Rattle.tide_model.specs.Layout.{Layout}
use Rattle.tide_model.specs.Refused.{ShapeLists, refuse_if}
use Rattle.tide_model.specs.State.{State}

granted_unclaim : (layout : Layout) (state : State) (who : ℕ) (reply : Reply) (took : Option ℕ) → IsGranted layout state who Unclaim reply took → reply ≡ Done
granted_unclaim layout state who Done took granted = refl
granted_unclaim layout state who reply took granted = absurd granted

granted_retire : (layout : Layout) (state : State) (who : ℕ) (reply : Reply) (took : Option ℕ) → IsGranted layout state who Retire reply took → reply ≡ Done
granted_retire layout state who Done took granted = refl
granted_retire layout state who reply took granted = absurd granted

-- a claim is given up where there is one
pub unclaim_is_done : (layout : Layout) (shapes : ShapeLists) (state : State) (who : ℕ) (reply : Reply) (took : Option ℕ) → 0 < length (state.claims who) →
    IsAnswer layout shapes state who Unclaim reply took → reply ≡ Done
unclaim_is_done layout shapes state who reply took some answers = step (length (state.claims who) == 0) refl answers
  where
    step : (none : Bool) → (length (state.claims who) == 0) ≡ none → IsAnswerUnless (refuse_if none NotHeld) layout state who Unclaim reply took → reply ≡ Done
    step true is answer = absurd (let e = eqb-true (length (state.claims who)) 0 is in omega (arith, e, some))
    step false is answer = granted_unclaim layout state who reply took answer

-- to retire is never refused
pub retire_is_done : (layout : Layout) (shapes : ShapeLists) (state : State) (who : ℕ) (reply : Reply) (took : Option ℕ) →
    IsAnswer layout shapes state who Retire reply took → reply ≡ Done
retire_is_done layout shapes state who reply took answers = granted_retire layout state who reply took answers

-- a list without its first
pub length_without_first : {X : Type 0} (xs : List X) → 0 < length xs → length (drop 1 xs) + 1 ≡ length xs
length_without_first [] some = absurd (omega arith)
length_without_first (x ∷ xs) some = omega arith

pub nothing_of_no_length : {X : Type 0} (xs : List X) → length xs ≡ 0 → xs ≡ []
nothing_of_no_length [] none = refl
nothing_of_no_length (x ∷ xs) none = absurd (omega arith)
