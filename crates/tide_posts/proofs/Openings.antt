-- Two histories of one, each as it was when the part with a number was opened, are the same.
use Rattle.std.proofs.Common.{ℕ, ◌≡◌, ◌+◌, refl, sym, ◌∙◌, ap, subst, arith, List, [], ◌∷◌, ◌++◌, inl, inr}
use Rattle.tide_model.proofs.PeriodLaws.{open_count-prefix}
use Rattle.tide_model.proofs.SinceLaws.{count-push}
use Rattle.tide_model.specs.History.{is_open, plain}
use Rattle.tide_model.specs.Periods.{open_count}
use Rattle.tide_model.specs.Prefix.{IsPrefix}
use Rattle.tide_model.specs.declared.entry.Entry.{Entry}
use Rattle.tide_model.specs.declared.entry.Entry.TheVariants.{Open}
use Rattle.tide_model.specs.declared.entry.Event.{Event}
use Rattle.tide_model.proofs.Prefixes.{prefix_before, prefix_of_prefix}
use Rattle.tide_posts.specs.Openings.{IsOpening}

-- a history that was opened for a part with this number isn't a beginning of one before the opening of such a part
opens-less : (number run run' : ℕ) (one other : List Event) → IsOpening number run one → (is : IsOpening number run' other) →
    IsPrefix one is.before → ⊥
opens-less number run run' one other opens is early =
    let below = open_count-prefix one is.before early in
    let last = count-push (λ (e : Event). is_open e.entry) is.before (plain (Open number run')) in
    let whole = ap open_count is.is in
    let count = is.count in
    let first = opens.count in
    omega (arith, below, last, whole, count, first)

opening_in : (number run run' : ℕ) (one other : List Event) → IsOpening number run one → IsOpening number run' other →
    IsPrefix one other → one ≡ other
opening_in number run run' one other opens is early =
    elim (prefix_before one is.before (plain (Open number run')) (subst (IsPrefix one) is.is early)) [
      | inl less ↦ absurd (opens-less number run run' one other opens is less)
      | inr same ↦ same ∙ sym is.is
    ]

pub one_opening : (number run run' : ℕ) (one other whole : List Event) → IsOpening number run one →
    IsOpening number run' other → IsPrefix one whole → IsPrefix other whole → one ≡ other
one_opening number run run' one other whole opens opens' early early' = elim (prefix_of_prefix one other whole early early') [
  | inl first ↦ opening_in number run run' one other opens opens' first
  | inr second ↦ sym (opening_in number run' run other one opens' opens second)
]

-- two openings with which one history ends give each mutator as many calls
pub one_run : (number run run' : ℕ) (told : List Event) → IsOpening number run told → IsOpening number run' told → run ≡ run'
one_run number run run' told one other = run_of (one.before) (other.before) (plain (Open number run)) (plain (Open number run')) (sym one.is ∙ other.is)
  where
    calls_in : Entry → ℕ
    calls_in (Open n k) = k
    calls_in entry = 0

    last_of : List Event → ℕ
    last_of [] = 0
    last_of (event ∷ []) = calls_in event.entry
    last_of (event ∷ (next ∷ events)) = last_of (next ∷ events)

    last_push : (xs : List Event) (x : Event) → last_of (xs ++ x ∷ []) ≡ calls_in x.entry
    last_push [] x = refl
    last_push (y ∷ []) x = refl
    last_push (y ∷ (z ∷ xs)) x = last_push (z ∷ xs) x

    run_of : (xs ys : List Event) (x y : Event) → xs ++ x ∷ [] ≡ ys ++ y ∷ [] → calls_in x.entry ≡ calls_in y.entry
    run_of xs ys x y same = sym (last_push xs x) ∙ ap last_of same ∙ last_push ys y
