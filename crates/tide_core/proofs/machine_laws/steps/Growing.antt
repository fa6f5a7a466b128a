-- What an event that begins no cycle leaves of a history: the cycle's span, who was born in it, and what it counts.
use Rattle.std.proofs.Common.{ℕ, suc, ◌≡◌, ◌≢◌, ◌+◌, ◌≤◌, ◌⊎◌, refl, sym, ◌∙◌, ap, subst, arith, Bool, true, false, List, [], ◌∷◌, ◌++◌, inl, inr, length, length-append, append-nil}
use Rattle.std.proofs.lemmas.Bool.{cases_eq, eq-eqb, ne_eqb}
use Rattle.std.proofs.lemmas.List.Elements.{filter-append, Contains-append_cases}
use Rattle.std.proofs.lemmas.List.Folds.{list_any-append}
use Rattle.std.specs.List.{list_any}
use Rattle.std.specs.Prelude.{◌||◌, Contains, Option, filter, if◌then◌else◌}
use Rattle.tide_core.specs.wave.FrozenWave.{is_born_in_cycle, is_birth_of}
use Rattle.tide_core.proofs.machine_laws.steps.Lists.{in_one}
use Rattle.tide_core.specs.machine.Entries.{call_of}
use Rattle.tide_core.specs.machine.points.Seen.{HasPartAlone}
use Rattle.tide_model.proofs.Cycles.{take-all}
use Rattle.tide_model.proofs.Histories.{take-append-short, moment_after_last-push}
use Rattle.tide_model.proofs.SinceLaws.{since-push, count-push, visits_since-push}
use Rattle.tide_model.proofs.Spans
use Rattle.tide_model.proofs.Windows.{window_start-push}
use Rattle.tide_model.specs.Cycle.{cycle_span, begin_count}
use Rattle.tide_model.specs.Graph.{IsWithin, IsRoot, IsLink, IsTriple, AreGroupMates}
use Rattle.tide_model.specs.History.{state_after, state_at, is_begin, is_open, is_call_of, moment_after_last}
use Rattle.tide_model.specs.Layout.{Layout}
use Rattle.tide_model.specs.Periods.{open_count}
use Rattle.tide_model.specs.Room.{window_start}
use Rattle.tide_model.specs.Since.{is_of_part, since, visits_since, visits_in}
use Rattle.tide_model.specs.State.{State}
use Rattle.tide_model.specs.declared.entry.Event.{Event}
use Rattle.tide_model.specs.declared.op.Op.{Op}
use Rattle.tide_model.specs.declared.op.Reply.{Reply}

-- one event more is one moment more
pub length-push : (log : List Event) (e : Event) → length (log ++ e ∷ []) ≡ suc (length log)
length-push log e = (let l = length-append log (e ∷ []) in omega (arith, l))

-- an earlier moment's state is what it was
pub state_at-push : (layout : Layout) (log : List Event) (e : Event) (moment : ℕ) → moment ≤ length log →
    state_at layout (log ++ e ∷ []) moment ≡ state_at layout log moment
state_at-push layout log e moment early = ap (state_after layout) (take-append-short log (e ∷ []) moment early)

-- the last moment's is the state
pub state_at-last : (layout : Layout) (log : List Event) → state_at layout log (length log) ≡ state_after layout log
state_at-last layout log = ap (state_after layout) (take-all log)

module _ (layout : Layout) (log : List Event) (e : Event) (goes_on : is_begin e.entry ≡ false) where
  abbrev start : List Event → ℕ
  start history = moment_after_last (λ event. is_begin event.entry) history

  start_same : start (log ++ e ∷ []) ≡ start log
  start_same = moment_after_last-push (λ event. is_begin event.entry) log e
      ∙ ap (λ (b : Bool). if b then suc (length log) else start log) goes_on

  -- what stands at a moment of the cycle stood at one before, or stands now
  earlier : (P : State → Type 0) →
      (moment : ℕ) × (start (log ++ e ∷ []) ≤ moment) × (moment ≤ length (log ++ e ∷ [])) ×
      P (state_at layout (log ++ e ∷ []) moment) →
      ((moment : ℕ) × (start log ≤ moment) × (moment ≤ length log) × P (state_at layout log moment)) ⊎
      P (state_after layout (log ++ e ∷ []))
  earlier P (moment, from, to, holds) = elim (cases_eq moment (length (log ++ e ∷ []))) [
    | inl is ↦ inr (subst P (ap (state_at layout (log ++ e ∷ [])) is ∙ state_at-last layout (log ++ e ∷ [])) holds)
    | inr isnt ↦
        let l = length-push log e in
        let before : moment ≤ length log = omega (arith, l, to, isnt) in
        inl (
          moment,
          subst (λ (s : ℕ). s ≤ moment) start_same from,
          before,
          subst P (state_at-push layout log e moment before) holds,
        )
  ]

  -- the span takes nothing back
  pub cycle_span-push : IsWithin (cycle_span layout log) (cycle_span layout (log ++ e ∷ []))
  cycle_span-push = Spans.cycle_span-push layout log e goes_on

  pub root_cases : (cell : ℕ) → (cycle_span layout (log ++ e ∷ [])).root cell →
      (cycle_span layout log).root cell ⊎ IsRoot (state_after layout (log ++ e ∷ [])) cell
  root_cases cell = earlier (λ s. IsRoot s cell)

  pub link_cases : (source cell : ℕ) → (cycle_span layout (log ++ e ∷ [])).link source cell →
      (cycle_span layout log).link source cell ⊎ IsLink (state_after layout (log ++ e ∷ [])) source cell
  link_cases source cell = earlier (λ s. IsLink s source cell)

  pub triple_cases : (table key cell : ℕ) → (cycle_span layout (log ++ e ∷ [])).triple table key cell →
      (cycle_span layout log).triple table key cell ⊎ IsTriple (state_after layout (log ++ e ∷ [])) table key cell
  triple_cases table key cell = earlier (λ s. IsTriple s table key cell)

  pub group_mate_cases : (one other : ℕ) → (cycle_span layout (log ++ e ∷ [])).group_mate one other →
      (cycle_span layout log).group_mate one other ⊎ AreGroupMates (state_after layout (log ++ e ∷ [])) one other
  group_mate_cases one other = earlier (λ s. AreGroupMates s one other)

  -- no cycle more began
  pub begin_count-push : begin_count (log ++ e ∷ []) ≡ begin_count log
  begin_count-push =
      let none = ap {B = ℕ} (λ (b : Bool). if b then 1 else 0) goes_on in
      let counted = count-push (λ event. is_begin event.entry) log e in
      omega (arith, none, counted)

  -- the visits that were entered
  pub visits-push : visits_since is_begin (log ++ e ∷ []) ≡ visits_since is_begin log + visits_in e.entry
  visits-push = visits_since-push is_begin log e goes_on

  -- who was born in the cycle: those that were, and the one that is
  born_now : (cell : ℕ) → is_born_in_cycle (log ++ e ∷ []) cell ≡
      (is_born_in_cycle log cell || (is_birth_of cell e.entry || false))
  born_now cell = ap (list_any (λ event. is_birth_of cell event.entry)) (since-push is_begin log e goes_on)
      ∙ list_any-append (λ event. is_birth_of cell event.entry) (since is_begin log) (e ∷ [])

  pub born-old : (cell : ℕ) → is_born_in_cycle log cell ≡ true → is_born_in_cycle (log ++ e ∷ []) cell ≡ true
  born-old cell is = born_now cell ∙ ap (λ (b : Bool). b || (is_birth_of cell e.entry || false)) is

  pub born_here : (cell : ℕ) → is_birth_of cell e.entry ≡ true → is_born_in_cycle (log ++ e ∷ []) cell ≡ true
  born_here cell is = born_now cell ∙ ap (λ (b : Bool). is_born_in_cycle log cell || (b || false)) is ∙
      or_true (is_born_in_cycle log cell)
    where
      or_true : (b : Bool) → (b || true) ≡ true
      or_true true = refl
      or_true false = refl

  pub born-new : (cell : ℕ) → is_born_in_cycle (log ++ e ∷ []) cell ≡ true →
      (is_born_in_cycle log cell ≡ true) ⊎ (is_birth_of cell e.entry ≡ true)
  born-new cell is = by (is_born_in_cycle log cell) (is_birth_of cell e.entry) (sym (born_now cell) ∙ is)
    where
      by : (one other : Bool) → (one || (other || false)) ≡ true → (one ≡ true) ⊎ (other ≡ true)
      by true other holds = inl refl
      by false true holds = inr refl
      by false false holds = absurd (cc)

  -- and where it is no birth, they are the same
  pub born-same : ((cell : ℕ) → is_birth_of cell e.entry ≡ false) → (cell : ℕ) →
      is_born_in_cycle (log ++ e ∷ []) cell ≡ is_born_in_cycle log cell
  born-same none cell = born_now cell ∙ ap (λ (b : Bool). is_born_in_cycle log cell || (b || false)) (none cell)
      ∙ or_false (is_born_in_cycle log cell)
    where
      or_false : (b : Bool) → (b || false) ≡ b
      or_false true = refl
      or_false false = refl

-- the entries of a mutator have its call, and those of others haven't
pub own_calls-push : (log : List Event) (who : ℕ) (op : Op) (reply : Reply) (took : Option ℕ) →
    filter (λ (event : Event). is_call_of who event.entry) (log ++ call_of who op reply took ∷ [])
    ≡ filter (λ (event : Event). is_call_of who event.entry) log ++ call_of who op reply took ∷ []
own_calls-push log who op reply took =
    filter-append (λ (event : Event). is_call_of who event.entry) log (call_of who op reply took ∷ [])
    ∙ ap (λ (b : Bool). filter (λ (event : Event). is_call_of who event.entry) log ++
    (if b then call_of who op reply took ∷ [] else []))
    (eq-eqb who who refl)

pub other_calls-push : (log : List Event) (who : ℕ) (op : Op) (reply : Reply) (took : Option ℕ) (p : ℕ) → p ≢ who →
    filter (λ (event : Event). is_call_of p event.entry) (log ++ call_of who op reply took ∷ [])
    ≡ filter (λ (event : Event). is_call_of p event.entry) log
other_calls-push log who op reply took p apart =
    filter-append (λ (event : Event). is_call_of p event.entry) log (call_of who op reply took ∷ [])
    ∙ ap (λ (b : Bool). filter (λ (event : Event). is_call_of p event.entry) log ++
    (if b then call_of who op reply took ∷ [] else []))
    (ne_eqb who p (λ e. apart (sym e)))
    ∙ append-nil (filter (λ (event : Event). is_call_of p event.entry) log)

-- the window of another starts where it did
pub window_start-other : (log : List Event) (who : ℕ) (op : Op) (reply : Reply) (took : Option ℕ) (p : ℕ) → p ≢ who →
    window_start p (log ++ call_of who op reply took ∷ []) ≡ window_start p log
window_start-other log who op reply took p apart =
    window_start-push p log (call_of who op reply took)
    ∙ ap (λ (b : Bool). if b || false then suc (length log) else window_start p log) (ne_eqb who p (λ e. apart (sym e)))

-- a call opens no part
pub open_count-call : (log : List Event) (who : ℕ) (op : Op) (reply : Reply) (took : Option ℕ) →
    open_count (log ++ call_of who op reply took ∷ []) ≡ open_count log
open_count-call log who op reply took =
    (let counted = count-push (λ event. is_open event.entry) log (call_of who op reply took) in omega (arith, counted))

-- and the part has nothing but its entries after it
pub part_alone-push : (log : List Event) (who : ℕ) (op : Op) (reply : Reply) (took : Option ℕ) → HasPartAlone log →
    HasPartAlone (log ++ call_of who op reply took ∷ [])
part_alone-push log who op reply took alone event at =
    elim (Contains-append_cases (since is_open log) (call_of who op reply took ∷ []) event
    (subst (λ (l : List Event). Contains l event) (since-push is_open log (call_of who op reply took) refl) at)) [
      | inl before ↦ alone event before
      | inr now ↦ subst (λ (x : Event). is_of_part x.entry ≡ true) (in_one (call_of who op reply took) event now) refl
    ]
