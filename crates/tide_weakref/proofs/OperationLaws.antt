-- What each operation that a realm makes answers and leaves.
use Rattle.std.proofs.Common.{ℕ, ◌≡◌, ◌≢◌, refl, sym, ◌∙◌, ap, subst, Bool, true, false, List, [], ◌∷◌, ◌++◌, append_assoc, append-nil, inl, inr, true≢false}
use Rattle.std.proofs.lemmas.Bool.{eq-eqb, ne_eqb}
use Rattle.std.proofs.lemmas.List.Elements.{All-head, All-tail, Contains-append_cases, Contains-push_cases, filter-append}
use Rattle.std.specs.Prelude.{nat_lt, All, Option, None, Some, filter, if◌then◌else◌}
use Rattle.tide_heap.proofs.tide_core.machine_laws.steps.OwnState.{own_after, own_state}
use Rattle.tide_heap.specs.tide_core.machine.Own.{Own, own_of}
use Rattle.tide_model.proofs.Histories.{IsLawful-prefix}
use Rattle.tide_model.proofs.SinceLaws.{since-none}
use Rattle.tide_model.specs.Answer.{IsAnswerUnless, IsGranted}
use Rattle.tide_model.specs.Caller.{IsOwn}
use Rattle.tide_model.specs.Graph.{in_register}
use Rattle.tide_model.specs.History.{is_call_of, state_after}
use Rattle.tide_model.specs.Lawful.{IsLawful}
use Rattle.tide_model.specs.Layout.{Layout}
use Rattle.tide_model.specs.Numbers.{put_at}
use Rattle.tide_model.specs.Layout.{class_of, slots_of}
use Rattle.tide_model.specs.Refused.{ShapeLists, slot_refusal, is_table}
use Rattle.tide_model.specs.Since.{since}
use Rattle.tide_model.specs.State.{State}
use Rattle.tide_model.specs.declared.entry.Event.{Event}
use Rattle.tide_model.specs.declared.op.Op.{Op}
use Rattle.tide_model.specs.declared.op.Op.TheVariants.{Get, Move, Drop, StrongSet, WeakSet, WeakGet}
use Rattle.tide_model.specs.declared.op.Refusal.{Refusal}
use Rattle.tide_model.specs.declared.op.Refusal.TheVariants.{IsTable, NoSlot, NotCell}
use Rattle.tide_model.specs.declared.op.Reply.{Reply}
use Rattle.tide_model.specs.declared.op.Reply.TheVariants.{Done, Seen, Refused}
use Rattle.tide_model.specs.declared.val.Val.{Val}
use Rattle.tide_model.specs.declared.val.Val.TheVariants.{Empty, Int, Cell}
use Rattle.tide_weakref.proofs.Advances.{Advances, call_event, stands_last}
use Rattle.tide_weakref.proofs.CallLaws.{after, came, came_is, own_before, own_new, weak_unset}
use Rattle.tide_weakref.proofs.HandleLaws.{IsGone-more, freed_more, freed_none, handles_call, not_freed, put_here, root_stays, strong_after, weak_after}
use Rattle.tide_weakref.specs.Handles.{is_cell, IsFreedIn, IsGone, IsIn, OthersLeave, StrongKeeps, frees, op_sets_weak, sets_strong, sets_weak}
use Rattle.tide_weakref.specs.declared.range.Range16.{Range16}

-- a function that was put elsewhere
pub put_elsewhere : (f : ℕ → Val) (place n : ℕ) (v : Val) → n ≢ place → put_at f place v n ≡ f n
put_elsewhere f place n v apart = ap (λ (b : Bool). if b then v else f n) (ne_eqb n place apart)

-- what the grant of each says of its answer
weak_set_done : (layout : Layout) (state : State) (who at val : ℕ) (reply : Reply) (took : Option ℕ) →
    IsGranted layout state who (WeakSet at val) reply took → reply ≡ Done
weak_set_done layout state who at val Done took granted = refl
weak_set_done layout state who at val reply took granted = absurd granted

strong_set_done : (layout : Layout) (state : State) (who at val : ℕ) (reply : Reply) (took : Option ℕ) →
    IsGranted layout state who (StrongSet at val) reply took → reply ≡ Done
strong_set_done layout state who at val Done took granted = refl
strong_set_done layout state who at val reply took granted = absurd granted

drop_done : (layout : Layout) (state : State) (who dst : ℕ) (reply : Reply) (took : Option ℕ) →
    IsGranted layout state who (Drop dst) reply took → reply ≡ Done
drop_done layout state who dst Done took granted = refl
drop_done layout state who dst reply took granted = absurd granted

move_done : (layout : Layout) (state : State) (who dst src : ℕ) (reply : Reply) (took : Option ℕ) →
    IsGranted layout state who (Move dst src) reply took → reply ≡ Done
move_done layout state who dst src Done took granted = refl
move_done layout state who dst src reply took granted = absurd granted

weak_get_seen : (layout : Layout) (state : State) (who dst at : ℕ) (reply : Reply) (took : Option ℕ) →
    IsGranted layout state who (WeakGet dst at) reply took → reply ≡ Seen (state.weak at)
weak_get_seen layout state who dst at (Seen value) took granted = ap (λ (v : Val). Seen v) granted.1
weak_get_seen layout state who dst at reply took granted = absurd granted

get_seen : (layout : Layout) (state : State) (who dst src slot : ℕ) (reply : Reply) (took : Option ℕ) →
    IsGranted layout state who (Get dst src slot) reply took → (value : Val) × (reply ≡ Seen value)
get_seen layout state who dst src slot (Seen value) took granted = (value, refl)
get_seen layout state who dst src slot reply took granted = absurd granted

-- a slot of what a register holds is asked for: it is refused as no cell exactly where that is none
get_answer : (layout : Layout) (state : State) (who dst src slot : ℕ) (reply : Reply) (took : Option ℕ) (value : Val) →
    IsAnswerUnless (slot_refusal layout value src slot) layout state who (Get dst src slot) reply took →
    (is_cell value ≡ false → reply ≡ Refused (NotCell src))
    × (is_cell value ≡ true → (reg : ℕ) → reply ≡ Refused (NotCell reg) → ⊥)
get_answer layout state who dst src slot reply took Empty answer = (λ no. answer.1, λ is. absurd (cc))
get_answer layout state who dst src slot reply took (Int n) answer = (λ no. answer.1, λ is. absurd (cc))
get_answer layout state who dst src slot reply took (Cell cell) answer =
    (λ no. absurd (cc), λ is. by_tests (is_table layout cell) (nat_lt slot (slots_of (class_of layout cell))) answer)
  where
    by_tests : (table has : Bool) →
        IsAnswerUnless (if table then Some IsTable else if has then None else Some (NoSlot slot)) layout state who (Get dst src slot) reply took →
        (reg : ℕ) → reply ≡ Refused (NotCell reg) → ⊥
    by_tests true has answer' reg is = let e = answer'.1 in absurd (cc)
    by_tests false true answer' reg is = let e = get_seen layout state who dst src slot reply took answer' in let f = e.1 in absurd (cc)
    by_tests false false answer' reg is = let e = answer'.1 in absurd (cc)

module _ (layout : Layout) (shapes : ShapeLists) (who : ℕ) (reply : Reply) (at new mine : List Event) where
  -- a weak handle is set: it has what the register held, and nothing came since
  pub weak_set : (handle src : ℕ) → Advances layout shapes who (WeakSet handle src) reply at new mine → IsOwn who at mine →
      ((state_after layout new).weak handle ≡ (state_after layout at).registers who src)
      × (since (sets_weak handle) new ≡ [])
  weak_set handle src adv own =
      let op : Op = WeakSet handle src in
      let state = state_after layout (at ++ adv.rest) in
      let done = weak_set_done layout state who handle src reply adv.took adv.stands.answers in (
        ap (λ (s : State). s.weak handle) (sym (after layout shapes who op reply at new mine adv))
            ∙ ap (λ (f : ℕ → Val). f handle) (handles_call state who op reply adv.took).weak
            ∙ ap (λ (r : Reply). weak_after state.weak (state.registers who) op r handle) done
            ∙ put_here state.weak handle (state.registers who src)
            ∙ ap (λ (o : Own). o.registers src) (own_before layout shapes who op reply at new mine adv own),
        ap (since (sets_weak handle)) adv.grown
            ∙ since-none (sets_weak handle) (at ++ adv.rest) (call_event who op reply adv.took) (eq-eqb handle handle refl),
      )

  -- a strong handle is set: it has what the register held, and keeps it where that is a cell
  pub strong_put : (handle src : ℕ) → Advances layout shapes who (StrongSet handle src) reply at new mine → IsOwn who at mine →
      (state_after layout new).strong handle ≡ (state_after layout at).registers who src
  strong_put handle src adv own =
      let op : Op = StrongSet handle src in
      let state = state_after layout (at ++ adv.rest) in
      let done = strong_set_done layout state who handle src reply adv.took adv.stands.answers in
      ap (λ (s : State). s.strong handle) (sym (after layout shapes who op reply at new mine adv))
      ∙ ap (λ (f : ℕ → Val). f handle) (handles_call state who op reply adv.took).strong
      ∙ ap (λ (r : Reply). strong_after state.strong (state.registers who) op r handle) done
      ∙ put_here state.strong handle (state.registers who src)
      ∙ ap (λ (o : Own). o.registers src) (own_before layout shapes who op reply at new mine adv own)

  pub strong_set : (handle src cell : ℕ) → Advances layout shapes who (StrongSet handle src) reply at new mine → IsOwn who at mine →
      (state_after layout at).registers who src ≡ Cell cell → StrongKeeps layout new handle cell
  strong_set handle src cell adv own is = record {
    has = strong_put handle src adv own ∙ is;
    unfreed = subst (λ (es : List Event). IsFreedIn es cell → ⊥)
        (sym (ap (since (sets_strong handle)) adv.grown
        ∙ since-none (sets_strong handle) (at ++ adv.rest) (call_event who (StrongSet handle src) reply adv.took)
        (eq-eqb handle handle refl)))
        (freed_none cell);
  }

  -- a weak handle is read: the register gets what the handle has
  pub weak_get : (dst handle : ℕ) → Advances layout shapes who (WeakGet dst handle) reply at new mine → IsOwn who at mine →
      (reply ≡ Seen ((state_after layout new).weak handle))
      × ((state_after layout new).registers who
      ≡ put_at ((state_after layout at).registers who) dst ((state_after layout new).weak handle))
  weak_get dst handle adv own =
      let op : Op = WeakGet dst handle in
      let state = state_after layout (at ++ adv.rest) in
      let seen = weak_get_seen layout state who dst handle reply adv.took adv.stands.answers in
      let same : state.weak handle ≡ (state_after layout new).weak handle =
      sym (ap (λ (f : ℕ → Val). f handle) (handles_call state who op reply adv.took).weak)
      ∙ ap (λ (s : State). s.weak handle) (after layout shapes who op reply at new mine adv) in
      let is : reply ≡ Seen ((state_after layout new).weak handle) = seen ∙ ap (λ (v : Val). Seen v) same in
      (is, by_own op (Seen ((state_after layout new).weak handle)) adv own is)
    where
      by_own : (op : Op) (answer : Reply) → (adv : Advances layout shapes who op reply at new mine) → IsOwn who at mine → reply ≡ answer →
          (state_after layout new).registers who ≡ (own_after (own_of who (state_after layout at)) op answer).registers
      by_own op answer adv own is = ap (λ (o : Own). o.registers) (own_new layout shapes who op reply at new mine adv own
          ∙ ap (own_after (own_of who (state_after layout at)) op) is)

  -- a register is emptied, or gets what another has
  pub dropped : (dst : ℕ) → Advances layout shapes who (Drop dst) reply at new mine → IsOwn who at mine →
      (state_after layout new).registers who ≡ put_at ((state_after layout at).registers who) dst Empty
  dropped dst adv own =
      let done = drop_done layout (state_after layout (at ++ adv.rest)) who dst reply adv.took adv.stands.answers in
      ap (λ (o : Own). o.registers) (own_new layout shapes who (Drop dst) reply at new mine adv own
      ∙ ap (own_after (own_of who (state_after layout at)) (Drop dst)) done)

  pub moved : (dst src : ℕ) → Advances layout shapes who (Move dst src) reply at new mine → IsOwn who at mine →
      (state_after layout new).registers who
      ≡ put_at ((state_after layout at).registers who) dst ((state_after layout at).registers who src)
  moved dst src adv own =
      let done = move_done layout (state_after layout (at ++ adv.rest)) who dst src reply adv.took adv.stands.answers in
      ap (λ (o : Own). o.registers) (own_new layout shapes who (Move dst src) reply at new mine adv own
      ∙ ap (own_after (own_of who (state_after layout at)) (Move dst src)) done)

  -- registers stay where a handle is set
  pub set_leaves : (op : Op) → ((o : Own) (r : Reply) → own_after o op r ≡ o) → Advances layout shapes who op reply at new mine →
      IsOwn who at mine → (state_after layout new).registers who ≡ (state_after layout at).registers who
  set_leaves op same adv own = ap (λ (o : Own). o.registers) (own_new layout shapes who op reply at new mine adv own
      ∙ same (own_of who (state_after layout at)) reply)

  pub got : (dst src slot : ℕ) → Advances layout shapes who (Get dst src slot) reply at new mine → IsOwn who at mine →
      (is_cell ((state_after layout at).registers who src) ≡ false → reply ≡ Refused (NotCell src))
      × (is_cell ((state_after layout at).registers who src) ≡ true → (reg : ℕ) → reply ≡ Refused (NotCell reg) → ⊥)
  got dst src slot adv own =
      let held = ap (λ (o : Own). o.registers src) (own_before layout shapes who (Get dst src slot) reply at new mine adv own) in
      get_answer layout (state_after layout (at ++ adv.rest)) who dst src slot reply adv.took ((state_after layout at).registers who src)
      (subst (λ (v : Val). IsAnswerUnless (slot_refusal layout v src slot) layout (state_after layout (at ++ adv.rest)) who (Get dst src slot) reply adv.took)
      held adv.stands.answers)

  -- and no other register than its own changes, and none where it is refused
  pub got_leaves : (dst src slot r : ℕ) → Advances layout shapes who (Get dst src slot) reply at new mine → IsOwn who at mine →
      r ≢ dst → (state_after layout new).registers who r ≡ (state_after layout at).registers who r
  got_leaves dst src slot r adv own apart =
      ap (λ (o : Own). o.registers r) (own_new layout shapes who (Get dst src slot) reply at new mine adv own) ∙ by_reply reply
    where
      by_reply : (answer : Reply) → (own_after (own_of who (state_after layout at)) (Get dst src slot) answer).registers r
          ≡ (state_after layout at).registers who r
      by_reply (Seen value) = put_elsewhere ((state_after layout at).registers who) dst r value apart
      by_reply answer = refl

  pub refused_leaves : (dst src slot : ℕ) (refusal : Refusal) → Advances layout shapes who (Get dst src slot) reply at new mine →
      IsOwn who at mine → reply ≡ Refused refusal → (state_after layout new).registers who ≡ (state_after layout at).registers who
  refused_leaves dst src slot refusal adv own is =
      ap (λ (o : Own). o.registers) (own_new layout shapes who (Get dst src slot) reply at new mine adv own
      ∙ ap (own_after (own_of who (state_after layout at)) (Get dst src slot)) is)

-- no end frees what a register of the mutator has, while it makes no call
held_in_register : (layout : Layout) (shapes : ShapeLists) (who register cell : ℕ) (rest seen : List Event) →
    IsLawful layout shapes (seen ++ rest) → All (λ event. is_call_of who event.entry ≡ false) rest →
    (state_after layout seen).active who ≡ true → (state_after layout seen).registers who register ≡ Cell cell →
    IsFreedIn rest cell → ⊥
held_in_register layout shapes who register cell [] seen lawful others active has freed = freed_none cell freed
held_in_register layout shapes who register cell (event ∷ rest) seen lawful others active has freed =
    elim (Contains-append_cases (event ∷ []) rest freed.0 freed.1) [
      | inl here ↦ elim (Contains-push_cases [] event freed.0 here) [
        | inl none ↦ freed_none cell (freed.0, none, freed.2)
        | inr same ↦ true≢false (sym freed.2 ∙ ap (λ (e : Event). frees cell e.entry) (sym same) ∙ stays)
      ]
      | inr later ↦ held_in_register layout shapes who register cell rest (seen ++ event ∷ [])
          (subst (IsLawful layout shapes) (sym joins) lawful)
          (All-tail (λ (e : Event). is_call_of who e.entry ≡ false) event rest others)
          (ap (λ (o : Own). o.active) same_own' ∙ active) (ap (λ (o : Own). o.registers register) same_own' ∙ has)
          (freed.0, later, freed.2)
    ]
  where
    joins : (seen ++ event ∷ []) ++ rest ≡ seen ++ event ∷ rest
    joins = append_assoc seen (event ∷ []) rest

    test : Event → Bool
    test e = is_call_of who e.entry

    stays : frees cell event.entry ≡ false
    stays = root_stays layout shapes seen event cell (in_register who register active has)
        (stands_last layout shapes seen event (IsLawful-prefix layout shapes (seen ++ event ∷ []) (seen ++ event ∷ rest)
        (record { rest = rest; joins = joins }) lawful))

    none : filter (λ (e : Event). is_call_of who e.entry) (seen ++ event ∷ []) ≡ filter (λ (e : Event). is_call_of who e.entry) seen
    none = filter-append (λ (e : Event). is_call_of who e.entry) seen (event ∷ [])
        ∙ ap (λ (b : Bool). filter (λ (e : Event). is_call_of who e.entry) seen ++ (if b then event ∷ [] else []))
        (All-head (λ (e : Event). is_call_of who e.entry ≡ false) event rest others)
        ∙ append-nil (filter (λ (e : Event). is_call_of who e.entry) seen)

    same_own' : own_of who (state_after layout (seen ++ event ∷ [])) ≡ own_of who (state_after layout seen)
    same_own' = own_state layout who (seen ++ event ∷ []) ∙ ap (λ (l : List Event). own_of who (state_after layout l)) none
        ∙ sym (own_state layout who seen)

-- a target that is gone is gone after the mutator's next call
pub stays_gone : (layout : Layout) (shapes : ShapeLists) (who : ℕ) (op : Op) (reply : Reply) (at new mine : List Event) →
    (adv : Advances layout shapes who op reply at new mine) → (strong weak : Range16) (handle target : ℕ) →
    OthersLeave who strong weak new → IsIn weak handle → op_sets_weak handle op ≡ false → IsGone at handle target →
    IsGone new handle target
stays_gone layout shapes who op reply at new mine adv strong weak handle target leave within not_here gone =
    subst (λ (es : List Event). IsFreedIn es target)
    (sym (ap (since (sets_weak handle)) (sym (came_is layout shapes who op reply at new mine adv))
    ∙ IsGone-more at (came layout shapes who op reply at new mine adv) handle target
    (weak_unset layout shapes who op reply at new mine adv strong weak handle leave within not_here)))
    (freed_more (since (sets_weak handle) at) (came layout shapes who op reply at new mine adv) target gone)

-- So a target that a register of the mutator has isn't gone after its next call, where it wasn't before.
pub stays_alive : (layout : Layout) (shapes : ShapeLists) (who : ℕ) (op : Op) (reply : Reply) (at new mine : List Event) →
    (adv : Advances layout shapes who op reply at new mine) → IsOwn who at mine → (strong weak : Range16)
    (handle register target : ℕ) → OthersLeave who strong weak new → IsIn weak handle → op_sets_weak handle op ≡ false →
    (state_after layout at).registers who register ≡ Cell target → (IsGone at handle target → ⊥) →
    IsGone new handle target → ⊥
stays_alive layout shapes who op reply at new mine adv own strong weak handle register target leave within not_here has alive gone =
    let longer = ap (since (sets_weak handle)) (sym (came_is layout shapes who op reply at new mine adv))
    ∙ IsGone-more at (came layout shapes who op reply at new mine adv) handle target
    (weak_unset layout shapes who op reply at new mine adv strong weak handle leave within not_here) in
    let in_parts = subst (λ (es : List Event). IsFreedIn es target) longer gone in
    elim (Contains-append_cases (since (sets_weak handle) at) (adv.rest ++ call_event who op reply adv.took ∷ []) in_parts.0 in_parts.1) [
      | inl early ↦ alive (in_parts.0, early, in_parts.2)
      | inr late ↦ not_freed adv.rest (call_event who op reply adv.took) target
          (held_in_register layout shapes who register target adv.rest at
          (IsLawful-prefix layout shapes (at ++ adv.rest) new
          (record { rest = call_event who op reply adv.took ∷ []; joins = sym adv.grown }) adv.lawful)
          adv.others (sym (ap (λ (o : Own). o.active) (own_before layout shapes who op reply at new mine adv own)) ∙ adv.stands.is_active)
          has) refl (in_parts.0, late, in_parts.2)
    ]
