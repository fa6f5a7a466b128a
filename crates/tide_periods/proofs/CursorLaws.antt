-- How a cursor's knowledge grows by one call.
use Rattle.std.proofs.Common.{ℕ, ◌≡◌, ◌+◌, ◌<◌, ◌≤◌, refl, sym, ◌∙◌, ap, subst, arith, Bool, true, false, List, [], ◌∷◌, ◌++◌, length, take, take_all, drop, append_assoc, append-nil, replicate, inl, inr, eq-eqb, get_or, All}
use Rattle.std.proofs.lemmas.Bool.{ltb-true, ltb-false}
use Rattle.std.proofs.lemmas.List.{length-append, take_more, replicate_more}
use Rattle.std.proofs.lemmas.List.Elements.{All-get_or, All-push, All-weaker}
use Rattle.std.proofs.lemmas.Option.{slice_get_cases}
use Rattle.std.specs.Prelude.{Option, None, Some, is_some, slice_get, nat_lt, if◌then◌else◌, not, ◌&&◌}
use Rattle.tide_model.specs.declared.op.Op.{Op}
use Rattle.tide_model.specs.declared.op.Op.TheVariants.{Unclaim, Retire}
use Rattle.tide_model.specs.declared.op.Reply.{Reply}
use Rattle.tide_model.specs.declared.op.Reply.TheVariants.{Done}
use Rattle.tide_model.specs.declared.entry.Event.{Event}
use Rattle.tide_model.specs.Answer.{IsAnswer}
use Rattle.tide_model.specs.Applied.{after_call}
use Rattle.tide_model.specs.History.{state_after}
use Rattle.tide_model.specs.Lawful.{FitsLayout}
use Rattle.tide_model.specs.Layout.{Layout}
use Rattle.tide_model.specs.Refused.{ShapeLists}
use Rattle.tide_model.specs.Script.{is_retire, retry_of}
use Rattle.tide_model.specs.Script.{calls_of, is_full_reply, retry_after, script_from, script_of}
use Rattle.tide_model.specs.State.{State}
use Rattle.tide_model.proofs.Histories.{take-append-short, script_from-append, state_after-push}
use Rattle.tide_model.proofs.Cycles.{take-all}
use Rattle.tide_periods.specs.Asking.{IsAskable, IsAt, IsMutatorAt, Standing, WasDone, claims_after, after_reply, next_of, op_or_leave, IsAskedBy, of_script, asks_unclaim, asks_retire}
use Rattle.tide_periods.specs.Store.{Setting}
use Rattle.tide_periods.specs.Recorded.{IsSettled, MayAsk, Recorded}
use Rattle.tide_model.proofs.ActiveLaws.{active_after-call}
use Rattle.tide_model.proofs.CallLaws.{unclaim_is_done, retire_is_done, length_without_first, nothing_of_no_length}
use Rattle.tide_model.proofs.OwnCalls.{called, calls_of-push, is_some-flag, retry_after-flag, retry_of-push}

pub script_of-push : (who : ℕ) (history : List Event) (op : Op) (reply : Reply) (took : Option ℕ) →
    script_of who (history ++ called who op reply took ∷ []) ≡ script_of who history ++ (if is_some (retry_after (retry_of who history) (op, reply)) then [] else op ∷ [])
script_of-push who history op reply took =
    ap (script_from None) (calls_of-push who history op reply took)
    ∙ script_from-append None (calls_of who history) ((op, reply) ∷ [])
    ∙ ap (λ (more : List Op). script_of who history ++ more) (append-nil (if is_some (retry_after (retry_of who history) (op, reply)) then [] else op ∷ []))

-- which operation is next
pub data IsNext (ops : List Op) (done claims : ℕ) (op : Op) : Type 0 where
  an_operation : done < length ops → slice_get ops done ≡ Some op → get_or ops done op ≡ op → IsNext ops done claims op
  unclaims : length ops ≤ done → 0 < claims → op ≡ Unclaim → IsNext ops done claims op
  retires : length ops ≤ done → claims ≡ 0 → op ≡ Retire → IsNext ops done claims op

pub next_cases : (ops : List Op) (standing : Standing) (claims : ℕ) → IsNext ops standing.done claims (next_of ops standing claims)
next_cases ops standing claims = elim (slice_get_cases ops standing.done).1 [
  | inl at ↦
      let e : next_of ops standing claims ≡ at.0 = ap (λ (o : Option Op). op_or_leave o claims) at.2 in
      subst (λ (o : Op). IsNext ops standing.done claims o) (sym e) (an_operation at.1 at.2 at.3)
  | inr past ↦
      subst (λ (o : Option Op). IsNext ops standing.done claims (op_or_leave o claims)) (sym past.1) (leaves past.0 (nat_lt 0 claims) refl)
]
  where
    leaves : length ops ≤ standing.done → (some : Bool) → nat_lt 0 claims ≡ some → IsNext ops standing.done claims (if some then Unclaim else Retire)
    leaves over true is = unclaims over (ltb-true 0 claims is) refl
    leaves over false is = retires over (let none = ltb-false 0 claims is in omega (arith, none)) refl

-- the next operation is one of the list, or what leaves
pub next_holds : (P : Op → Type 0) (ops : List Op) (standing : Standing) (claims : ℕ) → All P ops → P Unclaim → P Retire → P (next_of ops standing claims)
next_holds P ops standing claims all unclaim retire = elim (next_cases ops standing claims) [
  | an_operation below some is ↦ subst P is (All-get_or P ops standing.done (next_of ops standing claims) below all)
  | unclaims over has is ↦ subst P (sym is) unclaim
  | retires over none is ↦ subst P (sym is) retire
]

-- its operands are those of the layout
pub fits-next : (layout : Layout) (ops : List Op) (standing : Standing) (claims : ℕ) → All (IsAskable layout) ops → FitsLayout layout (next_of ops standing claims)
fits-next layout ops standing claims askable =
    next_holds (FitsLayout layout) ops standing claims (All-weaker (IsAskable layout) (FitsLayout layout) (λ op it. it.fits) ops askable) tt tt

-- and it is to retire only without a claim
pub bare-next : (layout : Layout) (ops : List Op) (standing : Standing) (claims : ℕ) → All (IsAskable layout) ops → next_of ops standing claims ≡ Retire → claims ≡ 0
bare-next layout ops standing claims askable retire = elim (next_cases ops standing claims) [
  | an_operation below some is ↦
      let goes_on = (subst (IsAskable layout) is (All-get_or (IsAskable layout) ops standing.done (next_of ops standing claims) below askable)).goes_on in
      let clash : true ≡ false = sym (ap is_retire retire) ∙ goes_on in absurd (cc)
  | unclaims over has is ↦ let clash : Unclaim ≡ Retire = sym is ∙ retire in absurd (cc)
  | retires over none is ↦ none
]

-- the next operation may be asked for
pub MayAsk-next : (recorded : Recorded) (who : ℕ) (ops : List Op) (standing : Standing) (calls : List (Op × Reply)) →
    IsSettled recorded → IsMutatorAt recorded.setting recorded.history who ops standing calls → standing.retired ≡ false → MayAsk recorded who (next_of ops standing (length (recorded.state.claims who)))
MayAsk-next recorded who ops standing calls settled at stays = record {
  is_mutator = at.is_mutator;
  is_active = ap (λ (s : State). s.active who) (sym settled.leaves) ∙ at.active ∙ ap not stays;
  fits = fits-next recorded.setting.layout ops standing (length (recorded.state.claims who)) at.askable;
  released = λ retire. nothing_of_no_length (recorded.state.claims who) (bare-next recorded.setting.layout ops standing (length (recorded.state.claims who)) at.askable retire);
}

-- only an operation of the list is ever refused for room
pub not_full_past : (layout : Layout) (shapes : ShapeLists) (state : State) (who : ℕ) (ops : List Op) (done : ℕ) (op : Op) (reply : Reply) (took : Option ℕ) →
    IsNext ops done (length (state.claims who)) op → IsAnswer layout shapes state who op reply took → length ops ≤ done → reply ≡ Done
not_full_past layout shapes state who ops done op reply took (an_operation below some is) answers over = absurd (omega arith)
not_full_past layout shapes state who ops done op reply took (unclaims past has is) answers over =
    unclaim_is_done layout shapes state who reply took has (subst (λ (o : Op). IsAnswer layout shapes state who o reply took) is answers)
not_full_past layout shapes state who ops done op reply took (retires past none is) answers over =
    retire_is_done layout shapes state who reply took (subst (λ (o : Op). IsAnswer layout shapes state who o reply took) is answers)

pub not_first : (retry : Bool) (reply : Reply) → reply ≡ Done → (not retry && is_full_reply reply) ≡ false
not_first retry reply is = ap (λ (r : Reply). not retry && is_full_reply r) is ∙ and_false (not retry)
  where
    and_false : (b : Bool) → (b && false) ≡ false
    and_false true = refl
    and_false false = refl

-- the script grows by an operation that was answered for good
IsAt-next : (ops : List Op) (standing : Standing) (script : List Op) (claims : ℕ) (op : Op) (reply : Reply) (total total' held' : ℕ) →
    IsAt ops standing script total claims → IsNext ops standing.done claims op → standing.retired ≡ false → (standing.done < length ops → is_retire op ≡ false) →
    (length ops ≤ standing.done → reply ≡ Done) → (standing.done < length ops → held' ≡ total') → (length ops ≤ standing.done → total' ≡ total) →
    (op ≡ Unclaim → length ops ≤ standing.done → held' + 1 ≡ claims) → (op ≡ Retire → length ops ≤ standing.done → held' ≡ claims) →
    IsAt ops (after_reply ops standing op reply) (script ++ (if not standing.retry && is_full_reply reply then [] else op ∷ [])) total' held'
IsAt-next ops standing script claims op reply total total' held' at (an_operation below some is) stays goes_on done_past fresh kept unclaimed left =
    step (not standing.retry && is_full_reply reply) (nat_lt standing.done (length ops)) refl (is_retire op) (goes_on below)
  where
    so_far : script ≡ take standing.done ops
    so_far = at.is_script ∙ ap (λ (b : Bool). (take standing.done ops ++ replicate at.unclaims Unclaim) ++ (if b then Retire ∷ [] else [])) stays
        ∙ append-nil (take standing.done ops ++ replicate at.unclaims Unclaim)
        ∙ ap (λ (n : ℕ). take standing.done ops ++ replicate n Unclaim) (at.none_yet below) ∙ append-nil (take standing.done ops)

    step : (first within : Bool) → nat_lt standing.done (length ops) ≡ within → (retire : Bool) → retire ≡ false →
        IsAt ops (record { done = if not first && within then standing.done + 1 else standing.done; retry = first; retired = retire }) (script ++ (if first then [] else op ∷ [])) total' held'
    step first within e true off = absurd (cc)
    step true within e false off = record {
      within = at.within;
      unclaims = 0;
      none_yet = λ _. refl;
      is_script = append-nil script ∙ so_far ∙ sym (append-nil (take standing.done ops ++ []) ∙ append-nil (take standing.done ops));
      at_end = λ clash. absurd (cc);
      given = λ same. absurd (omega (arith, same, below));
      released = λ clash. absurd (cc);
    }
    step false true e false off = record {
      within = omega arith;
      unclaims = 0;
      none_yet = λ _. refl;
      is_script = ap (λ (s : List Op). s ++ op ∷ []) so_far
          ∙ ap (λ (o : Op). take standing.done ops ++ o ∷ []) (sym is)
          ∙ sym (take_more ops standing.done op below)
          ∙ sym (append-nil (take (standing.done + 1) ops ++ []) ∙ append-nil (take (standing.done + 1) ops));
      at_end = λ clash. absurd (cc);
      given = λ same. (let now = fresh below in omega (arith, now));
      released = λ clash. absurd (cc);
    }
    step false false e false off = absurd (let past = ltb-false standing.done (length ops) e in omega (arith, past))
IsAt-next ops standing script claims op reply total total' held' at (unclaims over has is) stays goes_on done_past fresh kept unclaimed left =
    subst (λ (o : Op). IsAt ops (after_reply ops standing o reply) (script ++ (if not standing.retry && is_full_reply reply then [] else o ∷ [])) total' held') (sym is)
    (step (not standing.retry && is_full_reply reply) (nat_lt standing.done (length ops)) (not_first standing.retry reply (done_past over)) refl)
  where
    so_far : script ≡ take standing.done ops ++ replicate at.unclaims Unclaim
    so_far = at.is_script ∙ ap (λ (b : Bool). (take standing.done ops ++ replicate at.unclaims Unclaim) ++ (if b then Retire ∷ [] else [])) stays
        ∙ append-nil (take standing.done ops ++ replicate at.unclaims Unclaim)

    step : (first within : Bool) → first ≡ false → nat_lt standing.done (length ops) ≡ within →
        IsAt ops (record { done = if not first && within then standing.done + 1 else standing.done; retry = first; retired = false }) (script ++ (if first then [] else Unclaim ∷ [])) total' held'
    step true within off e = absurd (cc)
    step false true off e = absurd (let below = ltb-true standing.done (length ops) e in omega (arith, below))
    step false false off e = record {
      within = at.within;
      unclaims = at.unclaims + 1;
      none_yet = λ below. absurd (omega arith);
      is_script = ap (λ (s : List Op). s ++ Unclaim ∷ []) so_far
          ∙ append_assoc (take standing.done ops) (replicate at.unclaims Unclaim) (Unclaim ∷ [])
          ∙ ap (λ (s : List Op). take standing.done ops ++ s) (replicate_more at.unclaims Unclaim)
          ∙ sym (append-nil (take standing.done ops ++ replicate (at.unclaims + 1) Unclaim));
      at_end = λ clash. absurd (cc);
      given = λ same. (let before = at.given same in let now = unclaimed is over in let all = kept over in omega (arith, before, now, all));
      released = λ clash. absurd (cc);
    }
IsAt-next ops standing script claims op reply total total' held' at (retires over none is) stays goes_on done_past fresh kept unclaimed left =
    subst (λ (o : Op). IsAt ops (after_reply ops standing o reply) (script ++ (if not standing.retry && is_full_reply reply then [] else o ∷ [])) total' held') (sym is)
    (step (not standing.retry && is_full_reply reply) (nat_lt standing.done (length ops)) (not_first standing.retry reply (done_past over)) refl)
  where
    so_far : script ≡ take standing.done ops ++ replicate at.unclaims Unclaim
    so_far = at.is_script ∙ ap (λ (b : Bool). (take standing.done ops ++ replicate at.unclaims Unclaim) ++ (if b then Retire ∷ [] else [])) stays
        ∙ append-nil (take standing.done ops ++ replicate at.unclaims Unclaim)

    step : (first within : Bool) → first ≡ false → nat_lt standing.done (length ops) ≡ within →
        IsAt ops (record { done = if not first && within then standing.done + 1 else standing.done; retry = first; retired = true }) (script ++ (if first then [] else Retire ∷ [])) total' held'
    step true within off e = absurd (cc)
    step false true off e = absurd (let below = ltb-true standing.done (length ops) e in omega (arith, below))
    step false false off e = record {
      within = at.within;
      unclaims = at.unclaims;
      none_yet = λ below. absurd (omega arith);
      is_script = ap (λ (s : List Op). s ++ Retire ∷ []) so_far;
      at_end = λ _. (let h = at.within in omega (arith, h, over));
      given = λ same. (let before = at.given same in let now = left is over in let all = kept over in omega (arith, before, now, all));
      released = λ _. left is over ∙ none;
    }

-- a call of its next operation takes a mutator on
pub IsMutatorAt-called : (setting : Setting) (history : List Event) (who : ℕ) (ops : List Op) (standing : Standing) (calls : List (Op × Reply)) (op : Op) (reply : Reply) (took : Option ℕ) →
    IsMutatorAt setting history who ops standing calls → standing.retired ≡ false → op ≡ next_of ops standing (claims_after setting.layout history who) →
    IsAnswer setting.layout setting.shapes (state_after setting.layout history) who op reply took →
    IsMutatorAt setting (history ++ called who op reply took ∷ []) who ops (after_reply ops standing op reply) (calls ++ (op, reply) ∷ [])
IsMutatorAt-called setting history who ops standing calls op reply took at stays is answers =
    elim next [
      | an_operation within some at_place ↦
          grown (claims_after setting.layout new who) (length new) (omega arith)
          (λ _. refl) (λ over. absurd (omega arith))
          (λ same. record { script = ap (script_of who) (take-all new) ∙ done_now within same; claims = ap (λ (h : List Event). claims_after setting.layout h who) (take-all new) })
      | unclaims over has is_unclaim ↦ grown at.total at.moment (longer at.moment at.in_history) (λ below. absurd (omega arith)) (λ _. refl) (λ _. still over)
      | retires over none is_retire' ↦ grown at.total at.moment (longer at.moment at.in_history) (λ below. absurd (omega arith)) (λ _. refl) (λ _. still over)
    ]
  where
    state : State
    state = state_after setting.layout history

    new : List Event
    new = history ++ called who op reply took ∷ []

    claims : ℕ
    claims = length (state.claims who)

    first : Bool
    first = not standing.retry && is_full_reply reply

    next : IsNext ops standing.done claims op
    next = subst (IsNext ops standing.done claims) (sym is) (next_cases ops standing claims)

    goes_on : standing.done < length ops → is_retire op ≡ false
    goes_on below = elim next [
      | an_operation within some at_place ↦ (subst (IsAskable setting.layout) at_place (All-get_or (IsAskable setting.layout) ops standing.done op within at.askable)).goes_on
      | unclaims over has is_unclaim ↦ absurd (omega arith)
      | retires over none is_retire' ↦ absurd (omega arith)
    ]

    done_past : length ops ≤ standing.done → reply ≡ Done
    done_past over = not_full_past setting.layout setting.shapes state who ops standing.done op reply took next answers over

    retry_now : retry_of who new ≡ (if first then Some op else None)
    retry_now = retry_of-push who history op reply took ∙ retry_after-flag (retry_of who history) standing.retry op reply at.retry

    script_now : script_of who new ≡ script_of who history ++ (if first then [] else op ∷ [])
    script_now = script_of-push who history op reply took
        ∙ ap (λ (o : Option Op). script_of who history ++ (if is_some o then [] else op ∷ [])) (retry_after-flag (retry_of who history) standing.retry op reply at.retry)
        ∙ ap (λ (b : Bool). script_of who history ++ (if b then [] else op ∷ [])) (is_some-flag first op)

    retries : (flag : Bool) → first ≡ flag → (o : Op) → retry_of who new ≡ Some o → slice_get ops (after_reply ops standing op reply).done ≡ Some o
    retries true e o pending =
        let now : Some op ≡ Some o = sym (retry_now ∙ ap (λ (b : Bool). if b then Some op else None) e) ∙ pending in
        elim next [
          | an_operation within some at_place ↦
              ap (λ (b : Bool). slice_get ops (if not b && nat_lt standing.done (length ops) then standing.done + 1 else standing.done)) e ∙ some ∙ now
          | unclaims over has is_unclaim ↦ (let clash : true ≡ false = sym e ∙ not_first standing.retry reply (done_past over) in absurd (cc))
          | retires over none is_retire' ↦ (let clash : true ≡ false = sym e ∙ not_first standing.retry reply (done_past over) in absurd (cc))
        ]
    retries false e o pending =
        let now : None ≡ Some o = sym (retry_now ∙ ap (λ (b : Bool). if b then Some op else None) e) ∙ pending in absurd (cc)

    leaves : state_after setting.layout new ≡ after_call state who op reply took
    leaves = state_after-push setting.layout history (called who op reply took)

    was_active : state.active who ≡ true
    was_active = at.active ∙ ap not stays

    active_now : (state_after setting.layout new).active who ≡ not (is_retire op)
    active_now = ap (λ (s : State). s.active who) leaves ∙ (elim next [
      | an_operation within some at_place ↦
          ap (λ (a : ℕ → Bool). a who) (active_after-call state who op reply took (goes_on within)) ∙ was_active ∙ ap not (sym (goes_on within))
      | unclaims over has is_unclaim ↦
          ap (λ (o : Op). (after_call state who o reply took).active who) is_unclaim
          ∙ ap (λ (a : ℕ → Bool). a who) (active_after-call state who Unclaim reply took refl) ∙ was_active ∙ ap (λ (o : Op). not (is_retire o)) (sym is_unclaim)
      | retires over none is_retire' ↦
          ap (λ (o : Op). (after_call state who o reply took).active who) is_retire'
          ∙ ap (λ (r : Reply). (after_call state who Retire r took).active who) (done_past over)
          ∙ ap (λ (b : Bool). if b then false else state.active who) (eq-eqb who who refl)
          ∙ ap (λ (o : Op). not (is_retire o)) (sym is_retire')
    ])

    held_now : length ((state_after setting.layout new).claims who) ≡ length ((after_call state who op reply took).claims who)
    held_now = ap (λ (s : State). length (s.claims who)) leaves

    asked_now : IsAskedBy ops op
    asked_now = elim next [
      | an_operation within some at_place ↦ of_script standing.done op some
      | unclaims over has is_unclaim ↦ subst (IsAskedBy ops) (sym is_unclaim) asks_unclaim
      | retires over none is_retire' ↦ subst (IsAskedBy ops) (sym is_retire') asks_retire
    ]

    longer : (moment : ℕ) → moment ≤ length history → moment ≤ length new
    longer moment le = (let one = length-append history (called who op reply took ∷ []) in omega (arith, one, le))

    some_claims : op ≡ Unclaim → length ops ≤ standing.done → 0 < claims
    some_claims is_unclaim over = elim next [
      | an_operation within some at_place ↦ absurd (omega arith)
      | unclaims past has is' ↦ has
      | retires past none is' ↦ (let clash : Unclaim ≡ Retire = sym is_unclaim ∙ is' in absurd (cc))
    ]

    script_grown : (total moment : ℕ) → (standing.done < length ops → claims_after setting.layout new who ≡ total) → (length ops ≤ standing.done → total ≡ at.total) →
        IsAt ops (after_reply ops standing op reply) (script_of who new) total (claims_after setting.layout new who)
    script_grown total moment fresh kept =
        subst (λ (s : List Op). IsAt ops (after_reply ops standing op reply) s total (claims_after setting.layout new who)) (sym script_now)
        (IsAt-next ops standing (script_of who history) claims op reply at.total total (claims_after setting.layout new who)
        at.at next stays goes_on done_past fresh kept
        (λ is_unclaim over. ap (λ (n : ℕ). n + 1) (held_now
        ∙ ap (λ (o : Op). length ((after_call state who o reply took).claims who)) is_unclaim
        ∙ ap (λ (r : Reply). length ((after_call state who Unclaim r took).claims who)) (done_past over)
        ∙ ap (λ (b : Bool). length (if b then drop 1 (state.claims who) else state.claims who)) (eq-eqb who who refl))
        ∙ length_without_first (state.claims who) (some_claims is_unclaim over))
        (λ is_retire' over. held_now
        ∙ ap (λ (o : Op). length ((after_call state who o reply took).claims who)) is_retire'
        ∙ ap (λ (r : Reply). length ((after_call state who Retire r took).claims who)) (done_past over)))

    done_now : standing.done < length ops → (after_reply ops standing op reply).done ≡ length ops → script_of who new ≡ ops
    done_now below same =
        let now = script_grown (claims_after setting.layout new who) 0 (λ _. refl) (λ over. absurd (omega arith)) in
        let none : now.unclaims ≡ 0 = (let given = now.given same in omega (arith, given)) in
        let done = (after_reply ops standing op reply).done in
        now.is_script ∙ ap (λ (r : Bool). (take done ops ++ replicate now.unclaims Unclaim) ++ (if r then Retire ∷ [] else [])) (goes_on below)
        ∙ append-nil (take done ops ++ replicate now.unclaims Unclaim) ∙ ap (λ (n : ℕ). take done ops ++ replicate n Unclaim) none ∙ append-nil (take done ops)
        ∙ ap (λ (n : ℕ). take n ops) same ∙ take_all (length ops) ops (omega arith)

    still : length ops ≤ standing.done → WasDone setting.layout new who ops at.moment at.total
    still over =
        let was = at.was_done (let w = at.at.within in omega (arith, w, over)) in
        let same = take-append-short history (called who op reply took ∷ []) at.moment at.in_history in
        record { script = ap (script_of who) same ∙ was.script; claims = ap (λ (h : List Event). claims_after setting.layout h who) same ∙ was.claims }

    grown : (total moment : ℕ) → moment ≤ length new → (standing.done < length ops → claims_after setting.layout new who ≡ total) → (length ops ≤ standing.done → total ≡ at.total) →
        ((after_reply ops standing op reply).done ≡ length ops → WasDone setting.layout new who ops moment total) →
        IsMutatorAt setting new who ops (after_reply ops standing op reply) (calls ++ (op, reply) ∷ [])
    grown total moment in_history fresh kept was_done = record {
      is_mutator = at.is_mutator;
      askable = at.askable;
      total = total;
      moment = moment;
      in_history = in_history;
      was_done = was_done;
      at = script_grown total moment fresh kept;
      retry = sym (ap is_some retry_now ∙ is_some-flag first op);
      retries = retries first refl;
      active = active_now;
      asked = All-push (λ call. IsAskedBy ops call.0) calls (op, reply) at.asked asked_now;
      are = calls_of-push who history op reply took ∙ ap (λ (c : List (Op × Reply)). c ++ (op, reply) ∷ []) at.are;
    }
