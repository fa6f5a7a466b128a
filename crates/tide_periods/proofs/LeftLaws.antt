-- Each call leaves fewer.
use Rattle.std.proofs.Common.{ℕ, zero, suc, ◌≡◌, ◌≢◌, ◌+◌, ◌-◌, ◌<◌, ◌≤◌, refl, sym, ◌∙◌, ap, subst, arith, Bool, true, false, List, [], ◌∷◌, ◌++◌, length, drop, eq-eqb, All}
use Rattle.std.proofs.lemmas.Bool.{ltb-true, ltb-false}
use Rattle.std.proofs.lemmas.List.Elements.{All-get_or}
use Rattle.std.proofs.Math.ListN.{set}
use Rattle.std.specs.Prelude.{Option, Some, map, slice_get, nat_lt, not, ◌&&◌, if◌then◌else◌}
use Rattle.tide_model.specs.declared.op.Op.{Op}
use Rattle.tide_model.specs.declared.op.Op.TheVariants.{Unclaim}
use Rattle.tide_model.specs.declared.op.Reply.{Reply}
use Rattle.tide_model.specs.declared.op.Reply.TheVariants.{Done}
use Rattle.tide_model.specs.declared.entry.Event.{Event}
use Rattle.tide_model.specs.Answer.{IsAnswer}
use Rattle.tide_model.specs.Applied.{after_call}
use Rattle.tide_model.specs.History.{is_call_of, state_after}
use Rattle.tide_model.specs.Layout.{Layout}
use Rattle.tide_model.specs.Script.{is_full_reply}
use Rattle.tide_model.specs.Script.{is_retire}
use Rattle.tide_model.specs.State.{State}
use Rattle.tide_model.proofs.Histories.{state_after-push}
use Rattle.tide_periods.specs.declared.cursor.ScriptCursor.{ScriptCursor}
use Rattle.tide_periods.specs.Answered.{pair_of}
use Rattle.tide_periods.specs.Asking.{IsAskable, IsCursor, IsCursorAt, IsMutatorAt, Standing, after_reply, claims_after, TookReply, next_of, standing_of}
use Rattle.tide_periods.specs.Left.{left_at, left_by, left_of, total_by}
use Rattle.tide_periods.specs.Part.{RanShare}
use Rattle.tide_periods.specs.Store.{Setting}
use Rattle.tide_periods.specs.Recorded.{IsSettled, MadeCall, Recorded}
use Rattle.tide_model.proofs.CallLaws.{length_without_first}
use Rattle.tide_periods.proofs.Quiet.{calls_of-others, claims_after-quiet}
use Rattle.tide_periods.proofs.CursorLaws.{IsNext, an_operation, unclaims, retires, next_cases, not_first, not_full_past}
use Rattle.tide_model.proofs.OwnCalls.{called}

pub claims_after-others : (layout : Layout) (history events : List Event) (who other : ℕ) → who ≢ other → All (λ event. is_call_of other event.entry ≡ true) events →
    (state_after layout (history ++ events)).claims who ≡ (state_after layout history).claims who
claims_after-others layout history events who other apart all = claims_after-quiet layout history events who (calls_of-others who other events apart all)

-- another mutator's share leaves what this one claims
pub claims_after-share : (now new : Recorded) (run who other : ℕ) (stopped : Bool) → who ≢ other → IsSettled now → RanShare now new run other stopped →
    new.state.claims who ≡ now.state.claims who
claims_after-share now new run who other stopped apart recorded ran =
    ap (λ (s : State). s.claims who) (sym ran.settled.leaves)
    ∙ ap (λ (s : Setting). (state_after s.layout new.history).claims who) ran.same
    ∙ ap (λ (h : List Event). (state_after now.setting.layout h).claims who) ran.history
    ∙ claims_after-others now.setting.layout now.history ran.events who other apart ran.own
    ∙ ap (λ (s : State). s.claims who) recorded.leaves

-- an active mutator has at least one call left
pub left-some : (ops : List Op) (standing : Standing) (claims : ℕ) → standing.retired ≡ false → 0 < left_at ops standing claims
left-some ops standing claims stays =
    subst (λ (r : Bool). 0 < left_by r (nat_lt standing.done (length ops)) standing.retry (length ops - standing.done) claims) (sym stays) (step (nat_lt standing.done (length ops)))
  where
    step : (within : Bool) → 0 < left_by false within standing.retry (length ops - standing.done) claims
    step true = omega arith
    step false = omega arith

-- a call leaves at least one less
pub left-called : (setting : Setting) (history : List Event) (who : ℕ) (ops : List Op) (standing : Standing) (calls : List (Op × Reply)) (op : Op) (reply : Reply) (took : Option ℕ) →
    IsMutatorAt setting history who ops standing calls → standing.retired ≡ false → op ≡ next_of ops standing (claims_after setting.layout history who) →
    IsAnswer setting.layout setting.shapes (state_after setting.layout history) who op reply took → claims_after setting.layout (history ++ called who op reply took ∷ []) who ≤ 8 →
    left_at ops (after_reply ops standing op reply) (claims_after setting.layout (history ++ called who op reply took ∷ []) who) + 1 ≤ left_at ops standing (claims_after setting.layout history who)
left-called setting history who ops standing calls op reply took at stays is answers few =
    subst (λ (r : Bool). left_at ops (after_reply ops standing op reply) held + 1 ≤ left_by r (nat_lt standing.done (length ops)) standing.retry more claims) (sym stays)
    (by_next next)
  where
    state : State
    state = state_after setting.layout history

    claims : ℕ
    claims = length (state.claims who)

    held : ℕ
    held = claims_after setting.layout (history ++ called who op reply took ∷ []) who

    more : ℕ
    more = length ops - standing.done

    next : IsNext ops standing.done claims op
    next = subst (IsNext ops standing.done claims) (sym is) (next_cases ops standing claims)

    leaves : state_after setting.layout (history ++ called who op reply took ∷ []) ≡ after_call state who op reply took
    leaves = state_after-push setting.layout history (called who op reply took)

    -- whether it is a first refusal, and whether operations are left before and after
    busy : (retire retry first within : Bool) → retire ≡ false → (first ≡ true → retry ≡ false) → standing.done < length ops →
        nat_lt (if not first && true then standing.done + 1 else standing.done) (length ops) ≡ within →
        left_by retire within first (length ops - (if not first && true then standing.done + 1 else standing.done)) (held) + 1 ≤ left_by false true retry more claims
    busy true retry first within off free below e = absurd (cc)
    busy false true true within off free below e = (let clash : true ≡ false = free refl in absurd (cc))
    busy false false true true off free below e = omega (arith, few, below)
    busy false false true false off free below e = (let past = ltb-false standing.done (length ops) e in absurd (omega (arith, past, below)))
    busy false true false true off free below e = (let still = ltb-true (standing.done + 1) (length ops) e in omega (arith, still, below))
    busy false false false true off free below e = (let still = ltb-true (standing.done + 1) (length ops) e in omega (arith, still, below))
    busy false true false false off free below e = omega (arith, few, below)
    busy false false false false off free below e = omega (arith, few, below)

    first_is_new : (retry full : Bool) → (not retry && full) ≡ true → retry ≡ false
    first_is_new true full e = absurd (cc)
    first_is_new false full e = refl

    done_at : Bool → Bool → ℕ
    done_at first within = if not first && within then standing.done + 1 else standing.done

    -- what is to be shown, by the tests in it
    Shown : Bool → Bool → Bool → Type 0
    Shown retire first within =
        left_by retire (nat_lt (if not first && within then standing.done + 1 else standing.done) (length ops)) first
        (length ops - (if not first && within then standing.done + 1 else standing.done)) (held) + 1 ≤ left_by false within standing.retry more claims

    working : (within : Bool) → nat_lt standing.done (length ops) ≡ within → (first retire : Bool) → retire ≡ false → (first ≡ true → standing.retry ≡ false) → standing.done < length ops → Shown retire first within
    working true e first retire off free below =
        busy retire standing.retry first (nat_lt (if not first && true then standing.done + 1 else standing.done) (length ops)) off free below refl
    working false e first retire off free below = (let past = ltb-false standing.done (length ops) e in absurd (omega (arith, past, below)))

    leaving : (within : Bool) → nat_lt standing.done (length ops) ≡ within → (first retire : Bool) → first ≡ false → length ops ≤ standing.done →
        (retire ≡ false → held + 1 ≡ claims) → Shown retire first within
    leaving true e first retire off over fewer = (let below = ltb-true standing.done (length ops) e in absurd (omega (arith, below, over)))
    leaving false e true retire off over fewer = absurd (cc)
    leaving false e false true off over fewer = omega arith
    leaving false e false false off over fewer =
        subst (λ (w : Bool). left_by false w false (length ops - standing.done) (held) + 1 ≤ claims + 1) (sym e) (let one = fewer refl in omega (arith, one))

    done_past : length ops ≤ standing.done → reply ≡ Done
    done_past over = not_full_past setting.layout setting.shapes state who ops standing.done op reply took next answers over

    by_next : IsNext ops standing.done claims op → Shown (is_retire op) (not standing.retry && is_full_reply reply) (nat_lt standing.done (length ops))
    by_next (an_operation below some at_place) =
        working (nat_lt standing.done (length ops)) refl (not standing.retry && is_full_reply reply) (is_retire op)
        (subst (IsAskable setting.layout) at_place (All-get_or (IsAskable setting.layout) ops standing.done op below at.askable)).goes_on
        (first_is_new standing.retry (is_full_reply reply)) below
    by_next (unclaims over has is_unclaim) =
        leaving (nat_lt standing.done (length ops)) refl (not standing.retry && is_full_reply reply) (is_retire op) (not_first standing.retry reply (done_past over)) over
        (λ _. fewer)
      where
        claims_now : (state_after setting.layout (history ++ called who op reply took ∷ [])).claims who ≡ drop 1 (state.claims who)
        claims_now = ap (λ (s : State). s.claims who) leaves
            ∙ ap (λ (o : Op). (after_call state who o reply took).claims who) is_unclaim
            ∙ ap (λ (r : Reply). (after_call state who Unclaim r took).claims who) (done_past over)
            ∙ ap (λ (b : Bool). if b then drop 1 (state.claims who) else state.claims who) (eq-eqb who who refl)

        fewer : held + 1 ≡ claims
        fewer = ap (λ (c : List ℕ). length c + 1) claims_now ∙ length_without_first (state.claims who) has
    by_next (retires over none is_retire') =
        leaving (nat_lt standing.done (length ops)) refl (not standing.retry && is_full_reply reply) (is_retire op) (not_first standing.retry reply (done_past over)) over
        (λ stays'. (let clash : true ≡ false = sym (ap is_retire is_retire') ∙ stays' in absurd (cc)))

-- the sum where one cursor made its calls
pub total_by-share : (one other : ℕ → List ℕ) (cursors : List ScriptCursor) (at : ℕ) (cursor old : ScriptCursor) → slice_get cursors at ≡ Some old →
    ((k : ℕ) (c : ScriptCursor) → k ≢ at → slice_get cursors k ≡ Some c → other c.who ≡ one c.who) →
    total_by other (set cursors at cursor) + left_of one old ≡ total_by one cursors + left_of other cursor
total_by-share one other [] at cursor old found same = absurd (cc)
total_by-share one other (first ∷ cursors) zero cursor old found same =
    let is : first ≡ old = cc in
    let rest = total_by-same one other cursors (λ k c there. same (suc k) c (λ clash. absurd (cc)) there) in
    let head : left_of one first ≡ left_of one old = ap (left_of one) is in
    omega (arith, rest, head)
  where
    total_by-same : (one other : ℕ → List ℕ) (cs : List ScriptCursor) → ((k : ℕ) (c : ScriptCursor) → slice_get cs k ≡ Some c → other c.who ≡ one c.who) → total_by other cs ≡ total_by one cs
    total_by-same one other [] each = refl
    total_by-same one other (c ∷ cs) each =
        let here : left_of other c ≡ left_of one c = ap (λ (claims : List ℕ). left_at c.ops.items (standing_of c) (length claims)) (each 0 c refl) in
        let later = total_by-same one other cs (λ k d there. each (suc k) d there) in
        omega (arith, here, later)
total_by-share one other (first ∷ cursors) (suc at) cursor old found same =
    let here : left_of other first ≡ left_of one first = ap (λ (claims : List ℕ). left_at first.ops.items (standing_of first) (length claims)) (same 0 first (λ clash. absurd (cc)) refl) in
    let later = total_by-share one other cursors at cursor old found (λ k c apart there. same (suc k) c (λ clash. apart (cc)) there) in
    omega (arith, here, later)

-- a cursor's, after it recorded the reply
pub left-taken : (setting : Setting) (history : List Event) (cursor taken : ScriptCursor) (op : Op) (reply : Reply) (took : Option ℕ) → IsCursorAt setting history cursor → cursor.retired ≡ false →
    op ≡ next_of cursor.ops.items (standing_of cursor) (claims_after setting.layout history cursor.who) →
    IsAnswer setting.layout setting.shapes (state_after setting.layout history) cursor.who op reply took →
    claims_after setting.layout (history ++ called cursor.who op reply took ∷ []) cursor.who ≤ 8 → TookReply cursor taken op reply →
    left_of (state_after setting.layout (history ++ called cursor.who op reply took ∷ [])).claims taken + 1 ≤ left_of (state_after setting.layout history).claims cursor
left-taken setting history cursor taken op reply took at stays is answers few record' =
    subst (λ (w : ℕ). left_at taken.ops.items (standing_of taken) (length ((state_after setting.layout (history ++ called cursor.who op reply took ∷ [])).claims w)) + 1 ≤ left) (sym record'.who)
    (subst (λ (o : List Op). left_at o (standing_of taken) held + 1 ≤ left) (ap (λ ops. ops.items) (sym record'.ops))
    (subst (λ (s : Standing). left_at cursor.ops.items s held + 1 ≤ left) (sym record'.standing)
    (left-called setting history cursor.who cursor.ops.items (standing_of cursor) (map pair_of cursor.calls.items) op reply took at stays is answers few)))
  where
    left : ℕ
    left = left_of (state_after setting.layout history).claims cursor

    held : ℕ
    held = claims_after setting.layout (history ++ called cursor.who op reply took ∷ []) cursor.who

-- the same of what a recorder's store claims
pub left-took : (old new : Recorded) (cursor took : ScriptCursor) (op : Op) (reply : Reply) → IsSettled old → IsCursor old cursor → cursor.retired ≡ false →
    op ≡ next_of cursor.ops.items (standing_of cursor) (length (old.state.claims cursor.who)) → MadeCall old new cursor.who op reply → TookReply cursor took op reply →
    left_of new.state.claims took + 1 ≤ left_of old.state.claims cursor
left-took old new cursor taken op reply settled at stays is made record' =
    subst (λ (s : State). left_of new.state.claims taken + 1 ≤ left_of s.claims cursor) settled.leaves
    (subst (λ (s : State). left_of s.claims taken + 1 ≤ left_of (state_after old.setting.layout old.history).claims cursor) leaves
    (left-taken old.setting old.history cursor taken op reply made.took at stays
    (is ∙ ap (λ (s : State). next_of cursor.ops.items (standing_of cursor) (length (s.claims cursor.who))) (sym settled.leaves))
    (subst (λ (s : State). IsAnswer old.setting.layout old.setting.shapes s cursor.who op reply made.took) (sym settled.leaves) made.answers)
    (subst (λ (s : State). length (s.claims cursor.who) ≤ 8) (sym leaves) (made.settled.few cursor.who)) record'))
  where
    leaves : state_after old.setting.layout (old.history ++ called cursor.who op reply made.took ∷ []) ≡ new.state
    leaves = sym (ap (λ (s : Setting). state_after s.layout new.history) made.same ∙ ap (state_after old.setting.layout) made.history) ∙ made.settled.leaves

-- nothing is left of a cursor that has retired
pub left-none : (claims : ℕ → List ℕ) (cursor : ScriptCursor) → cursor.retired ≡ true → left_of claims cursor ≡ 0
left-none claims cursor retired =
    ap (λ (r : Bool). left_by r (nat_lt cursor.done (length cursor.ops.items)) cursor.retry (length cursor.ops.items - cursor.done) (length (claims cursor.who))) retired

pub slice_get-set_other : {X : Type 0} (xs : List X) (at k : ℕ) (x : X) → k ≢ at → slice_get (set xs at x) k ≡ slice_get xs k
slice_get-set_other [] at k x apart = refl
slice_get-set_other (y ∷ xs) zero zero x apart = absurd (apart refl)
slice_get-set_other (y ∷ xs) zero (suc k) x apart = refl
slice_get-set_other (y ∷ xs) (suc at) zero x apart = refl
slice_get-set_other (y ∷ xs) (suc at) (suc k) x apart = slice_get-set_other xs at k x (λ same. apart (ap suc same))
