-- Claim, Release and Unclaim: the step on the claim word makes the call.
use Rattle.std.proofs.Common.{ℕ, zero, suc, ◌≡◌, ◌+◌, ◌<◌, refl, sym, ◌∙◌, ap, subst, arith, Bool, true, false, List, [], ◌∷◌, length, None, Some, inl, inr, ◌⊎◌}
use Rattle.std.proofs.lemmas.Bool.{ne_eqb}
use Rattle.std.proofs.lemmas.Bool.Decides.{nat_tests}
use Rattle.std.specs.Prelude.{if◌then◌else◌, nat_le, ◌==◌}
use Rattle.tide_heap.proofs.tide_call.action_laws.ClaimActions.{claims_are_told}
use Rattle.tide_heap.specs.tide_call.Callers.{Planner}
use Rattle.tide_heap.specs.tide_call.Laws.{IsClaimTold}
use Rattle.tide_heap.specs.tide_call.ActionWords.{ActionWords}
use Rattle.tide_heap.specs.tide_call.Actions.{IsAction, is_told_by_registers}
use Rattle.tide_heap.specs.tide_call.declared.action.Action.TheVariants as action
use Rattle.tide_heap.specs.tide_layout.declared.region.Region.TheVariants as region
use Rattle.tide_heap.specs.tide_core.machine.Entries.{call_of, reply_of_call}
use Rattle.tide_heap.specs.tide_core.machine.Kind.{LoadClaim, TakeClaim, Release as ReleaseStep}
use Rattle.tide_heap.specs.tide_core.machine.May.{MayCall, called}
use Rattle.tide_heap.specs.tide_core.machine.Moment.{Moment}
use Rattle.tide_heap.specs.tide_core.machine.Views.{with_entry}
use Rattle.tide_heap.specs.tide_core.machine.World.{World}
use Rattle.tide_heap.specs.tide_core.declared.machine.view.Duty.TheVariants.{Nothing}
use Rattle.tide_heap.specs.tide_core.declared.machine.view.View.{View}
use Rattle.tide_heap.specs.tide_core.machine.kinds.ClaimCell.{HasNoRoom, MayLoadClaim, MayTakeClaim}
use Rattle.tide_heap.specs.tide_core.machine.kinds.ReleaseCell.{MayRelease}
use Rattle.tide_model.proofs.ClaimLaws.{ClaimsAreOwn-lawful}
use Rattle.tide_model.specs.History.{state_after}
use Rattle.tide_model.specs.Layout.{Layout, cell_count}
use Rattle.tide_model.specs.References.{IsLive}
use Rattle.tide_model.specs.Refused.{ShapeLists, claims_most, refusal_of, refuse_if}
use Rattle.tide_model.specs.State.{State}
use Rattle.tide_model.specs.declared.entry.Event.{Event}
use Rattle.tide_model.specs.declared.op.Op.{Op}
use Rattle.tide_model.specs.declared.op.Op.TheVariants.{Claim, Release, Unclaim}
use Rattle.tide_model.specs.declared.op.Refusal.TheVariants.{ClaimsFull, Full, Held}
use Rattle.tide_model.specs.declared.op.Reply.{Reply}
use Rattle.tide_model.specs.declared.op.Reply.TheVariants.{Done, Refused}
use Rattle.tide_model.specs.declared.val.Val.TheVariants.{Cell}
use Rattle.tide_mutator.proofs.owed_laws.Entering.{made_by, may_call, none_born}
use Rattle.tide_mutator.proofs.owed_laws.Refusing.{refused_reply}
use Rattle.tide_mutator.proofs.owed_laws.Standing.{moment_in, stands_then}
use Rattle.tide_mutator.proofs.cells_laws.Unowned.{found_there}
use Rattle.tide_mutator.specs.owed.Calling.{IsCalling}
use Rattle.tide_mutator.specs.cells.Claiming.{held_or, unheld_reply}
use Rattle.tide_mutator.specs.owed.Made.{HasMade}
use Rattle.tide_mutator.specs.owed.Standing.{IsPlanned, caller_of, claims_of}
use Rattle.tide_heap.specs.steps.Follows.{Follows, FollowsSome, MayStep}
use Rattle.tide_heap.proofs.tide_call.action_laws.ClaimWords.{some_claim}
use Rattle.tide_heap.specs.tide_call.Needed.{IsSomeClaim}
use Rattle.tide_heap.proofs.tide_words.heap_laws.ReadingLaws.{live_within}
use Rattle.tide_heap.specs.tide_words.forms.Reference.{claim_word}
use Rattle.tide_heap.specs.tide_words.heap.Heap.{Heap, write}

-- which operation has such an action
record IsClaim (caller : Planner) (state : State) (op : Op) (cell : ℕ) (full : Bool) : Type 0 where
  src : ℕ
  same : op ≡ Claim src
  source : state.registers caller.who src ≡ Cell cell
  fullness : full ≡ nat_le claims_most (length caller.claims)

is_claim : (caller : Planner) (heap : Heap) (state : State) (op : Op) (cell : ℕ) (full : Bool) →
    is_told_by_registers op ≡ true → IsAction caller heap state op (action.Claim cell full) →
    IsClaim caller state op cell full
is_claim caller heap state (Claim src) cell full told (source, fullness) =
    record { src = src; same = refl; source = source; fullness = fullness }
is_claim caller heap state op cell full told is = absurd (cc)

-- a claim isn't refused for room
no_room : (full : Bool) (read class : ℕ) → held_or (unheld_reply full) read ≡ Refused (Full class) → ⊥
no_room true zero class is = absurd (cc)
no_room false zero class is = absurd (cc)
no_room full (suc holder) class is = absurd (cc)

module _ (layout : Layout) (shapes : ShapeLists) (v : View) (op : Op) (cell : ℕ) (full : Bool)
    (calling : IsCalling layout v op) (told : is_told_by_registers op ≡ true)
    (planned : IsPlanned layout shapes v op (action.Claim cell full)) where
  module _ (log : List Event) (read : ℕ) (m : Moment layout shapes v log region.Claim cell read) where
    abbrev state : State
    state = state_after layout log

    is_here : IsClaim (caller_of layout shapes v) state op cell full
    is_here = is_claim (caller_of layout shapes v) m.settled state op cell full told
        (planned m.settled log (stands_then layout shapes v log region.Claim cell read calling.stays m))

    alive : IsLive state cell
    alive = m.refs.in_registers v.who is_here.src cell
        (stands_then layout shapes v log region.Claim cell read calling.stays m).active is_here.source

    found : m.settled region.Claim cell ≡ read
    found = found_there layout shapes v log region.Claim cell read refl (refl, refl, refl, refl, refl)
        (λ gone. let lives = alive in absurd (cc)) m

    within : cell < cell_count layout
    within = live_within layout shapes m.settled state cell m.reads alive

    -- the word that was found is a claim's
    pub some_claim_read : IsSomeClaim read
    some_claim_read = subst IsSomeClaim found
        (some_claim layout shapes m.settled state cell calling.limits (ClaimsAreOwn-lawful layout shapes log m.lawful) m.reads within)

    tells : IsClaimTold layout shapes m.settled state v.who is_here.src cell
    tells = claims_are_told layout shapes m.settled state v.who is_here.src cell
        (ClaimsAreOwn-lawful layout shapes log m.lawful) m.reads is_here.source within

    -- what refuses the claim of a cell that one holds
    held_reply : (holder : ℕ) → read ≡ suc holder → reply_of_call layout shapes state v.who op ≡ Refused (Held holder)
    held_reply holder is = refused_reply layout shapes state v.who op (Held holder)
        (ap (refusal_of layout shapes state v.who) is_here.same
        ∙ tells.held holder (found ∙ is ∙ (let more : suc holder ≡ holder + 1 = omega arith in more)))

    -- and where the claims are full
    full_reply : full ≡ true → read ≡ 0 → reply_of_call layout shapes state v.who op ≡ Refused ClaimsFull
    full_reply is none = refused_reply layout shapes state v.who op ClaimsFull
        (ap (refusal_of layout shapes state v.who) is_here.same ∙ tells.free (found ∙ none)
        ∙ ap (λ (b : Bool). refuse_if b ClaimsFull) (ap (λ (l : List ℕ). nat_le claims_most (length l))
        (stands_then layout shapes v log region.Claim cell read calling.stays m).claims
        ∙ sym is_here.fullness ∙ is))

  taken_words : (full ≡ false) → (log : List Event) (read : ℕ) (m : Moment layout shapes v log region.Claim cell read) →
      (new : Heap) × ActionWords layout m.settled v.who (action.Claim cell full) (held_or Done read) None new
  taken_words free log read m = by read (found log read m)
    where
      by : (n : ℕ) → m.settled region.Claim cell ≡ n →
          (new : Heap) × ActionWords layout m.settled v.who (action.Claim cell full) (held_or Done n) None new
      by zero is = (
        write m.settled region.Claim cell (claim_word (Some v.who)),
        (refl, is, free, λ other index inside. refl),
      )
      by (suc holder) is = (
        m.settled,
        (refl, is ∙ (let more : suc holder ≡ holder + 1 = omega arith in more), λ other index inside. refl),
      )

  full_words : (full ≡ true) → (log : List Event) (read : ℕ) (m : Moment layout shapes v log region.Claim cell read) →
      ActionWords layout m.settled v.who (action.Claim cell full) (held_or (Refused ClaimsFull) read) None m.settled
  full_words is_full log read m = by read (found log read m)
    where
      by : (n : ℕ) → m.settled region.Claim cell ≡ n →
          ActionWords layout m.settled v.who (action.Claim cell full) (held_or (Refused ClaimsFull) n) None m.settled
      by zero is = (refl, is, is_full, λ other index inside. refl)
      by (suc holder) is =
          (refl, is ∙ (let more : suc holder ≡ holder + 1 = omega arith in more), λ other index inside. refl)

  -- what the steps answer
  take_reply : (log : List Event) (read : ℕ) (m : Moment layout shapes v log region.Claim cell read) →
      (if read == 0 then Done else reply_of_call layout shapes (state_after layout log) v.who op) ≡ held_or Done read
  take_reply log read m = by read refl
    where
      by : (n : ℕ) → read ≡ n →
          (if n == 0 then Done else reply_of_call layout shapes (state_after layout log) v.who op) ≡ held_or Done n
      by zero is = refl
      by (suc holder) is =
          ap (λ (b : Bool). if b then Done else reply_of_call layout shapes (state_after layout log) v.who op)
          (ne_eqb (suc holder) 0 (λ none. absurd (omega arith)))
          ∙ held_reply log read m holder is

  load_reply : (full ≡ true) → (log : List Event) (read : ℕ) (m : Moment layout shapes v log region.Claim cell read) →
      reply_of_call layout shapes (state_after layout log) v.who op ≡ held_or (Refused ClaimsFull) read
  load_reply is_full log read m = by read refl
    where
      by : (n : ℕ) → read ≡ n →
          reply_of_call layout shapes (state_after layout log) v.who op ≡ held_or (Refused ClaimsFull) n
      by zero is = full_reply log read m is_full is
      by (suc holder) is = held_reply log read m holder is

  pub may_take : (full ≡ false) → (holder : ℕ) → holder ≡ v.who → MayStep layout shapes v (TakeClaim cell holder (Some op))
  may_take free holder me w running is =
      let read = w.heap region.Claim cell in
      let m = moment_in layout shapes w v region.Claim cell running is in
      let here = is_here w.log read m in
      let (new, words) = taken_words free w.log read m in
      subst (λ (o : Op). MayTakeClaim layout shapes w v.who cell holder read (Some o)) (sym here.same) (
        me,
        here.source,
        subst (λ (o : Op). MayCall layout shapes w v.who o
            (if read == 0 then Done else reply_of_call layout shapes (state_after layout w.log) v.who o) None) here.same
            (subst (λ (r : Reply). MayCall layout shapes w v.who op r None) (sym (take_reply w.log read m))
            (may_call layout shapes w v op (action.Claim cell full) (held_or Done read) None region.Claim cell read is calling
            planned m new words (λ class room. absurd (no_room false read class room)))),
      )

  pub taken_by : (full ≡ false) → (holder read : ℕ) (u : View) →
      Follows layout shapes (TakeClaim cell holder (Some op)) v read u →
      HasMade layout shapes op (action.Claim cell full) (held_or Done read) v u [] Nothing
  taken_by free holder read u f =
      let (new, words) = taken_words free f.log read f.moment in
      let view : u ≡ record (with_entry f.log (Some (call_of v.who op (held_or Done read) None)) (called [] v)) {
        found = read;
      } =
      f.view ∙ ap (λ (r : Reply). record (with_entry f.log (Some (call_of v.who op r None)) (called [] v)) { found = read })
      (take_reply f.log read f.moment) in record {
        made = made_by layout shapes op (action.Claim cell full) (held_or Done read) None v u (called [] v) f.log region.Claim
            cell read calling f.moment f.lawful f.own view new words refl refl (λ stays. refl) (λ is. absurd (cc)) (none_born v.born);
        owed = ap (λ (x : View). x.owed) view;
        duty = ap (λ (x : View). x.duty) view ∙ calling.between.duty;
      }

  no_room_there : (full ≡ true) → (log : List Event) (read : ℕ) (m : Moment layout shapes v log region.Claim cell read) →
      HasNoRoom (state_after layout log) v.who
  no_room_there is_full log read m =
      let most : nat_le claims_most (length ((state_after layout log).claims v.who)) ≡ true =
      ap (λ (l : List ℕ). nat_le claims_most (length l))
      (stands_then layout shapes v log region.Claim cell read calling.stays m).claims
      ∙ sym (is_here log read m).fullness ∙ is_full in grind (arith, nat_tests)

  pub may_look : (full ≡ true) → MayStep layout shapes v (LoadClaim cell (Some op))
  may_look is_full w running is =
      let read = w.heap region.Claim cell in
      let m = moment_in layout shapes w v region.Claim cell running is in
      let here = is_here w.log read m in
      subst (λ (o : Op). MayLoadClaim layout shapes w v.who cell (Some o)) (sym here.same) (
        here.source,
        no_room_there is_full w.log read m,
        subst (λ (o : Op). MayCall layout shapes w v.who o
            (reply_of_call layout shapes (state_after layout w.log) v.who o) None) here.same
            (subst (λ (r : Reply). MayCall layout shapes w v.who op r None) (sym (load_reply is_full w.log read m))
            (may_call layout shapes w v op (action.Claim cell full) (held_or (Refused ClaimsFull) read) None region.Claim cell
            read is calling planned m m.settled (full_words is_full w.log read m)
            (λ class room. absurd (no_room true read class room)))),
      )

  pub looked_by : (full ≡ true) → (read : ℕ) (u : View) → Follows layout shapes (LoadClaim cell (Some op)) v read u →
      HasMade layout shapes op (action.Claim cell full) (held_or (Refused ClaimsFull) read) v u [] Nothing
  looked_by is_full read u f =
      let view : u ≡ record (with_entry f.log (Some (call_of v.who op (held_or (Refused ClaimsFull) read) None)) (called [] v)) {
        found = read;
      } =
      f.view ∙ ap (λ (r : Reply). record (with_entry f.log (Some (call_of v.who op r None)) (called [] v)) { found = read })
      (load_reply is_full f.log read f.moment) in record {
        made = made_by layout shapes op (action.Claim cell full) (held_or (Refused ClaimsFull) read) None v u (called [] v) f.log
            region.Claim cell read calling f.moment f.lawful f.own view f.moment.settled
            (full_words is_full f.log read f.moment) refl refl (λ stays. refl) (λ is. absurd (cc)) (none_born v.born);
        owed = ap (λ (x : View). x.owed) view;
        duty = ap (λ (x : View). x.duty) view ∙ calling.between.duty;
      }

-- giving back
record IsRelease (caller : Planner) (state : State) (op : Op) (cell : ℕ) : Type 0 where
  src : ℕ
  same : op ≡ Release src
  source : state.registers caller.who src ≡ Cell cell

record IsUnclaim (caller : Planner) (op : Op) (cell : ℕ) : Type 0 where
  others : List ℕ
  same : op ≡ Unclaim
  oldest : caller.claims ≡ cell ∷ others

is_release : (caller : Planner) (heap : Heap) (state : State) (op : Op) (cell : ℕ) → is_told_by_registers op ≡ true →
    IsAction caller heap state op (action.Release cell) → IsRelease caller state op cell ⊎ IsUnclaim caller op cell
is_release caller heap state (Release src) cell told (granted, (at, source, is)) =
    let this : at ≡ cell = cc in inl record { src = src; same = refl; source = source ∙ ap Cell this }
is_release caller heap state Unclaim cell told (granted, (at, others, are, is)) =
    let this : at ≡ cell = cc in
    inr record { others = others; same = refl; oldest = are ∙ ap (λ (c : ℕ). c ∷ others) this }
is_release caller heap state (Claim src) cell told is = absurd is.1
is_release caller heap state op cell told is = absurd (cc)

releases : (layout : Layout) (shapes : ShapeLists) (w : World) (v : View) (op : Op) (cell : ℕ) →
    IsRelease (caller_of layout shapes v) (state_after layout w.log) op cell
    ⊎ IsUnclaim (caller_of layout shapes v) op cell →
    (state_after layout w.log).claims v.who ≡ claims_of v →
    MayCall layout shapes w v.who op Done None → MayRelease layout shapes w v.who cell (Some op)
releases layout shapes w v op cell (inl is) claims may =
    subst (λ (o : Op). MayRelease layout shapes w v.who cell (Some o)) (sym is.same)
    (is.source, subst (λ (o : Op). MayCall layout shapes w v.who o Done None) is.same may)
releases layout shapes w v op cell (inr is) claims may =
    subst (λ (o : Op). MayRelease layout shapes w v.who cell (Some o)) (sym is.same)
    ((is.others, claims ∙ is.oldest), subst (λ (o : Op). MayCall layout shapes w v.who o Done None) is.same may)

module _ (layout : Layout) (shapes : ShapeLists) (v : View) (op : Op) (cell : ℕ)
    (calling : IsCalling layout v op) (planned : IsPlanned layout shapes v op (action.Release cell)) where
  pub may_release : is_told_by_registers op ≡ true → MayStep layout shapes v (ReleaseStep cell (Some op))
  may_release told w running is =
      let read = w.heap region.Claim cell in
      let m = moment_in layout shapes w v region.Claim cell running is in
      let stands = stands_then layout shapes v w.log region.Claim cell read calling.stays m in
      releases layout shapes w v op cell
      (is_release (caller_of layout shapes v) m.settled (state_after layout w.log) op cell told
      (planned m.settled w.log stands)) stands.claims
      (may_call layout shapes w v op (action.Release cell) Done None region.Claim cell read is calling planned m
      (write m.settled region.Claim cell (claim_word None)) (refl, λ other index inside. refl)
      (λ class full. absurd (cc)))

  pub released_by : (u : View) → FollowsSome layout shapes (ReleaseStep cell (Some op)) v u →
      HasMade layout shapes op (action.Release cell) Done v u [] Nothing
  released_by u f = record {
    made = made_by layout shapes op (action.Release cell) Done None v u (called [] v) f.1.log region.Claim cell f.0 calling
        f.1.moment f.1.lawful f.1.own f.1.view (write f.1.moment.settled region.Claim cell (claim_word None))
        (refl, λ other index inside. refl) refl refl (λ stays. refl) (λ is. absurd (cc)) (none_born v.born);
    owed = ap (λ (x : View). x.owed) f.1.view;
    duty = ap (λ (x : View). x.duty) f.1.view ∙ calling.between.duty;
  }
