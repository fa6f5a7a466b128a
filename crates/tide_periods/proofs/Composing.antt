-- How the shares of mutators that called at the same time make a part.
use Rattle.std.proofs.Common.{ℕ, zero, suc, ◌≡◌, ◌+◌, ◌<◌, ◌≤◌, refl, sym, ◌∙◌, ap, subst, arith, Bool, true, false, List, [], ◌∷◌, ◌++◌, length, append_assoc, append-nil, inl, inr, add-zero, All}
use Rattle.std.proofs.lemmas.List.{append_cancel_left}
use Rattle.std.proofs.lemmas.List.Elements.{All-head, All-tail, filter-append}
use Rattle.std.proofs.lemmas.List.Sums.{AllPass-from_list_all, list_all-from_AllPass}
use Rattle.std.proofs.lemmas.Option.{slice_get_cases, slice_get_within}
use Rattle.std.specs.Prelude.{Option, None, Some, filter, if◌then◌else◌, not, slice_get}
use Rattle.tide_model.specs.declared.op.Op.{Op}
use Rattle.tide_model.specs.declared.entry.Entry.{Entry}
use Rattle.tide_model.specs.declared.entry.Entry.TheVariants.{Call, Begin, Pause, Visits, End, Taken, Sweep, Open}
use Rattle.tide_model.specs.declared.entry.Event.{Event}
use Rattle.tide_model.specs.Caller.{IsOwn}
use Rattle.tide_model.specs.Cycle.{begin_count}
use Rattle.tide_model.specs.History.{is_begin, is_open, plain, state_after}
use Rattle.tide_model.specs.Lawful.{IsLawful}
use Rattle.tide_model.specs.Layout.{Layout}
use Rattle.tide_model.specs.Numbers.{any_below}
use Rattle.tide_model.specs.Periods.{open_count}
use Rattle.tide_model.specs.Prefix.{IsPrefix, prefix_trans}
use Rattle.tide_model.specs.Script.{calls_of, retry_after_all, retry_of}
use Rattle.tide_model.specs.Share.{IsShare, HasCallLeft, has_ended}
use Rattle.tide_model.specs.Since.{is_call, is_of_part}
use Rattle.tide_model.proofs.DeadLaws.{calls_where_marking}
use Rattle.tide_model.proofs.Histories.{IsLawful-prefix, state_after-push}
use Rattle.tide_model.proofs.PeriodLaws.{Each-nil}
use Rattle.tide_model.proofs.SinceLaws.{count-push}
use Rattle.tide_periods.specs.declared.cursor.ScriptCursor.{ScriptCursor}
use Rattle.tide_periods.specs.Asking.{IsCursorAt, scripts_of, standing_of}
use Rattle.tide_periods.specs.Laws.{SharesMakePart, with_open}
use Rattle.tide_periods.specs.Left.{left_at, left_of, total_by}
use Rattle.tide_periods.specs.Own.{RanOwnShare, TookPart, had_retired, left_within, made_share}
use Rattle.tide_periods.specs.Part.{IsPartOf, RanPart}
use Rattle.tide_periods.specs.Recorded.{IsSettled, OpenedPart, recorded_at}
use Rattle.tide_periods.specs.Store.{Setting}
use Rattle.tide_periods.proofs.Freezing.{calls_of-opened, one_fails}
use Rattle.tide_model.proofs.Prefixes.{prefix_of_prefix}
use Rattle.tide_periods.proofs.OwnShares.{IsCursorAt-longer, claims-longer, few_claims, quiet-rest}
use Rattle.tide_periods.proofs.Parting.{any_below-same}
use Rattle.tide_periods.proofs.RecordedLaws.{IsSettled-event, OpenedPart-did}
use Rattle.tide_model.proofs.OwnCalls.{IsShare-by, calls_of-mine, calls_of-own, is_own, stands_last}

-- what a part leaves: a settled history, in which no cycle more began, and no part more was opened
record AreSettledAfter (setting : Setting) (before over : List Event) : Type 0 where
  pub settled : IsSettled (recorded_at setting over)
  pub cycles : begin_count over ≡ begin_count before
  pub parts : open_count over ≡ open_count before

-- the entries of a part neither begin nor end a cycle, and open no part
record IsQuietInPart (entry : Entry) : Type 0 where
  pub no_begin : is_begin entry ≡ false
  pub no_open : is_open entry ≡ false
  pub no_end : (cycle : ℕ) (freed : List ℕ) → entry ≡ End cycle freed → ⊥

quiet_in_part : (entry : Entry) → is_of_part entry ≡ true → IsQuietInPart entry
quiet_in_part (Call who op reply) of = record { no_begin = refl; no_open = refl; no_end = λ cycle freed is. absurd (cc) }
quiet_in_part (Begin cycle full) of = absurd (cc)
quiet_in_part (Pause visits) of = absurd (cc)
quiet_in_part (Visits who visits) of = absurd (cc)
quiet_in_part (End cycle freed) of = absurd (cc)
quiet_in_part (Taken block) of = record { no_begin = refl; no_open = refl; no_end = λ cycle freed is. absurd (cc) }
quiet_in_part (Sweep block) of = record { no_begin = refl; no_open = refl; no_end = λ cycle freed is. absurd (cc) }
quiet_in_part (Open number run) of = absurd (cc)

settled-part : (setting : Setting) (before part : List Event) → IsSettled (recorded_at setting before) →
    IsLawful setting.layout setting.shapes (before ++ part) → All (λ event. is_of_part event.entry ≡ true) part →
    AreSettledAfter setting before (before ++ part)
settled-part setting before [] settled lawful all =
    subst (AreSettledAfter setting before) (sym (append-nil before)) (record { settled = settled; cycles = refl; parts = refl })
settled-part setting before (event ∷ part) settled lawful all =
    let rest = settled-part setting (before ++ event ∷ []) part first.settled
    (subst (IsLawful setting.layout setting.shapes) (sym (append_assoc before (event ∷ []) part)) lawful)
    (All-tail (λ e. is_of_part e.entry ≡ true) event part all) in
    subst (AreSettledAfter setting before) (append_assoc before (event ∷ []) part)
    (record { settled = rest.settled; cycles = rest.cycles ∙ first.cycles; parts = rest.parts ∙ first.parts })
  where
    whole : IsLawful setting.layout setting.shapes (before ++ event ∷ [])
    whole = IsLawful-prefix setting.layout setting.shapes (before ++ event ∷ []) (before ++ event ∷ part)
        (record { rest = part; joins = append_assoc before (event ∷ []) part }) lawful

    quiet : IsQuietInPart event.entry
    quiet = quiet_in_part event.entry (All-head (λ e. is_of_part e.entry ≡ true) event part all)

    begun : begin_count (before ++ event ∷ []) ≡ begin_count before + (if is_begin event.entry then 1 else 0)
    begun = count-push (λ x. is_begin x.entry) before event

    opens : open_count (before ++ event ∷ []) ≡ open_count before + (if is_open event.entry then 1 else 0)
    opens = count-push (λ x. is_open x.entry) before event

    first : AreSettledAfter setting before (before ++ event ∷ [])
    first = record {
      settled = IsSettled-event (recorded_at setting before) (recorded_at setting (before ++ event ∷ [])) event settled refl refl
          (state_after-push setting.layout before event) begun opens refl (stands_last setting.layout setting.shapes before event whole)
          (record { kept = λ cycle freed is. absurd (quiet.no_end cycle freed is) })
          (few_claims setting.layout setting.shapes (before ++ event ∷ []) whole);
      cycles = begun ∙ ap (λ (b : Bool). begin_count before + (if b then 1 else 0)) quiet.no_begin ∙ add-zero (begin_count before);
      parts = opens ∙ ap (λ (b : Bool). open_count before + (if b then 1 else 0)) quiet.no_open ∙ add-zero (open_count before);
    }

-- what comes of one mutator's part in the whole
record HasShared (setting : Setting) (run : ℕ) (history calls : List Event) (old new : ScriptCursor) (stopped : Bool) : Type 0 where
  pub share : IsShare run (retry_of old.who (with_open history run)) ((state_after setting.layout (with_open history run ++ calls)).active old.who) (calls_of old.who calls)
  pub stops : stopped ≡ has_ended (retry_of old.who (with_open history run)) (calls_of old.who calls)
  pub who : new.who ≡ old.who
  pub ops : new.ops ≡ old.ops
  pub cursor : IsCursorAt setting (with_open history run ++ calls) new
  pub left : left_of (state_after setting.layout (with_open history run ++ calls)).claims new ≤ left_of (state_after setting.layout history).claims old
  pub fewer : 0 < run → old.retired ≡ false →
      left_of (state_after setting.layout (with_open history run ++ calls)).claims new < left_of (state_after setting.layout history).claims old

-- the part follows the history
abbrev follows : (history calls : List Event) (run : ℕ) → IsPrefix history (with_open history run ++ calls)
follows history calls run = record {
  rest = plain (Open (open_count history + 1) run) ∷ calls;
  joins = sym (append_assoc history (plain (Open (open_count history + 1) run) ∷ []) calls);
}

-- a mutator that had retired made no call
shared-retired : (setting : Setting) (run : ℕ) (history calls mine : List Event) (old new : ScriptCursor) → IsCursorAt setting history old → old.retired ≡ true → new ≡ old →
    IsOwn old.who history mine → IsOwn old.who (with_open history run ++ calls) mine → HasShared setting run history calls old new false
shared-retired setting run history calls mine old new at retired same own all = subst (λ (c : ScriptCursor). HasShared setting run history calls old c false) (sym same) (record {
  share = subst (IsShare run retry active) (sym quiet) (record { each = Each-nil (HasCallLeft run retry); fewer = λ few. inl (cursor.active ∙ ap not retired) });
  stops = ap (has_ended retry) (sym quiet);
  who = refl;
  ops = refl;
  cursor = cursor;
  left = omega (arith, held);
  fewer = λ some stays. (let clash : true ≡ false = sym retired ∙ stays in absurd (cc));
})
  where
    over : List Event
    over = with_open history run ++ calls

    retry : Option Op
    retry = retry_of old.who (with_open history run)

    active : Bool
    active = (state_after setting.layout over).active old.who

    quiet : calls_of old.who calls ≡ []
    quiet = quiet-rest old.who history over mine (follows history calls run) own all

    cursor : IsCursorAt setting over old
    cursor = IsCursorAt-longer setting history over mine old (follows history calls run) own all at

    held : left_of (state_after setting.layout over).claims old ≡ left_of (state_after setting.layout history).claims old
    held = ap (λ (l : List ℕ). left_at old.ops.items (standing_of old) (length l)) (claims-longer setting.layout old.who history over mine (follows history calls run) own all)

-- of two beginnings of a history that have the same calls of a mutator, both leave it the same claims
claims-same : (layout : Layout) (who : ℕ) (one other history mine : List Event) → IsPrefix one history → IsPrefix other history → IsOwn who one mine → IsOwn who other mine →
    (state_after layout one).claims who ≡ (state_after layout other).claims who
claims-same layout who one other history mine first second own own' = elim (prefix_of_prefix one other history first second) [
  | inl shorter ↦ sym (claims-longer layout who one other mine shorter own own')
  | inr longer ↦ claims-longer layout who other one mine longer own' own
]

-- a mutator that made its share
shared-made : (setting : Setting) (run : ℕ) (history calls seen seen_now mine mine_now : List Event) (old new : ScriptCursor) (ended : Bool) →
    IsOwn old.who history mine → IsOwn old.who (with_open history run ++ calls) mine_now → IsPrefix seen_now (with_open history run ++ calls) →
    RanOwnShare setting run seen seen_now mine mine_now old new ended → HasShared setting run history calls old new ended
shared-made setting run history calls seen seen_now mine mine_now old new ended own all within ran = record {
  share = IsShare-by run (retry_of old.who mine) (retry_of old.who (with_open history run)) (not new.retired) ((state_after setting.layout over).active old.who)
      (calls_of old.who ran.more) (calls_of old.who calls) same_retry
      (sym (ap (state_after setting.layout over).active (sym ran.who) ∙ cursor.active)) same_calls ran.share;
  stops = ran.stops ∙ ap (λ (r : Option Op). has_ended r (calls_of old.who ran.more)) same_retry ∙ ap (has_ended (retry_of old.who (with_open history run))) same_calls;
  who = ran.who;
  ops = ran.ops;
  cursor = cursor;
  left = (let left = ran.left in omega (arith, left, held_now, held));
  fewer = λ some stays. (let left = ran.fewer some stays in omega (arith, left, held_now, held));
}
  where
    open_event : Event
    open_event = plain (Open (open_count history + 1) run)

    over : List Event
    over = with_open history run ++ calls

    known : IsPrefix ran.after.known over
    known = prefix_trans ran.after.known seen_now over ran.after.earlier within

    all_new : IsOwn new.who over mine_now
    all_new = subst (λ (w : ℕ). IsOwn w over mine_now) (sym ran.who) all

    cursor : IsCursorAt setting over new
    cursor = IsCursorAt-longer setting ran.after.known over mine_now new known ran.after.own all_new ran.after.at

    more : ran.more ≡ filter (is_own old.who) calls
    more = append_cancel_left mine ran.more (filter (is_own old.who) calls)
        (sym ran.adds ∙ all ∙ filter-append (is_own old.who) (with_open history run) calls
        ∙ ap (λ (l : List Event). l ++ filter (is_own old.who) calls)
        (filter-append (is_own old.who) history (open_event ∷ []) ∙ append-nil (filter (is_own old.who) history) ∙ sym own))

    same_calls : calls_of old.who ran.more ≡ calls_of old.who calls
    same_calls = ap (calls_of old.who) more ∙ calls_of-own old.who calls

    same_retry : retry_of old.who mine ≡ retry_of old.who (with_open history run)
    same_retry = ap (retry_after_all None) (calls_of-mine old.who history mine own ∙ sym (calls_of-opened old.who history (open_count history + 1) run))

    held_now : left_of (state_after setting.layout over).claims new ≡ left_within ran.after
    held_now = ap (λ (l : List ℕ). left_at new.ops.items (standing_of new) (length l)) (claims-longer setting.layout new.who ran.after.known over mine_now known ran.after.own all_new)

    held : left_of (state_after setting.layout history).claims old ≡ left_within ran.before
    held = ap (λ (l : List ℕ). left_at old.ops.items (standing_of old) (length l))
        (claims-same setting.layout old.who history ran.before.known over mine (follows history calls run)
        (prefix_trans ran.before.known seen over ran.before.earlier (prefix_trans seen seen_now over ran.grows within)) own ran.before.own)

shared-of : (setting : Setting) (run : ℕ) (history calls : List Event) (old new : ScriptCursor) (stopped : Bool) → IsCursorAt setting history old →
    TookPart setting run history (with_open history run ++ calls) old new stopped → HasShared setting run history calls old new stopped
shared-of setting run history calls old new _ at (had_retired mine retired same own all) = shared-retired setting run history calls mine old new at retired same own all
shared-of setting run history calls old new _ at (made_share seen seen_now mine mine_now ended own all within ran) =
    shared-made setting run history calls seen seen_now mine mine_now old new ended own all within ran

-- the scripts stay where each cursor's does
scripts-same : (old new : List ScriptCursor) → length new ≡ length old →
    ((k : ℕ) (c d : ScriptCursor) → slice_get old k ≡ Some c → slice_get new k ≡ Some d → d.ops ≡ c.ops) → scripts_of new ≡ scripts_of old
scripts-same [] [] many each = refl
scripts-same [] (d ∷ ds) many each = absurd (omega (arith, many))
scripts-same (c ∷ cs) [] many each = absurd (omega (arith, many))
scripts-same (c ∷ cs) (d ∷ ds) many each =
    ap (λ ops. ops.items ∷ scripts_of ds) (each 0 c d refl refl)
    ∙ ap (λ (rest : List (List Op)). c.ops.items ∷ rest) (scripts-same cs ds (omega (arith, many)) (λ k x y at to. each (suc k) x y at to))

-- no more calls are left together where no cursor has more left, and fewer where one has fewer
total-each : (one other : ℕ → List ℕ) (old new : List ScriptCursor) → length new ≡ length old →
    ((k : ℕ) (c d : ScriptCursor) → slice_get old k ≡ Some c → slice_get new k ≡ Some d → left_of other d ≤ left_of one c) → total_by other new ≤ total_by one old
total-each one other [] [] many each = omega arith
total-each one other [] (d ∷ ds) many each = absurd (omega (arith, many))
total-each one other (c ∷ cs) [] many each = absurd (omega (arith, many))
total-each one other (c ∷ cs) (d ∷ ds) many each =
    let here = each 0 c d refl refl in
    let later = total-each one other cs ds (omega (arith, many)) (λ k x y at to. each (suc k) x y at to) in
    omega (arith, here, later)

total-some : (one other : ℕ → List ℕ) (old new : List ScriptCursor) (k : ℕ) (c d : ScriptCursor) → length new ≡ length old →
    ((n : ℕ) (x y : ScriptCursor) → slice_get old n ≡ Some x → slice_get new n ≡ Some y → left_of other y ≤ left_of one x) →
    slice_get old k ≡ Some c → slice_get new k ≡ Some d → left_of other d < left_of one c → total_by other new < total_by one old
total-some one other [] new k c d many each at to fewer = absurd (cc)
total-some one other (x ∷ xs) [] k c d many each at to fewer = absurd (omega (arith, many))
total-some one other (x ∷ xs) (y ∷ ys) zero c d many each at to fewer =
    let from : x ≡ c = cc in
    let into : y ≡ d = cc in
    let here : left_of other y < left_of one x = subst (λ (w : ScriptCursor). left_of other w < left_of one x) (sym into) (subst (λ (w : ScriptCursor). left_of other d < left_of one w) (sym from) fewer) in
    let later = total-each one other xs ys (omega (arith, many)) (λ n v w at' to'. each (suc n) v w at' to') in
    omega (arith, here, later)
total-some one other (x ∷ xs) (y ∷ ys) (suc k) c d many each at to fewer =
    let here = each 0 x y refl refl in
    let later = total-some one other xs ys k c d (omega (arith, many)) (λ n v w at' to'. each (suc n) v w at' to') at to fewer in
    omega (arith, here, later)

-- what stands at a place of a list as long as another
found_beside : {X Y : Type 0} (xs : List X) (ys : List Y) (k : ℕ) (x : X) → length ys ≡ length xs → slice_get xs k ≡ Some x → (y : Y) × (slice_get ys k ≡ Some y)
found_beside xs ys k x many at =
    let below = slice_get_within xs k x at in
    elim (slice_get_cases ys k).1 [
      | inl there ↦ (there.0, there.2)
      | inr past ↦ absurd (let short = past.0 in omega (arith, short, many, below))
    ]

pub shares-make-part : SharesMakePart
shares-make-part setting run history part old new stopped settled are lawful all taken swept took = record {
  ran = record { begun = recorded_at setting opened; opened = opens; ran = ran };
  cursors = record {
    one_each = took.as_many ∙ are.one_each;
    each = λ k d to.
        let before = found_beside new old k d (sym took.as_many) to in
        let one = shared k before.0 d before.1 to in
        (one.who ∙ (are.each k before.0 before.1).0, one.cursor);
  };
  scripts = scripts-same old new took.as_many (λ k c d at to. (shared k c d at to).ops);
  left = total-each claims claims_now old new took.as_many (λ k c d at to. (shared k c d at to).left);
  fewer = λ some not_all.
      let one = one_fails (λ (c : ScriptCursor). c.retired) old not_all in
      let now = found_beside old new one.0 one.1 took.as_many one.2 in
      total-some claims claims_now old new one.0 one.1 now.0 took.as_many (λ k c d at to. (shared k c d at to).left) one.2 now.1
      ((shared one.0 one.1 now.0 one.2 now.1).fewer some one.3);
}
  where
    open_event : Event
    open_event = plain (Open (open_count history + 1) run)

    opened : List Event
    opened = with_open history run

    over : List Event
    over = opened ++ part

    claims : ℕ → List ℕ
    claims = (state_after setting.layout history).claims

    claims_now : ℕ → List ℕ
    claims_now = (state_after setting.layout over).claims

    opens : OpenedPart (recorded_at setting history) (recorded_at setting opened) run
    opens = OpenedPart-did (recorded_at setting history) (recorded_at setting opened) run (open_count history + 1) settled refl
        (state_after-push setting.layout history open_event) refl refl
        (count-push (λ e. is_begin e.entry) history open_event ∙ add-zero (begin_count history))
        (count-push (λ e. is_open e.entry) history open_event) refl

    so : AreSettledAfter setting opened over
    so = settled-part setting opened part opens.settled lawful all

    is_part : IsPartOf setting.layout opened part
    is_part = record {
      entries = all;
      calls = λ marks. AllPass-from_list_all (λ event. is_call event.entry) part
          (calls_where_marking setting.layout setting.shapes part opened lawful marks
          (list_all-from_AllPass (λ event. is_of_part event.entry) part all));
      taken = taken;
      swept = swept;
    }

    shared : (k : ℕ) (c d : ScriptCursor) → slice_get old k ≡ Some c → slice_get new k ≡ Some d → HasShared setting run history part c d (stopped k)
    shared k c d at to = shared-of setting run history part c d (stopped k) (are.each k c at).1 (took.each k c d at to)

    at_place : (who : ℕ) → who < setting.layout.mutators → (c : ScriptCursor) × (d : ScriptCursor) × (c.who ≡ who) × HasShared setting run history part c d (stopped who)
    at_place who below = elim (slice_get_cases old who).1 [
      | inl there ↦
          let now = found_beside old new who there.0 took.as_many there.2 in
          (there.0, now.0, (are.each who there.0 there.2).0, shared who there.0 now.0 there.2 now.1)
      | inr past ↦ absurd (let short = past.0 in let many = are.one_each in omega (arith, short, many, below))
    ]

    ran : RanPart (recorded_at setting opened) (recorded_at setting over) run (any_below stopped setting.layout.mutators)
    ran = record {
      settled = so.settled;
      same = refl;
      counts = record { cycles = so.cycles; parts = so.parts };
      part = part;
      history = refl;
      is_part = is_part;
      shares = λ who below.
          let one = at_place who below in
          subst (λ (w : ℕ). IsShare run (retry_of w opened) ((state_after setting.layout over).active w) (calls_of w part)) one.2 one.3.share;
      stops = any_below-same stopped (λ who. has_ended (retry_of who opened) (calls_of who part)) setting.layout.mutators
          (λ who below.
          let one = at_place who below in
          subst (λ (w : ℕ). stopped who ≡ has_ended (retry_of w opened) (calls_of w part)) one.2 one.3.stops);
    }
