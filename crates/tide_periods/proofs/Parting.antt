-- How a part grows by one mutator's calls.
use Rattle.std.proofs.Common.{ℕ, zero, suc, ◌≡◌, ◌≢◌, ◌<◌, refl, sym, ◌∙◌, ap, subst, arith, Bool, true, false, List, [], ◌++◌, length, append_assoc, append-nil}
use Rattle.std.proofs.lemmas.Bool.{eqb-true, eqb-false}
use Rattle.std.proofs.lemmas.List.{get_or-set_same, get_or-set_other, length-set}
use Rattle.std.proofs.lemmas.List.Elements.{All-append, All-nil, All-weaker}
use Rattle.std.proofs.lemmas.List.Sums.{list_all-from_AllPass}
use Rattle.std.specs.List.{AllPass}
use Rattle.std.proofs.lemmas.Option.{slice_get-get_or, slice_get_within, get_or_from_slice_get}
use Rattle.std.proofs.Math.ListN.{set}
use Rattle.std.specs.Prelude.{Option, Some, map, slice_get, ◌==◌, ◌||◌}
use Rattle.tide_model.specs.declared.op.Op.{Op}
use Rattle.tide_model.specs.declared.op.Reply.{Reply}
use Rattle.tide_model.specs.declared.entry.Entry.{Entry}
use Rattle.tide_model.specs.declared.entry.Entry.TheVariants.{Call, Begin, Pause, Visits, End, Taken, Sweep, Open}
use Rattle.tide_model.specs.declared.entry.Event.{Event}
use Rattle.tide_model.specs.History.{is_call_of, state_after}
use Rattle.tide_model.specs.Numbers.{any_below}
use Rattle.tide_model.specs.Script.{retry_of}
use Rattle.tide_model.specs.Script.{calls_of, retry_after_all}
use Rattle.tide_model.specs.Share.{IsShare, has_ended}
use Rattle.tide_model.specs.Layout.{Layout}
use Rattle.tide_model.specs.Since.{is_call, is_of_part, is_sweep, is_taken}
use Rattle.tide_model.proofs.DeadLaws.{SweptWereTaken-calls, TakenAreSwept-calls}
use Rattle.tide_model.proofs.Histories.{calls_of-append}
use Rattle.tide_periods.specs.declared.cursor.ScriptCursor.{ScriptCursor}
use Rattle.tide_periods.specs.Answered.{pair_of}
use Rattle.tide_periods.specs.Asking.{IsCursor, IsMutatorAt, Standing, standing_of}
use Rattle.tide_periods.proofs.PartLoops.{IsPartway}
use Rattle.tide_periods.specs.Part.{AreCursors, IsPartOf, RanShare}
use Rattle.tide_periods.specs.Store.{Setting}
use Rattle.tide_periods.specs.Recorded.{IsSettled, Recorded}
use Rattle.tide_periods.proofs.Quiet.{IsMutatorAt-quiet, active_after-quiet, calls_of-others}
use Rattle.tide_model.proofs.OwnCalls.{IsShare-by, retry_of-events}

-- what is called of one's own is a call
is_call-own : (who : ℕ) (entry : Entry) → is_call_of who entry ≡ true → is_call entry ≡ true
is_call-own who (Call w op reply) of = refl
is_call-own who (Begin cycle full) of = absurd (cc)
is_call-own who (Pause visits) of = absurd (cc)
is_call-own who (Visits w visits) of = absurd (cc)
is_call-own who (End cycle freed) of = absurd (cc)
is_call-own who (Taken block) of = absurd (cc)
is_call-own who (Sweep block) of = absurd (cc)
is_call-own who (Open number run) of = absurd (cc)

-- tests that agree below a bound
pub any_below-same : (one other : ℕ → Bool) (n : ℕ) → ((k : ℕ) → k < n → one k ≡ other k) → any_below one n ≡ any_below other n
any_below-same one other zero same = refl
any_below-same one other (suc n) same =
    let here = same n (omega arith) in
    ap (λ (b : Bool). b || one n) (any_below-same one other n (λ k below. same k (omega arith))) ∙ ap (λ (b : Bool). any_below other n || b) here

-- calls alone are a part
pub IsPartOf-calls : (layout : Layout) (before part : List Event) → AllPass (λ event. is_call event.entry) part →
    IsPartOf layout before part
IsPartOf-calls layout before part calls = record {
  entries = All-weaker (λ event. is_call event.entry ≡ true) (λ event. is_of_part event.entry ≡ true)
      (λ event is. ap (λ (b : Bool). b || (is_taken event.entry || is_sweep event.entry)) is) part calls;
  calls = λ marks. calls;
  taken = TakenAreSwept-calls part (list_all-from_AllPass (λ event. is_call event.entry) part calls);
  swept = SweptWereTaken-calls part (list_all-from_AllPass (λ event. is_call event.entry) part calls);
}

-- no mutator made a call yet
pub IsPartway-nothing : (old : Recorded) (run : ℕ) → IsSettled old → IsPartway old old run 0 false
IsPartway-nothing old run settled = record {
  settled = settled;
  same = refl;
  counts = record { cycles = refl; parts = refl };
  part = [];
  history = sym (append-nil old.history);
  calls = All-nil (λ event. is_call event.entry ≡ true);
  is_part = IsPartOf-calls old.setting.layout old.history [] (All-nil (λ event. is_call event.entry ≡ true));
  shares = λ who below. absurd (omega arith);
  none = λ who above. refl;
  stops = refl;
}

-- one mutator more
pub IsPartway-share : (old now new : Recorded) (run count : ℕ) (ended stopped : Bool) → IsPartway old now run count ended → RanShare now new run count stopped →
    IsPartway old new run (suc count) (ended || stopped)
IsPartway-share old now new run count ended stopped way ran = record {
  settled = ran.settled;
  same = ran.same ∙ way.same;
  counts = record { cycles = ran.counts.cycles ∙ way.counts.cycles; parts = ran.counts.parts ∙ way.counts.parts };
  part = way.part ++ ran.events;
  history = ran.history ∙ ap (λ (h : List Event). h ++ ran.events) way.history ∙ append_assoc old.history way.part ran.events;
  calls = calls;
  is_part = IsPartOf-calls old.setting.layout old.history (way.part ++ ran.events) calls;
  shares = λ who below. share who (who == count) refl below;
  none = λ who above. calls_of-append who way.part ran.events
      ∙ ap (λ (mine : List (Op × Reply)). mine ++ calls_of who ran.events) (way.none who (omega arith))
      ∙ calls_of-others who count ran.events (λ same. omega (arith, same, above)) ran.own;
  stops = ap (λ (b : Bool). b || stopped) way.stops
      ∙ ap (λ (b : Bool). any_below (λ who. has_ended (retry_of who old.history) (calls_of who way.part)) count || b) ran.stops
      ∙ ap (λ (b : Bool). b || has_ended (retry_of count now.history) (calls_of count ran.events))
      (any_below-same (λ who. has_ended (retry_of who old.history) (calls_of who way.part)) (λ who. has_ended (retry_of who old.history) (calls_of who (way.part ++ ran.events))) count
      (λ who below. ap (has_ended (retry_of who old.history)) (sym (of_others who below))))
      ∙ ap (λ (b : Bool). any_below (λ who. has_ended (retry_of who old.history) (calls_of who (way.part ++ ran.events))) count || b)
      (ap (λ (r : Option Op). has_ended r (calls_of count ran.events)) still ∙ ap (has_ended (retry_of count old.history)) (sym of_own));
}
  where
    calls : AllPass (λ event. is_call event.entry) (way.part ++ ran.events)
    calls = All-append (λ event. is_call event.entry ≡ true) way.part ran.events way.calls
        (All-weaker (λ event. is_call_of count event.entry ≡ true) (λ event. is_call event.entry ≡ true) (λ event of. is_call-own count event.entry of) ran.events ran.own)

    of_others : (who : ℕ) → who < count → calls_of who (way.part ++ ran.events) ≡ calls_of who way.part
    of_others who below = calls_of-append who way.part ran.events
        ∙ ap (λ (more : List (Op × Reply)). calls_of who way.part ++ more) (calls_of-others who count ran.events (λ same. omega (arith, same, below)) ran.own)
        ∙ append-nil (calls_of who way.part)

    of_own : calls_of count (way.part ++ ran.events) ≡ calls_of count ran.events
    of_own = calls_of-append count way.part ran.events ∙ ap (λ (mine : List (Op × Reply)). mine ++ calls_of count ran.events) (way.none count (omega arith))

    still : retry_of count now.history ≡ retry_of count old.history
    still = ap (retry_of count) way.history ∙ retry_of-events count old.history way.part
        ∙ ap (λ (calls : List (Op × Reply)). retry_after_all (retry_of count old.history) calls) (way.none count (omega arith))

    active_same : (who : ℕ) → who ≢ count → (state_after now.setting.layout now.history).active who ≡ (state_after new.setting.layout new.history).active who
    active_same who apart = sym (
        ap (λ (s : Setting). (state_after s.layout new.history).active who) ran.same
        ∙ ap (λ (h : List Event). (state_after now.setting.layout h).active who) ran.history
        ∙ active_after-quiet now.setting.layout now.history ran.events who (calls_of-others who count ran.events apart ran.own))

    share : (who : ℕ) (same : Bool) → (who == count) ≡ same → who < suc count →
        IsShare run (retry_of who old.history) ((state_after new.setting.layout new.history).active who) (calls_of who (way.part ++ ran.events))
    share who true e below =
        let is = eqb-true who count e in
        subst (λ (w : ℕ). IsShare run (retry_of w old.history) ((state_after new.setting.layout new.history).active w) (calls_of w (way.part ++ ran.events))) (sym is)
        (IsShare-by run (retry_of count now.history) (retry_of count old.history) ((state_after new.setting.layout new.history).active count)
        ((state_after new.setting.layout new.history).active count) (calls_of count ran.events) (calls_of count (way.part ++ ran.events)) still refl (sym of_own) ran.share)
    share who false e below =
        let apart = eqb-false who count e in
        let less : who < count = omega (arith, apart, below) in
        IsShare-by run (retry_of who old.history) (retry_of who old.history) ((state_after now.setting.layout now.history).active who)
        ((state_after new.setting.layout new.history).active who) (calls_of who way.part) (calls_of who (way.part ++ ran.events)) refl
        (active_same who apart) (sym (of_others who less)) (way.shares who less)

-- a mutator is as far as it was where it made no call
pub IsMutatorAt-same : (now new : Recorded) (events : List Event) (who : ℕ) (ops : List Op) (standing : Standing) (calls : List (Op × Reply)) → new.setting ≡ now.setting →
    new.history ≡ now.history ++ events → calls_of who events ≡ [] → IsMutatorAt now.setting now.history who ops standing calls → IsMutatorAt new.setting new.history who ops standing calls
IsMutatorAt-same now new events who ops standing calls same history quiet at =
    subst (λ (s : Setting). IsMutatorAt s new.history who ops standing calls) (sym same)
    (subst (λ (h : List Event). IsMutatorAt now.setting h who ops standing calls) (sym history)
    (IsMutatorAt-quiet now.setting now.history events who ops standing calls quiet at))

-- another mutator's share leaves a mutator as far as it was
pub IsMutatorAt-others : (now new : Recorded) (run who other : ℕ) (stopped : Bool) (ops : List Op) (standing : Standing) (calls : List (Op × Reply)) → who ≢ other →
    RanShare now new run other stopped → IsMutatorAt now.setting now.history who ops standing calls → IsMutatorAt new.setting new.history who ops standing calls
IsMutatorAt-others now new run who other stopped ops standing calls apart ran at =
    IsMutatorAt-same now new ran.events who ops standing calls ran.same ran.history (calls_of-others who other ran.events apart ran.own) at

-- the cursors stand where they stood, after entries of which none is a call
pub AreCursors-same : (now new : Recorded) (cursors : List ScriptCursor) (events : List Event) → new.setting ≡ now.setting → new.history ≡ now.history ++ events →
    ((who : ℕ) → calls_of who events ≡ []) → AreCursors now cursors → AreCursors new cursors
AreCursors-same now new cursors events same history quiet are = record {
  one_each = are.one_each ∙ ap (λ (s : Setting). s.layout.mutators) (sym same);
  each = λ k c found.
      let known = are.each k c found in
      (known.0, IsMutatorAt-same now new events c.who c.ops.items (standing_of c) (map pair_of c.calls.items) same history (quiet c.who) known.1);
}

-- the cursors after one of them made its calls
pub AreCursors-share : (now new : Recorded) (cursors : List ScriptCursor) (run at : ℕ) (stopped : Bool) (cursor : ScriptCursor) → AreCursors now cursors → at < length cursors →
    RanShare now new run at stopped → cursor.who ≡ at → IsCursor new cursor → AreCursors new (set cursors at cursor)
AreCursors-share now new cursors run at stopped cursor are below ran who is = record {
  one_each = length-set cursors at cursor ∙ are.one_each ∙ ap (λ (s : Setting). s.layout.mutators) (sym ran.same);
  each = λ k c found. step k c (k == at) refl found;
}
  where
    step : (k : ℕ) (c : ScriptCursor) (same : Bool) → (k == at) ≡ same → slice_get (set cursors at cursor) k ≡ Some c → (c.who ≡ k) × IsCursor new c
    step k c true e found =
        let here = eqb-true k at e in
        let within : at < length (set cursors at cursor) = subst (λ (n : ℕ). at < n) (sym (length-set cursors at cursor)) below in
        let both : Some cursor ≡ Some c = sym (ap (slice_get (set cursors at cursor)) here ∙ slice_get-get_or (set cursors at cursor) at cursor within
        ∙ ap Some (get_or-set_same cursors at cursor cursor below)) ∙ found in
        let one : cursor ≡ c = cc in
        subst (λ (x : ScriptCursor). (x.who ≡ k) × IsCursor new x) one (who ∙ sym here, is)
    step k c false e found =
        let apart = eqb-false k at e in
        let within : k < length cursors = subst (λ (n : ℕ). k < n) (length-set cursors at cursor) (slice_get_within (set cursors at cursor) k c found) in
        let old : slice_get cursors k ≡ Some c = slice_get-get_or cursors k c within
        ∙ ap Some (sym (get_or-set_other cursors at k cursor c apart) ∙ get_or_from_slice_get (set cursors at cursor) k c c found) in
        let known = are.each k c old in
        (known.0, IsMutatorAt-others now new run c.who at stopped c.ops.items (standing_of c) (map pair_of c.calls.items) (λ same. apart (sym known.0 ∙ same)) ran known.1)
