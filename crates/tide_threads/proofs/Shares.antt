-- What participants did makes a part of a run.
use Rattle.std.proofs.Common.{ℕ, zero, suc, ◌≡◌, ◌+◌, ◌-◌, ◌<◌, ◌≤◌, ◌∙◌, refl, sym, ap, subst, arith, Bool, true, false, List, [], ◌∷◌, ◌++◌, inl, inr, ◌⊎◌}
use Rattle.std.proofs.lemmas.Bool.{cases_Bool}
use Rattle.std.proofs.lemmas.List.Sums.{AllPass-from_list_all}
use Rattle.std.proofs.lemmas.Option.{slice_get_cases}
use Rattle.std.specs.Prelude.{◌||◌, Err, IfOk, Some, Ok, Result, slice_get}
use Rattle.atomic_table.specs.Seated.{TableId}
use Rattle.crossbeam_utils.specs.Padded.{padded_value}
use Rattle.crossbeam_utils.specs.declared.cache_padded.CachePadded.{CachePadded}
use Rattle.tide_heap.specs.Parties.{In, IsParty}
use Rattle.tide_heap.specs.Turns.{Freezes, opened, ticket_of}
use Rattle.tide_heap.specs.tide_core.machine.World.{first_visitor}
use Rattle.tide_heap.specs.tide_core.declared.machine.view.View.{View}
use Rattle.tide_model.specs.Caller.{IsOwn}
use Rattle.tide_model.specs.History.{plain}
use Rattle.tide_model.specs.Layout.{Layout}
use Rattle.tide_model.specs.Lawful.{IsLawful}
use Rattle.tide_model.specs.Numbers.{any_below}
use Rattle.tide_model.specs.Refused.{ShapeLists}
use Rattle.tide_model.specs.Since.{is_of_part}
use Rattle.tide_model.specs.declared.Memory.{Memory}
use Rattle.tide_model.specs.declared.entry.Entry.TheVariants.{Open}
use Rattle.tide_model.specs.declared.entry.Event.{Event}
use Rattle.tide_mutator.specs.calls.Viewed.{view_of}
use Rattle.tide_periods.specs.Laws.{SharesMakePart, with_open}
use Rattle.tide_periods.specs.Own.{AllTookPart, RanOwnShare, TookPart}
use Rattle.tide_periods.specs.Part.{AreCursors, RanPartBy}
use Rattle.tide_periods.specs.Recorded.{IsSettled, recorded_at}
use Rattle.tide_periods.specs.Store.{Setting}
use Rattle.tide_periods.specs.declared.cursor.ScriptCursor.{ScriptCursor}
use Rattle.tide_heap.specs.declared.steps.notes.Note.{Note}
use Rattle.tide_table.specs.Standing.{StandsStill}
use Rattle.tide_threads.proofs.Acting.{cursor_at, cursors_many}
use Rattle.tide_threads.proofs.Standing.{seen_part}
use Rattle.tide_threads.proofs.Taking.{IsTold, TookNotes}
use Rattle.tide_threads.proofs.Turns.{AreParted-standing, Both-left, Both-right, StandsBy-frozen, TookTurn-did, mutator_in, visitor_in}
use Rattle.tide_threads.specs.Acting.{cursor_of, cursors_in, has_left}
use Rattle.tide_threads.specs.Playing.{AllServed, AllStandBy, Both, DidPart, GaveNote, HasDoneShare, MayHear, StandsBy, TookTurn, WasHanded}
use Rattle.tide_threads.specs.Playing.{WorkerStandsBy, ended_by, stopped_in}
use Rattle.tide_threads.specs.declared.participant.Participant.{Participant}
use Rattle.tide_threads.specs.declared.worker.Worker.{Worker}
use Rattle.tide_threads.specs.declared.worker.Worker.TheVariants.{Mutator, Visitor}

-- two answers that are the same
same_ok : (a b : Bool) (r : Result Bool Memory) → r ≡ Ok a → r ≡ Ok b → a ≡ b
same_ok a b r one other = ap ended_by (sym one ∙ other)

module _ (id : TableId) (layout : Layout) (shapes : ShapeLists) (v0 v1 v3 : View) (run : ℕ)
    (is_opened : v1 ≡ opened layout run v0) where
  abbrev here : Setting
  here = record { layout = layout; shapes = shapes }

  -- a mutator that had retired made no call
  took_none : (who : ℕ) (w u : Worker) (c d : ScriptCursor) → u ≡ w → cursor_of w ≡ Some c → cursor_of u ≡ Some d →
      WorkerStandsBy id layout v0 who w → WorkerStandsBy id layout v3 who u → has_left w ≡ true →
      TookPart here run v0.seen v3.seen c d false
  took_none who (Visitor o) u c d same is now by then left = absurd (cc)
  took_none who (Mutator o) u c d same is now by at_last left =
      let of_old : o.cursor ≡ c = (let e : Some o.cursor ≡ Some c = is in cc) in
      let of_new : d ≡ o.cursor = (let e : Some d ≡ Some o.cursor = sym now ∙ ap cursor_of same in cc) in
      let stands : WorkerStandsBy id layout v3 who (Mutator o) = subst (WorkerStandsBy id layout v3 who) same at_last in
      subst (λ (k : ScriptCursor). TookPart here run v0.seen v3.seen k d false) of_old
      (TookPart.had_retired (view_of o.mutator).mine left of_new
      (subst (λ (n : ℕ). IsOwn n v0.seen (view_of o.mutator).mine) (sym by.number) by.parked.own)
      (subst (λ (n : ℕ). IsOwn n v3.seen (view_of o.mutator).mine) (sym stands.number) stands.parked.own))

  -- one that hadn't made its share
  took_share : (who : ℕ) (w u : Worker) (c d : ScriptCursor) (note : Note) (ended : Bool) → cursor_of w ≡ Some c →
      cursor_of u ≡ Some d → WorkerStandsBy id layout v0 who w → WorkerStandsBy id layout v3 who u →
      HasDoneShare id layout shapes (ticket_of v1) w u note ended → TookPart here run v0.seen v3.seen c d ended
  took_share who (Mutator o) (Mutator p) c d note ended is now by at_last did =
      let of_old : o.cursor ≡ c = (let e : Some o.cursor ≡ Some c = is in cc) in
      let of_new : p.cursor ≡ d = (let e : Some p.cursor ≡ Some d = now in cc) in
      subst (λ (k : ScriptCursor). TookPart here run v0.seen v3.seen k d ended) of_old
      (subst (λ (k : ScriptCursor). TookPart here run v0.seen v3.seen o.cursor k ended) of_new
      (TookPart.made_share did.seen (view_of p.mutator).seen (view_of o.mutator).mine (view_of p.mutator).mine ended
      (subst (λ (n : ℕ). IsOwn n v0.seen (view_of o.mutator).mine) (sym by.number) by.parked.own)
      (subst (λ (n : ℕ). IsOwn n v3.seen (view_of p.mutator).mine) (sym by.number) at_last.parked.own)
      at_last.parked.seen
      (subst (λ (n : ℕ). RanOwnShare here n did.seen (view_of p.mutator).seen (view_of o.mutator).mine
      (view_of p.mutator).mine o.cursor p.cursor ended) (ap (λ (v : View). v.run) is_opened) did.ran)))
  took_share who (Visitor o) (Visitor p) c d note ended is now by at_last did = absurd (cc)
  took_share who (Mutator o) (Visitor p) c d note ended is now by at_last did = absurd did
  took_share who (Visitor o) (Mutator p) c d note ended is now by at_last did = absurd did

  -- one participant's part, from where it stood by to where it does again
  pub TookPart-turn : (who : ℕ) (x y z : Participant) (c d : ScriptCursor) (stopped : Bool) → cursor_of x.worker ≡ Some c →
      cursor_of z.worker ≡ Some d → StandsBy id layout v0 who x → TookTurn id layout shapes v1 x y → GaveNote y z →
      StandsBy id layout v3 who z → y.outcome ≡ Ok stopped → TookPart here run v0.seen v3.seen c d stopped
  TookPart-turn who x y z c d stopped is now by turn gave at_last served = elim (cases_Bool (has_left x.worker)) [
    | inl left ↦
        let rested = turn.rested left in
        let none : stopped ≡ false = same_ok stopped false y.outcome served rested.outcome in
        subst (TookPart here run v0.seen v3.seen c d) (sym none)
        (took_none who x.worker z.worker c d (ap (λ (p : Participant). p.worker) gave ∙ rested.worker) is now by.worker
        at_last.worker left)
    | inr active ↦
        let turned = turn.made active in
        let made = turned.2 in
        let same : turned.0 ≡ stopped = same_ok turned.0 stopped y.outcome turned.1 served in
        subst (TookPart here run v0.seen v3.seen c d) same
        (took_share who x.worker z.worker c d made.note turned.0 is now by.worker at_last.worker
        (subst (λ (w : Worker). HasDoneShare id layout shapes (ticket_of v1) x.worker w made.note turned.0)
        (sym (ap (λ (p : Participant). p.worker) gave)) made.did))
  ]

  -- a visitor never stops before its part is over
  pub visitor_stays : (who : ℕ) (x y : Participant) (stopped : Bool) → layout.mutators ≤ who → StandsBy id layout v0 who x →
      TookTurn id layout shapes v1 x y → y.outcome ≡ Ok stopped → stopped ≡ false
  visitor_stays who x y stopped past by turn served = elim (cases_Bool (has_left x.worker)) [
    | inl left ↦ same_ok stopped false y.outcome served (turn.rested left).outcome
    | inr active ↦
        let turned = turn.made active in
        let made = turned.2 in
        same_ok stopped turned.0 y.outcome served turned.1 ∙ stays x.worker y.worker made.note turned.0 by.worker made.did
  ]
    where
      stays : (w u : Worker) (note : Note) (ended : Bool) → WorkerStandsBy id layout v0 who w →
          HasDoneShare id layout shapes (ticket_of v1) w u note ended → ended ≡ false
      stays (Mutator o) (Mutator p) note ended b did = absurd (let below = b.is_mutator in omega (arith, below, past))
      stays (Visitor o) (Visitor p) note ended b did = did.stays
      stays (Mutator o) (Visitor p) note ended b did = absurd did
      stays (Visitor o) (Mutator p) note ended b did = absurd did

-- each party's note is in, or it has left
pub AllIn-turns : (id : TableId) (layout : Layout) (shapes : ShapeLists) (v0 v1 v2 : View) (run : ℕ) →
    v1 ≡ opened layout run v0 → TookNotes v1 v2 → (xs ys : List (CachePadded Participant)) → AllStandBy id layout v0 xs →
    Both (TookTurn id layout shapes v1) xs ys →
    ((who : ℕ) (y : CachePadded Participant) (note : Note) → slice_get ys who ≡ Some y →
    (padded_value y).note ≡ Some note → IsTold v2 note.seat.me.0) →
    (i : ℕ) → IsParty layout i → In i v2.notes ⊎ In i v2.gone
AllIn-turns id layout shapes v0 v1 v2 run is_opened taken xs ys by turns told i party = elim party [
  | inl below ↦ elim (slice_get_cases xs i).1 [
    | inl at ↦
        let y = Both-right (TookTurn id layout shapes v1) xs ys turns i at.0 at.2 in
        mutator_in id layout shapes v0 v1 v2 v2 run is_opened taken i (padded_value at.0) (padded_value y.0) below
        (by.each i at.0 at.2) y.2 (λ note out. told i y.0 note y.1 out)
    | inr past ↦ absurd (let short = past.0 in let many = by.one_each in omega (arith, short, many, below))
  ]
  | inr visitor ↦
      let over = visitor.0 in
      let under = visitor.1 in
      let is : first_visitor + (i - first_visitor) ≡ i = omega (arith, over) in
      let place = layout.mutators + (i - first_visitor) in
      inl (subst (λ (n : ℕ). In n v2.notes) is (elim (slice_get_cases xs place).1 [
        | inl at ↦
            let y = Both-right (TookTurn id layout shapes v1) xs ys turns place at.0 at.2 in
            visitor_in id layout shapes v0 v1 v2 v2 run is_opened taken (i - first_visitor) (padded_value at.0) (padded_value y.0)
            (by.each place at.0 at.2) y.2 (λ note out. told place y.0 note y.1 out)
        | inr past ↦ absurd (let short = past.0 in let many = by.one_each in omega (arith, short, many, over, under))
      ]))
]

or_none : (b : Bool) → (b || false) ≡ b
or_none true = refl
or_none false = refl

-- what a test says of numbers beyond some doesn't matter where each of those fails it
any_below-beyond : (test : ℕ → Bool) (from more : ℕ) → ((n : ℕ) → from ≤ n → n < from + more → test n ≡ false) →
    any_below test (from + more) ≡ any_below test from
any_below-beyond test from zero fails = ap (any_below test) (let same : from + 0 ≡ from = omega arith in same)
any_below-beyond test from (suc more) fails =
    ap (any_below test) (let same : from + suc more ≡ suc (from + more) = omega arith in same)
    ∙ ap (λ (b : Bool). any_below test (from + more) || b) (fails (from + more) (omega arith) (omega arith))
    ∙ or_none (any_below test (from + more))
    ∙ any_below-beyond test from more (λ n after below. fails n after (omega (arith, below)))

module _ (id : TableId) (layout : Layout) (shapes : ShapeLists) (v0 v1 v2 v3 : View) (run : ℕ)
    (still : StandsStill layout shapes v0) (is_opened : v1 ≡ opened layout run v0) (taken : TookNotes v1 v2)
    (freezes : Freezes layout shapes v2 v3) (xs ys zs : List (CachePadded Participant)) (by : AllStandBy id layout v0 xs)
    (turns : Both (TookTurn id layout shapes v1) xs ys) (gave : Both GaveNote ys zs)
    (told : (who : ℕ) (y : CachePadded Participant) (note : Note) → slice_get ys who ≡ Some y →
    (padded_value y).note ≡ Some note → IsTold v2 note.seat.me.0) where
  -- all stand by again
  pub AllStandBy-frozen : AllStandBy id layout v3 zs
  AllStandBy-frozen = record {
    one_each = gave.as_many ∙ turns.as_many ∙ by.one_each;
    each = λ who z at_z.
        let y = Both-left GaveNote ys zs gave who z at_z in
        let x = Both-left (TookTurn id layout shapes v1) xs ys turns who y.0 y.1 in
        StandsBy-frozen id layout shapes v0 v1 v2 v3 run is_opened taken freezes who (padded_value x.0) (padded_value y.0)
        (padded_value z) (by.each who x.0 x.1) x.2 (λ note out. told who y.0 note y.1 out) y.2;
  }

  abbrev setting : Setting
  setting = record { layout = layout; shapes = shapes }

  took_part : (ended : Bool) → AllServed ys ended →
      AllTookPart setting run v0.seen v3.seen (cursors_in xs) (cursors_in zs) (stopped_in ys)
  took_part ended served = record {
    as_many = cursors_many layout.mutators zs (AreParted-standing id layout v3 zs AllStandBy-frozen)
        (let many = AllStandBy-frozen.one_each in omega (arith, many))
        ∙ sym (cursors_many layout.mutators xs (AreParted-standing id layout v0 xs by) (let many = by.one_each in omega (arith, many)));
    each = λ who c d at at'.
        let x = cursor_at layout.mutators xs (AreParted-standing id layout v0 xs by) who c at in
        let z = cursor_at layout.mutators zs (AreParted-standing id layout v3 zs AllStandBy-frozen) who d at' in
        let y = Both-left GaveNote ys zs gave who z.0 z.1 in
        TookPart-turn id layout shapes v0 v1 v3 run is_opened who (padded_value x.0) (padded_value y.0) (padded_value z.0) c d
        (stopped_in ys who) x.2 z.2 (by.each who x.0 x.1) (turns.each who x.0 y.0 x.1 y.1) y.2
        (AllStandBy-frozen.each who z.0 z.1) (served.served who y.0 y.1);
  }

  -- the part was run by these cursors
  pub RanPartBy-frozen : SharesMakePart → (ended : Bool) → AllServed ys ended → IsSettled (recorded_at setting v0.seen) →
      AreCursors (recorded_at setting v0.seen) (cursors_in xs) →
      RanPartBy (recorded_at setting v0.seen) (recorded_at setting v3.seen) run (cursors_in xs) (cursors_in zs) ended
  RanPartBy-frozen law ended served settled are =
      subst (λ (h : List Event). RanPartBy (recorded_at setting v0.seen) (recorded_at setting h) run (cursors_in xs)
      (cursors_in zs) ended) (sym whole)
      (subst (RanPartBy (recorded_at setting v0.seen) (recorded_at setting (with_open v0.seen run ++ freezes.part)) run
      (cursors_in xs) (cursors_in zs)) (sym is_ended)
      (law setting run v0.seen freezes.part (cursors_in xs) (cursors_in zs) (stopped_in ys) settled are
      (subst (IsLawful layout shapes) whole
      (subst (IsLawful layout shapes) (sym (ap (λ (x : View). x.seen) freezes.view)) freezes.wave.lawful))
      (AllPass-from_list_all (λ (e : Event). is_of_part e.entry) freezes.part freezes.of_part) freezes.taken freezes.swept
      (subst (λ (h : List Event). AllTookPart setting run v0.seen h (cursors_in xs) (cursors_in zs) (stopped_in ys)) whole
      (took_part ended served))))
    where
      whole : v3.seen ≡ with_open v0.seen run ++ freezes.part
      whole = seen_part layout shapes v0 v1 v2 v3 run still is_opened taken freezes
          ∙ ap (λ (n : ℕ). (v0.seen ++ plain (Open (n + 1) run) ∷ []) ++ freezes.part) still.period

      is_ended : ended ≡ any_below (stopped_in ys) layout.mutators
      is_ended = served.stopped ∙ ap (any_below (stopped_in ys)) (turns.as_many ∙ by.one_each)
          ∙ any_below-beyond (stopped_in ys) layout.mutators layout.visitors (λ who past below.
          elim (slice_get_cases ys who).1 [
            | inl at ↦
                let x = Both-left (TookTurn id layout shapes v1) xs ys turns who at.0 at.2 in
                visitor_stays id layout shapes v0 v1 v3 run is_opened who (padded_value x.0) (padded_value at.0) (stopped_in ys who) past
                (by.each who x.0 x.1) x.2 (served.served who at.0 at.2)
            | inr over ↦ absurd (let short = over.0 in let many = by.one_each in let same = turns.as_many in
                omega (arith, short, many, same, below))
          ])

-- where memory served all, each took part
pub Both-turns : (id : TableId) (layout : Layout) (shapes : ShapeLists) (v1 : View) (xs ys zs : List (CachePadded Participant)) →
    ((who : ℕ) (x : CachePadded Participant) → slice_get xs who ≡ Some x → MayHear id layout shapes v1 (padded_value x)) →
    Both (WasHanded id v1) xs ys → Both (DidPart id layout shapes) ys zs → (r : Result Bool Memory) →
    IfOk r (AllServed zs) → IfOk r (λ ended. Both (TookTurn id layout shapes v1) xs zs)
Both-turns id layout shapes v1 xs ys zs may handed did (Ok ended) served = record {
  as_many = did.as_many ∙ handed.as_many;
  each = λ who x z at_x at_z. let y = Both-right (WasHanded id v1) xs ys handed who x at_x in
      TookTurn-did id layout shapes v1 (padded_value x) (padded_value y.0) (padded_value z) (stopped_in zs who)
      (may who x at_x) y.2 (did.each who y.0 z y.1 at_z) (served.served who z at_z);
}
Both-turns id layout shapes v1 xs ys zs may handed did (Err memory) served = tt
