-- What participants did in a part, one by one: from their tickets to their notes, and parked again.
use Rattle.std.proofs.Common.{ℕ, zero, suc, ◌≡◌, ◌<◌, ◌≤◌, ◌+◌, ◌∙◌, refl, sym, ap, subst, arith, Bool, true, false, List, [], ◌∷◌, ◌++◌, inl, inr, ◌⊎◌}
use Rattle.std.proofs.lemmas.Bool.{cases_Bool}
use Rattle.std.proofs.lemmas.List.Elements.{Contains-append_cases, Contains-append_right}
use Rattle.std.proofs.lemmas.Option.{slice_get_cases, slice_get_within}
use Rattle.std.specs.Prelude.{Contains, None, Option, Some, Ok, Result, filter, if◌then◌else◌, slice_get}
use Rattle.atomic_table.specs.Seated.{TableId}
use Rattle.crossbeam_utils.specs.Padded.{padded_value}
use Rattle.crossbeam_utils.specs.declared.cache_padded.CachePadded.{CachePadded}
use Rattle.tide_heap.specs.Parties.{In}
use Rattle.tide_heap.specs.Turns.{Freezes, calls_of, open_entry, opened, ticket_of}
use Rattle.tide_heap.specs.tide_layout.Limits.{IsWithinLimits}
use Rattle.tide_heap.specs.tide_core.machine.World.{first_visitor}
use Rattle.tide_heap.specs.tide_core.declared.machine.view.NotedCalls.{NotedCalls}
use Rattle.tide_heap.specs.tide_core.declared.machine.view.View.{View}
use Rattle.tide_model.specs.Layout.{Layout, cell_count}
use Rattle.tide_model.specs.Prefix.{IsPrefix, prefix_push}
use Rattle.tide_model.specs.Caller.{IsOwn}
use Rattle.tide_model.specs.Refused.{ShapeLists}
use Rattle.tide_model.specs.declared.Memory.{Memory}
use Rattle.tide_model.specs.declared.entry.Event.{Event}
use Rattle.tide_mutator.specs.calls.Viewed.{view_of}
use Rattle.tide_periods.specs.Asking.{IsCursorAt}
use Rattle.tide_periods.specs.declared.cursor.ScriptCursor.{ScriptCursor}
use Rattle.tide_heap.specs.declared.steps.notes.Note.{Note}
use Rattle.tide_heap.specs.declared.steps.notes.Ticket.{Ticket}
use Rattle.tide_table.specs.Standing.{StandsStill}
use Rattle.tide_threads.proofs.Acting.{AreParted, IsParted}
use Rattle.tide_threads.proofs.Parking.{IsParked-left, IsParked-played}
use Rattle.tide_threads.proofs.Taking.{IsNoted-told, IsTold, TookNotes}
use Rattle.tide_threads.proofs.Visits.{TellsAt}
use Rattle.tide_threads.specs.Acting.{cursor_of, has_left, told_in}
use Rattle.tide_table.specs.VisitsTold.{most_visits}
use Rattle.tide_threads.specs.Parked.{HasLeft, HasPlayed, IsParked}
use Rattle.tide_threads.specs.Playing.{AllStandBy, Both, DidPart, GaveNote, HasDoneShare, HasMadePart, MayBeginPart, IsTicketOf, MayHear}
use Rattle.tide_threads.specs.Playing.{MayPlay, MayTake, StandsBy, TookTurn, WasHanded, WorkerStandsBy}
use Rattle.tide_threads.specs.declared.participant.Participant.{Participant}
use Rattle.tide_threads.specs.declared.worker.Worker.{Worker}
use Rattle.tide_threads.specs.declared.worker.Worker.TheVariants.{Mutator, Visitor}

-- the element of the first of two lists beside one of the second
pub Both-left : (holds : Participant → Participant → Type 0) (xs ys : List (CachePadded Participant)) → Both holds xs ys →
    (who : ℕ) (y : CachePadded Participant) → slice_get ys who ≡ Some y →
    (x : CachePadded Participant) × (slice_get xs who ≡ Some x) × holds (padded_value x) (padded_value y)
Both-left holds xs ys both who y found = elim (slice_get_cases xs who).1 [
  | inl at ↦ (at.0, at.2, both.each who at.0 y at.2 found)
  | inr past ↦ absurd (let within = slice_get_within ys who y found in let many = both.as_many in let short = past.0 in
      omega (arith, within, many, short))
]

-- and of the second beside one of the first
pub Both-right : (holds : Participant → Participant → Type 0) (xs ys : List (CachePadded Participant)) → Both holds xs ys →
    (who : ℕ) (x : CachePadded Participant) → slice_get xs who ≡ Some x →
    (y : CachePadded Participant) × (slice_get ys who ≡ Some y) × holds (padded_value x) (padded_value y)
Both-right holds xs ys both who x found = elim (slice_get_cases ys who).1 [
  | inl at ↦ (at.0, at.2, both.each who x at.0 found at.2)
  | inr past ↦ absurd (let within = slice_get_within xs who x found in let many = both.as_many in let short = past.0 in
      omega (arith, within, many, short))
]

-- what holds one after the other
pub Both-chain : (one other all : Participant → Participant → Type 0) (xs ys zs : List (CachePadded Participant)) →
    ((x y z : Participant) → one x y → other y z → all x z) → Both one xs ys → Both other ys zs → Both all xs zs
Both-chain one other all xs ys zs step first second = record {
  as_many = second.as_many ∙ first.as_many;
  each = λ who x z at_x at_z. let y = Both-left other ys zs second who z at_z in
      step (padded_value x) (padded_value y.0) (padded_value z) (first.each who x y.0 at_x y.1) y.2;
}

-- what stands in a list and passes a test stands in what the test leaves
Contains-filter_in : {X : Type 0} (test : X → Bool) (xs : List X) (y : X) → Contains xs y → test y ≡ true →
    Contains (filter test xs) y
Contains-filter_in test [] y a is = absurd (let below = a.1 in omega (arith, below))
Contains-filter_in {X} test (x ∷ xs) y a is = elim (Contains-append_cases (x ∷ []) xs y a) [
  | inl here ↦ first (test x) (only here) (ap test (only here) ∙ is)
  | inr later ↦ more (test x) (Contains-filter_in test xs y later is)
]
  where
    only : Contains (x ∷ []) y → x ≡ y
    only (zero, below, same) = same
    only (suc k, below, same) = absurd (omega (arith, below))

    first : (b : Bool) → x ≡ y → b ≡ true → Contains (if b then x ∷ filter test xs else filter test xs) y
    first true same e = (zero, omega arith, same)
    first false same e = absurd (cc)

    more : (b : Bool) → Contains (filter test xs) y → Contains (if b then x ∷ filter test xs else filter test xs) y
    more true c = Contains-append_right (x ∷ []) (filter test xs) y c
    more false c = c

-- a ticket and no ticket are apart
pub ticket_clash : (ticket : Ticket) (o : Option Ticket) → o ≡ Some ticket → o ≡ None → ⊥
ticket_clash ticket o some none = (let e : Some ticket ≡ None = sym some ∙ none in cc)

pub ticket_same : (one other : Ticket) (o : Option Ticket) → o ≡ Some one → o ≡ Some other → one ≡ other
ticket_same one other o first second = (let e : Some one ≡ Some other = sym first ∙ second in cc)

-- the answer that is kept says nothing of the rest
pub HasMadePart-outcome : (id : TableId) (layout : Layout) (shapes : ShapeLists) (t : View) (w : Worker) (z : Participant)
    (outcome : Result Bool Memory) (ended : Bool) → HasMadePart id layout shapes t w z ended →
    HasMadePart id layout shapes t w (record z { outcome = outcome }) ended
HasMadePart-outcome id layout shapes t w z outcome ended made =
    record { note = made.note; is_out = made.is_out; did = made.did }

note_clash : (note : Note) (o : Option Note) → o ≡ Some note → o ≡ None → ⊥
note_clash note o some none = (let e : Some note ≡ None = sym some ∙ none in cc)

-- whoever acts at a place, as mutators come first
IsParted-standing : (id : TableId) (layout : Layout) (v : View) (at : ℕ) (w : Worker) → WorkerStandsBy id layout v at w →
    IsParted layout.mutators at w
IsParted-standing id layout v at (Mutator x) by = by.is_mutator
IsParted-standing id layout v at (Visitor x) by = (let place = by.place in omega (arith, place))

pub AreParted-standing : (id : TableId) (layout : Layout) (v : View) (xs : List (CachePadded Participant)) →
    AllStandBy id layout v xs → AreParted layout.mutators xs
AreParted-standing id layout v xs by at x found =
    IsParted-standing id layout v at (padded_value x).worker (by.each at x found).worker

module _ (id : TableId) (layout : Layout) (shapes : ShapeLists) where
  -- with a ticket of the part that was opened whoever stands by may begin it
  ready_by : (v0 v1 : View) (run at : ℕ) (w : Worker) → StandsStill layout shapes v0 → v1 ≡ opened layout run v0 →
      WorkerStandsBy id layout v0 at w →
      ((c : ScriptCursor) → cursor_of w ≡ Some c → IsCursorAt (record { layout = layout; shapes = shapes }) v0.seen c) →
      has_left w ≡ false → (ticket : Ticket) → IsTicketOf id v1 ticket → MayBeginPart id layout shapes ticket w
  ready_by v0 v1 run at (Mutator x) still is_opened by knows active ticket of =
      let period : ticket.seat.me.0.period ≡ v0.period + 1 = ap (λ (v : View). v.period) of.tells
      ∙ ap (λ (v : View). v.period) is_opened in
      let seen : ticket.seat.me.0.seen ≡ v0.seen ++ open_entry run v0 ∷ [] = ap (λ (v : View). v.seen) of.tells
      ∙ ap (λ (v : View). v.seen) is_opened in
      record {
        table = by.table;
        of_heap = of.of_heap;
        is_mutator = subst (λ (n : ℕ). n < layout.mutators) (sym by.parked.is) by.is_mutator;
        rests = by.parked.rests;
        stays = by.parked.left ∙ active;
        period = (let last = by.parked.period in omega (arith, last, period));
        begun = (let last = by.parked.begun in omega (arith, last, period));
        number = by.number ∙ sym by.parked.is;
        active = active;
        knows = record {
          known = v0.seen;
          earlier = subst (λ (h : List Event). IsPrefix v0.seen h) (sym seen) (prefix_push v0.seen (open_entry run v0));
          lawful = still.wave.lawful;
          own = subst (λ (n : ℕ). IsOwn n v0.seen (view_of x.mutator).mine) (sym by.number) by.parked.own;
          at = knows x.cursor refl;
        };
      }
  ready_by v0 v1 run at (Visitor x) still is_opened by knows active ticket of =
      let period : ticket.seat.me.0.period ≡ v0.period + 1 = ap (λ (v : View). v.period) of.tells
      ∙ ap (λ (v : View). v.period) is_opened in
      let who = by.rests.is in
      let below = by.is_visitor in
      record {
        table = by.table;
        of_heap = of.of_heap;
        is_visitor = record { is_visitor = omega (arith, who); within = omega (arith, who, below) };
        rests = by.rests.rests;
        period = (let last = by.rests.period in omega (arith, last, period));
        room = by.room;
      }

  pub MayHear-opened : (v0 v1 : View) (run at : ℕ) (x : Participant) → StandsStill layout shapes v0 →
      v1 ≡ opened layout run v0 → StandsBy id layout v0 at x →
      ((c : ScriptCursor) → cursor_of x.worker ≡ Some c →
      IsCursorAt (record { layout = layout; shapes = shapes }) v0.seen c) → MayHear id layout shapes v1 x
  MayHear-opened v0 v1 run at x still is_opened by knows = record {
    no_ticket = by.no_ticket;
    ready = ready_by v0 v1 run at x.worker still is_opened by.worker knows;
  }

  -- whoever got a ticket, if there was one, may play
  pub MayPlay-handed : (v1 : View) (x y : Participant) → MayHear id layout shapes v1 x → WasHanded id v1 x y →
      MayPlay id layout shapes y
  MayPlay-handed v1 x y may handed ticket has = elim (cases_Bool (has_left x.worker)) [
    | inl left ↦ absurd (ticket_clash ticket y.ticket has (handed.left left ∙ may.no_ticket))
    | inr active ↦
        let given = handed.ticket active in
        let same : ticket ≡ given.0 = (let e : Some ticket ≡ Some given.0 = sym has ∙ given.1 in cc) in
        let ready = may.ready active ticket (subst (IsTicketOf id v1) (sym same) given.2) in
        subst (MayBeginPart id layout shapes ticket) (sym handed.worker) ready
  ]

  -- from the tickets handed out to the parts done
  pub TookTurn-did : (v1 : View) (x y z : Participant) (ended : Bool) → MayHear id layout shapes v1 x →
      WasHanded id v1 x y → DidPart id layout shapes y z → z.outcome ≡ Ok ended → TookTurn id layout shapes v1 x z
  TookTurn-did v1 x y z ended may handed did served = record {
    no_ticket = did.no_ticket;
    rested = λ left. let rested = did.rested (handed.left left ∙ may.no_ticket) in record {
      worker = rested.worker ∙ handed.worker;
      note = rested.note ∙ handed.note;
      outcome = rested.outcome;
    };
    made = λ active.
        let given = handed.ticket active in
        let made = did.made given.0 given.1 ended served in (
          ended,
          served,
          subst (λ (w : Worker). HasMadePart id layout shapes (ticket_of v1) w z ended) handed.worker
              (subst (λ (t : View). HasMadePart id layout shapes t y.worker z ended) given.2.tells made),
        );
  }

  -- the note that is out after a part may be taken in
  may_take : (v1 : View) (x y : Worker) (note : Note) (ended : Bool) →
      HasDoneShare id layout shapes (ticket_of v1) x y note ended → MayTake id v1.period note
  may_take v1 (Mutator x) (Mutator y) note ended did = record { of_heap = did.of_heap; of_part = did.played.of_part }
  may_take v1 (Visitor x) (Visitor y) note ended did = record { of_heap = did.made.of_heap; of_part = did.made.of_part }
  may_take v1 (Mutator x) (Visitor y) note ended did = absurd did
  may_take v1 (Visitor x) (Mutator y) note ended did = absurd did

  pub MayTake-turn : (v0 v1 : View) (at : ℕ) (x y : Participant) (note : Note) → StandsBy id layout v0 at x →
      TookTurn id layout shapes v1 x y → y.note ≡ Some note → MayTake id v1.period note
  MayTake-turn v0 v1 at x y note by turn out = elim (cases_Bool (has_left x.worker)) [
    | inl left ↦ absurd (note_clash note y.note out ((turn.rested left).note ∙ by.no_note))
    | inr active ↦
        let turned = turn.made active in
        let made = turned.2 in
        let same : made.note ≡ note = (let e : Some made.note ≡ Some note = sym made.is_out ∙ out in cc) in
        subst (MayTake id v1.period) same (may_take v1 x.worker y.worker made.note turned.0 made.did)
  ]

  -- what the note tells of visits that is out after a part, if one is
  tells_by : (v0 v1 : View) (at : ℕ) (x y : Worker) (note : Note) (ended : Bool) → IsWithinLimits layout →
      WorkerStandsBy id layout v0 at x → HasDoneShare id layout shapes (ticket_of v1) x y note ended →
      TellsAt layout.mutators (most_visits (ticket_of v1)) v1.period at (Some note.seat.me.0)
  tells_by v0 v1 at (Mutator x) (Mutator y) note ended limits by did =
      let few = limits.few_mutators in
      let below = by.is_mutator in
      let number = by.number in
      let who = ap (λ (c : NotedCalls). c.who) did.played.told in
      let is = did.played.is in
      inl (record { is_mutator = below; who = omega (arith, few, below, number, who, is); none = did.played.still; done = did.played.done })
  tells_by v0 v1 at (Visitor x) (Visitor y) note ended limits by did =
      inr (record {
        visitor = by.visitor;
        place = by.place;
        who = did.made.of_visitor ∙ by.rests.is;
        begun = did.made.begun;
        few = did.made.most;
        done = did.made.done;
      })
  tells_by v0 v1 at (Mutator x) (Visitor y) note ended limits by did = absurd did
  tells_by v0 v1 at (Visitor x) (Mutator y) note ended limits by did = absurd did

  left_tells : (v0 v1 : View) (at : ℕ) (w : Worker) → WorkerStandsBy id layout v0 at w → has_left w ≡ true →
      TellsAt layout.mutators (most_visits (ticket_of v1)) v1.period at None
  left_tells v0 v1 at (Mutator x) by left = by.is_mutator
  left_tells v0 v1 at (Visitor x) by left = absurd (cc)

  pub TellsAt-turn : (v0 v1 : View) (at : ℕ) (x y : Participant) → IsWithinLimits layout → StandsBy id layout v0 at x →
      TookTurn id layout shapes v1 x y →
      TellsAt layout.mutators (most_visits (ticket_of v1)) v1.period at (told_in y.note)
  TellsAt-turn v0 v1 at x y limits by turn = elim (cases_Bool (has_left x.worker)) [
    | inl left ↦ subst (λ (o : Option Note). TellsAt layout.mutators (most_visits (ticket_of v1)) v1.period at (told_in o))
        (sym ((turn.rested left).note ∙ by.no_note)) (left_tells v0 v1 at x.worker by.worker left)
    | inr active ↦
        let turned = turn.made active in
        let made = turned.2 in
        subst (λ (o : Option Note). TellsAt layout.mutators (most_visits (ticket_of v1)) v1.period at (told_in o))
        (sym made.is_out) (tells_by v0 v1 at x.worker y.worker made.note turned.0 limits by.worker made.did)
  ]

  module _ (v0 v1 v2 v3 : View) (run : ℕ) (is_opened : v1 ≡ opened layout run v0) (taken : TookNotes v1 v2) where
    -- who had left is known so when all notes are in
    left_still : (who : ℕ) (v : View) → v.left ≡ true → HasLeft v0 who v → In who v2.gone × Contains v2.noted_calls (calls_of v)
    left_still who v gone left = (
      taken.gone who (subst (λ (u : View). In who u.gone) (sym is_opened) left.gone),
      taken.noted (calls_of v) (subst (λ (u : View). Contains u.noted_calls (calls_of v)) (sym is_opened)
          (kept v0.noted_calls (calls_of v) gone left.noted)),
    )
      where
        kept : (noted : List NotedCalls) (told : NotedCalls) → told.left ≡ true → Contains noted told →
            Contains (filter (λ n. n.left) noted) told
        kept noted told is a = Contains-filter_in (λ (n : NotedCalls). n.left) noted told a is

    -- each mutator's note is in, or it has left
    pub mutator_in : (at : ℕ) (x y : Participant) → at < layout.mutators → StandsBy id layout v0 at x →
        TookTurn id layout shapes v1 x y → ((note : Note) → y.note ≡ Some note → IsTold v2 note.seat.me.0) →
        In at v2.notes ⊎ In at v2.gone
    mutator_in at x y below by turn told = elim (cases_Bool (has_left x.worker)) [
      | inl left ↦ inr (left_one x.worker by.worker left)
      | inr active ↦
          let turned = turn.made active in
          let made = turned.2 in
          inl (made_one x.worker y.worker made.note turned.0 by.worker made.did (told made.note made.is_out))
    ]
      where
        left_one : (w : Worker) → WorkerStandsBy id layout v0 at w → has_left w ≡ true → In at v2.gone
        left_one (Mutator o) b left = (left_still at (view_of o.mutator) (b.parked.left ∙ left) (b.parked.gone left)).0
        left_one (Visitor o) b left = absurd (cc)

        made_one : (w u : Worker) (note : Note) (ended : Bool) → WorkerStandsBy id layout v0 at w →
            HasDoneShare id layout shapes (ticket_of v1) w u note ended → IsTold v2 note.seat.me.0 → In at v2.notes
        made_one (Mutator o) (Mutator p) note ended b did is =
            subst (λ (n : ℕ). In n v2.notes) (ap (λ (c : NotedCalls). c.who) did.played.told ∙ did.played.is ∙ b.number) is.note
        made_one (Visitor o) (Visitor p) note ended b did is =
            absurd (let place = b.place in omega (arith, place, below))
        made_one (Mutator o) (Visitor p) note ended b did is = absurd did
        made_one (Visitor o) (Mutator p) note ended b did is = absurd did

    -- each visitor's note is in
    pub visitor_in : (visitor : ℕ) (x y : Participant) → StandsBy id layout v0 (layout.mutators + visitor) x →
        TookTurn id layout shapes v1 x y → ((note : Note) → y.note ≡ Some note → IsTold v2 note.seat.me.0) →
        In (first_visitor + visitor) v2.notes
    visitor_in visitor x y by turn told = elim (cases_Bool (has_left x.worker)) [
      | inl left ↦ absurd (left_one x.worker by.worker left)
      | inr active ↦
          let turned = turn.made active in
          let made = turned.2 in
          made_one x.worker y.worker made.note turned.0 by.worker made.did (told made.note made.is_out)
    ]
      where
        left_one : (w : Worker) → WorkerStandsBy id layout v0 (layout.mutators + visitor) w → has_left w ≡ true → ⊥
        left_one (Mutator o) b left = (let below = b.is_mutator in omega (arith, below))
        left_one (Visitor o) b left = absurd (cc)

        made_one : (w u : Worker) (note : Note) (ended : Bool) → WorkerStandsBy id layout v0 (layout.mutators + visitor) w →
            HasDoneShare id layout shapes (ticket_of v1) w u note ended → IsTold v2 note.seat.me.0 →
            In (first_visitor + visitor) v2.notes
        made_one (Mutator o) (Mutator p) note ended b did is = absurd (let below = b.is_mutator in omega (arith, below))
        made_one (Visitor o) (Visitor p) note ended b did is =
            let place = b.place in
            let same : b.visitor ≡ visitor = omega (arith, place) in
            subst (λ (n : ℕ). In n v2.notes) (did.made.of_visitor ∙ b.rests.is ∙ ap (λ (n : ℕ). first_visitor + n) same) is.note
        made_one (Mutator o) (Visitor p) note ended b did is = absurd did
        made_one (Visitor o) (Mutator p) note ended b did is = absurd did

    module _ (freezes : Freezes layout shapes v2 v3) (at : ℕ) where
      period_is : v3.period ≡ v1.period
      period_is = ap (λ (v : View). v.period) freezes.view ∙ taken.period

      -- who had left stands by still
      rests_by : (w : Worker) → WorkerStandsBy id layout v0 at w → has_left w ≡ true → WorkerStandsBy id layout v3 at w
      rests_by (Visitor o) b left = absurd (cc)
      rests_by (Mutator o) b left =
          let known = left_still at (view_of o.mutator) (b.parked.left ∙ left) (b.parked.gone left) in
          let parked : IsParked v3 at true (view_of o.mutator) = IsParked-left layout shapes v0 v2 v3 freezes
          (let a = taken.period in let c = ap (λ (v : View). v.period) is_opened in omega (arith, a, c)) at (view_of o.mutator) b.is_mutator
          (subst (λ (r : Bool). IsParked v0 at r (view_of o.mutator)) left b.parked) known.0 known.1 in
          record {
            table = b.table;
            is_mutator = b.is_mutator;
            number = b.number;
            parked = subst (λ (r : Bool). IsParked v3 at r (view_of o.mutator)) (sym left) parked;
          }

      -- and so does who did its part
      did_by : (w u : Worker) (note : Note) (ended : Bool) → WorkerStandsBy id layout v0 at w →
          HasDoneShare id layout shapes (ticket_of v1) w u note ended → IsTold v2 note.seat.me.0 → WorkerStandsBy id layout v3 at u
      did_by (Mutator o) (Mutator p) note ended b did is = record {
        table = did.table;
        is_mutator = b.is_mutator;
        number = did.ran.who ∙ b.number;
        parked = IsParked-played layout shapes (ticket_of v1) v2 v3 freezes (sym taken.period) at p.cursor.retired (view_of p.mutator)
            note.seat.me.0 b.is_mutator
            (subst (λ (n : ℕ). HasPlayed (ticket_of v1) n p.cursor.retired (view_of p.mutator) note.seat.me.0) b.number did.played)
            (IsNoted-told v2 (view_of p.mutator) note.seat.me.0 at (did.played.is ∙ b.number) did.played.told is);
      }
      did_by (Visitor o) (Visitor p) note ended b did is = record {
        table = did.made.table;
        visitor = b.visitor;
        is_visitor = b.is_visitor;
        place = b.place;
        rests = record {
          is = did.made.is ∙ b.rests.is;
          rests = did.made.rests;
          period = (let now = did.made.period in let same = period_is in omega (arith, now, same));
        };
        room = subst (λ (n : ℕ). cell_count layout ≤ n) (sym did.made.room) b.room;
      }
      did_by (Mutator o) (Visitor p) note ended b did is = absurd did
      did_by (Visitor o) (Mutator p) note ended b did is = absurd did

      pub StandsBy-frozen : (x y z : Participant) → StandsBy id layout v0 at x → TookTurn id layout shapes v1 x y →
          ((note : Note) → y.note ≡ Some note → IsTold v2 note.seat.me.0) → GaveNote y z → StandsBy id layout v3 at z
      StandsBy-frozen x y z by turn told gave = subst (StandsBy id layout v3 at) (sym gave) (record {
        worker = elim (cases_Bool (has_left x.worker)) [
          | inl left ↦ subst (WorkerStandsBy id layout v3 at) (sym (turn.rested left).worker) (rests_by x.worker by.worker left)
          | inr active ↦
              let turned = turn.made active in
              let made = turned.2 in
              did_by x.worker y.worker made.note turned.0 by.worker made.did (told made.note made.is_out)
        ];
        no_ticket = turn.no_ticket;
        no_note = refl;
      })
