-- A keeper whose part is open goes on, place by place.
use Rattle.std.proofs.Common.{ℕ, suc, ◌≡◌, ◌+◌, ◌-◌, ◌<◌, ◌≤◌, ◌∙◌, refl, sym, ap, subst, arith, Bool, true, false, List, ◌∷◌, ◌++◌, get_or, set, length, get_or-set_other, inl, inr, ◌⊎◌, lt-ltb, le-ltb, true≢false}
use Rattle.std.proofs.lemmas.Bool.{and_parts, cases_eq, ltb-true}
use Rattle.std.specs.Prelude.{◌||◌, ◌&&◌, MatchBool, if◌then◌else◌, nat_lt}
use Rattle.atomic_table.specs.Seated.{TableId}
use Rattle.tide_model.specs.Freeze.{marks_after}
use Rattle.tide_model.specs.Layout.{Layout}
use Rattle.tide_model.specs.Periods.{opened}
use Rattle.tide_model.specs.Prefix.{IsPrefix}
use Rattle.tide_model.specs.Refused.{ShapeLists}
use Rattle.tide_model.specs.declared.entry.Event.{Event}
use Rattle.tide_posts.proofs.Schedule.{has_stop-set}
use Rattle.tide_posts.specs.Name.{Name, places}
use Rattle.tide_posts.specs.Posts.{IsNoteFor, MutatorTells, VisitorTells}
use Rattle.tide_posts.specs.Among.{Among, times}
use Rattle.tide_posts.specs.Schedule.{ArePeriodsWhere, has_stop, have_stops}
use Rattle.tide_posts.specs.tide_hands.Seats.{frame}
use Rattle.tide_posts.specs.tide_hands.declared.view.HandView.{HandView}
use Rattle.tide_posts.specs.tide_heap.Parties.{In}
use Rattle.tide_posts.specs.tide_heap.Turns.{noted}
use Rattle.tide_posts.specs.tide_heap.declared.steps.notes.Note.{Note}
use Rattle.tide_posts.specs.tide_heap.tide_core.declared.machine.view.View.{View}
use Rattle.tide_posts.specs.tide_heap.tide_core.machine.World.{first_visitor}
use Rattle.tide_posts.specs.tide_heap.tide_freeze.Books.{AddsEnds}
use Rattle.tide_posts.specs.tide_heap.tide_freeze.declared.books.Books.{Books}
use Rattle.tide_report.specs.Ends.{all_freed, ends_in}
use Rattle.tide_report.specs.Reports.{Reported}
use Rattle.tide_report.specs.declared.report.CycleLine.{CycleLine}
use Rattle.tide_sched.specs.declared.pacing.Pacing.{Pacing}
use Rattle.tide_sched.specs.Paces.{pace_of}
use Rattle.tide_server.proofs.Handing.{out-more, out-one, out_of}
use Rattle.tide_server.proofs.Noted.{AreLeft-later, AreLeft-mutator, AreLeft-visitor, NotesAreIn-left, NotesAreIn-told, NotesAreIn-visited, or_false}
use Rattle.tide_server.specs.Keepers.{AreLeft, HadLeft, KeeperStands, NotesAreIn, has_left, ticket_count, view_of}
use Rattle.tide_server.specs.Turned.{HasPostedEnds, HasTurned, IsWaiting, MakesPeriod}
use Rattle.tide_server.specs.declared.turning.Turn.{Turn}
use Rattle.tide_server.specs.declared.turning.Turn.TheVariants.{Opened, Over, Spent}
use Rattle.tide_server.specs.declared.keeper.Keeper.{Keeper}
use Rattle.tide_table.proofs.Nexts.{RunsWith-noted}
use Rattle.tide_table.specs.Standing.{RunsWith}
use Rattle.tide_table.specs.declared.collector.Collector.{Collector}
use Rattle.tide_table.specs.tide_statistics.Sums.{HasSummed}
use Rattle.tide_table.specs.tide_statistics.declared.sums.CycleSums.{CycleSums}

and_false : (b : Bool) → (b && false) ≡ false
and_false true = refl
and_false false = refl

one_more : (n : ℕ) → suc n ≡ n + 1
one_more n = omega arith

or_assoc : (a b c : Bool) → ((a || b) || c) ≡ (a || (b || c))
or_assoc true b c = refl
or_assoc false b c = refl

module _ (layout : Layout) (heap hands : TableId) (k : Keeper) (stands : KeeperStands layout heap hands k) where
  -- of the keeper's seat a look leaves this, and makes nothing else than places known at which a ticket is due
  pub record HasLooked (now : Keeper) : Type 0 where
    pub seated : now.seat.seat.table_id ≡ k.seat.seat.table_id
    pub kept : frame now.seat.seat.me.0 ≡ frame k.seat.seat.me.0
    pub over : now.seat.seat.me.0.over ≡ k.seat.seat.me.0.over
    pub ends : now.seat.seat.me.0.ends ≡ k.seat.seat.me.0.ends
    pub given : now.seat.seat.me.0.given ≡ k.seat.seat.me.0.given
    pub tickets : now.seat.seat.me.0.tickets ≡ k.seat.seat.me.0.tickets
    pub free : (q : ℕ) → Among q k.seat.seat.me.0.free → Among q now.seat.seat.me.0.free

  -- of each place whose participant hasn't left the note of the open part was taken, or is out
  abbrev pub AreNoted : Keeper → Type 0
  AreNoted now = (place : ℕ) → place < places layout → has_left layout now.left place ≡ false →
      times place now.seat.seat.me.0.notes + out_of now.next place ≡ (view_of k).period

  -- the part is the same, and more notes are in
  IsWaiting-by : (now : Keeper) → HasLooked now → now.collector.seat.table_id ≡ k.collector.seat.table_id →
      now.books ≡ k.books → now.sums ≡ k.sums → RunsWith layout k.books (view_of now) → (view_of now).start ≡ (view_of k).start →
      (view_of now).period ≡ (view_of k).period → (view_of now).marks ≡ (view_of k).marks → now.next ≤ places layout →
      NotesAreIn layout (view_of now) now.next now.ended now.early →
      now.stopped ≡ (have_stops layout stands.stops || has_stop layout now.early) → AreLeft layout (view_of now) now.next now.left →
      ((place : ℕ) → (place < now.next) ⊎ (has_left layout now.left place ≡ true) → Among place now.seat.seat.me.0.free) →
      ((place : ℕ) → has_left layout now.left place ≡ false → has_left layout k.left place ≡ false) → AreNoted now →
      IsWaiting layout heap hands k now
  IsWaiting-by now looked table books sums runs start period marks within notes stopped left due stays are_noted = record {
    stands = record {
      of = record {
        table = table ∙ stands.of.table;
        seated = looked.seated ∙ stands.of.seated;
        named = ap (λ (h : HandView Name). h.name) looked.kept ∙ stands.of.named;
      };
      runs = subst (λ (b : Books). RunsWith layout b (view_of now)) (sym books) runs;
      summed = subst (λ (x : List Event × CycleSums). HasSummed x.0 x.1) (λ i. (sym start i, sym sums i)) stands.summed;
      before = stands.before;
      stops = stands.stops;
      periods = subst (λ (b : Books). ArePeriodsWhere (pace_of b.pacing) layout stands.stops stands.before) (sym books) stands.periods;
      stopped = stopped;
      goes_on = stands.goes_on;
      opened = start ∙ stands.opened ∙ ap (λ (b : Books). opened (pace_of b.pacing) layout stands.before) (sym books);
      marking = marks ∙ stands.marking ∙ ap (marks_after layout) (sym start);
      within = within;
      notes = notes;
      left = left;
      due = due;
      rounds = λ place below isnt. ap (times place) looked.tickets ∙ stands.rounds place below (stays place isnt) ∙ sym period;
      noted = λ place below isnt. are_noted place below isnt ∙ sym period;
      no_end = (looked.over ∙ stands.no_end.0, looked.ends ∙ stands.no_end.1);
    };
    start = start;
    period = period;
    pacing = ap (λ (b : Books). b.pacing) books;
    posted = looked.given;
  }

  -- who stopped early stays known
  stopped_still : (now : Keeper) → now.stopped ≡ k.stopped → now.early ≡ k.early →
      now.stopped ≡ (have_stops layout stands.stops || has_stop layout now.early)
  stopped_still now stopped early = stopped ∙ stands.stopped
      ∙ ap (λ (l : List Bool). have_stops layout stands.stops || has_stop layout l) (sym early)

  -- nothing was found
  pub IsWaiting-same : (now : Keeper) → HasLooked now → now.seat.seat.me.0.notes ≡ k.seat.seat.me.0.notes → now.collector ≡ k.collector → now.books ≡ k.books → now.sums ≡ k.sums →
      now.next ≡ k.next → now.ended ≡ k.ended → now.early ≡ k.early → now.stopped ≡ k.stopped → now.left ≡ k.left →
      IsWaiting layout heap hands k now
  IsWaiting-same now looked took collector books sums next ended early stopped left =
      IsWaiting-by now looked (ap (λ (c : Collector). c.seat.table_id) collector) books sums
      (subst (RunsWith layout k.books) (sym same) stands.runs)
      (ap (λ (v : View). v.start) same) (ap (λ (v : View). v.period) same) (ap (λ (v : View). v.marks) same)
      (subst (λ (n : ℕ). n ≤ places layout) (sym next) stands.within)
      (subst (λ (v : View). NotesAreIn layout v now.next now.ended now.early) (sym same)
      (subst (λ (n : ℕ). NotesAreIn layout (view_of k) n now.ended now.early) (sym next)
      (subst (λ (b : Bool). NotesAreIn layout (view_of k) k.next b now.early) (sym ended)
      (subst (NotesAreIn layout (view_of k) k.next k.ended) (sym early) stands.notes))))
      (stopped_still now stopped early)
      (subst (λ (v : View). AreLeft layout v now.next now.left) (sym same)
      (subst (λ (n : ℕ). AreLeft layout (view_of k) n now.left) (sym next)
      (subst (AreLeft layout (view_of k) k.next) (sym left) stands.left)))
      (λ place is. looked.free place (stands.due place (had place is)))
      (λ place isnt. ap (λ (l : List Bool). has_left layout l place) (sym left) ∙ isnt)
      (λ place below isnt. (λ i. times place (took i) + out_of (next i) place)
      ∙ stands.noted place below (ap (λ (l : List Bool). has_left layout l place) (sym left) ∙ isnt))
    where
      same : view_of now ≡ view_of k
      same = ap (λ (c : Collector). c.seat.me.0) collector

      had : (place : ℕ) → (place < now.next) ⊎ (has_left layout now.left place ≡ true) →
          (place < k.next) ⊎ (has_left layout k.left place ≡ true)
      had place (inl below) = inl (omega (arith, below, next))
      had place (inr is) = inr (ap (λ (l : List Bool). has_left layout l place) (sym left) ∙ is)

  -- a mutator had left
  pub IsWaiting-left : (place : ℕ) → k.next ≡ place → has_left layout k.left place ≡ true →
      IsWaiting layout heap hands k (record k { next = place + 1 })
  IsWaiting-left place next has =
      IsWaiting-by (record k { next = place + 1 })
      (record { seated = refl; kept = refl; over = refl; ends = refl; given = refl; tickets = refl; free = λ q e. e }) refl refl refl stands.runs refl refl refl
      (omega (arith, below))
      (subst (λ (n : ℕ). NotesAreIn layout (view_of k) n k.ended k.early) (one_more place)
      (NotesAreIn-left layout (view_of k) place k.ended k.early below had
      (subst (λ (n : ℕ). NotesAreIn layout (view_of k) n k.ended k.early) next stands.notes)))
      stands.stopped
      (subst (λ (n : ℕ). AreLeft layout (view_of k) n k.left) (one_more place)
      (AreLeft-later layout (view_of k) place k.left (subst (λ (n : ℕ). AreLeft layout (view_of k) n k.left) next stands.left)))
      (λ q e. stands.due q (was q e)) (λ q isnt. isnt)
      (λ q below isnt. ap (λ (n : ℕ). times q k.seat.seat.me.0.notes + n)
      (out-more place q (λ same. true≢false (sym has ∙ ap (has_left layout k.left) (sym same) ∙ isnt))
      ∙ ap (λ (n : ℕ). out_of n q) (sym next)) ∙ stands.noted q below isnt)
    where
      parts : (nat_lt place layout.mutators ≡ true) × (get_or k.left place false ≡ true)
      parts = and_parts (nat_lt place layout.mutators) (get_or k.left place false) has

      below : place < layout.mutators
      below = ltb-true place layout.mutators parts.0

      gone : In place (view_of k).gone
      gone = (stands.left.known place below).0 parts.1

      had : HadLeft layout (view_of k) place
      had = record { gone = gone; inactive = stands.left.early place below (omega (arith, next)) gone }

      was : (q : ℕ) → (q < place + 1) ⊎ (has_left layout k.left q ≡ true) → (q < k.next) ⊎ (has_left layout k.left q ≡ true)
      was q (inl less) = elim (cases_eq q place) [
        | inl same ↦ inr (ap (has_left layout k.left) same ∙ has)
        | inr apart ↦ inl (omega (arith, less, apart, next))
      ]
      was q (inr e) = inr e

  -- who hasn't left, if a mutator
  pub stays_at : (place : ℕ) → has_left layout k.left place ≡ false → place < layout.mutators → get_or k.left place false ≡ false
  stays_at place isnt below =
      sym (ap (λ (b : Bool). b && get_or k.left place false) (lt-ltb place layout.mutators below)) ∙ isnt

  -- a note of the part was taken in
  module _ (place : ℕ) (next : k.next ≡ place) (within : place < places layout) (few : layout.mutators ≤ 16)
      (long : length k.left ≡ 16) (note : Note) (ends stops : Bool)
      (number : ℕ) (told : IsNoteFor (record { layout = layout; table_id = heap }) place number note ends stops) where
    abbrev u : View
    u = note.seat.me.0

    abbrev v : View
    v = view_of k

    -- that a ticket is due is known where it was, and where the note was
    due_now : (now : Keeper) → HasLooked now → Among place now.seat.seat.me.0.free → now.next ≡ place + 1 →
        ((q : ℕ) → (q ≡ place → ⊥) → has_left layout now.left q ≡ has_left layout k.left q) → (q : ℕ) →
        (q < now.next) ⊎ (has_left layout now.left q ≡ true) → Among q now.seat.seat.me.0.free
    due_now now looked here later same q e = elim (cases_eq q place) [
      | inl is ↦ subst (λ (n : ℕ). Among n now.seat.seat.me.0.free) (sym is) here
      | inr apart ↦ looked.free q (stands.due q (was apart e))
    ]
      where
        was : (q ≡ place → ⊥) → (q < now.next) ⊎ (has_left layout now.left q ≡ true) → (q < k.next) ⊎ (has_left layout k.left q ≡ true)
        was apart (inl less) = inl (omega (arith, less, later, next, apart))
        was apart (inr is) = inr (sym (same q apart) ∙ is)

    -- and the note of this place was taken
    noted_now : (now : Keeper) → now.seat.seat.me.0.notes ≡ place ∷ k.seat.seat.me.0.notes → now.next ≡ place + 1 →
        ((q : ℕ) → has_left layout now.left q ≡ false → has_left layout k.left q ≡ false) → AreNoted now
    noted_now now took later stays q below isnt = ap (λ (n : ℕ). times q now.seat.seat.me.0.notes + out_of n q) later
        ∙ out-one place q v.period k.seat.seat.me.0.notes now.seat.seat.me.0.notes took
        (ap (λ (n : ℕ). times q k.seat.seat.me.0.notes + out_of n q) (sym next) ∙ stands.noted q below (stays q isnt))

    notes_were : NotesAreIn layout v place k.ended k.early
    notes_were = subst (λ (n : ℕ). NotesAreIn layout v n k.ended k.early) next stands.notes

    left_were : AreLeft layout v place k.left
    left_were = subst (λ (n : ℕ). AreLeft layout v n k.left) next stands.left

    pub IsWaiting-told : (now : Keeper) → HasLooked now → now.seat.seat.me.0.notes ≡ place ∷ k.seat.seat.me.0.notes → Among place now.seat.seat.me.0.free →
        now.collector.seat.table_id ≡ k.collector.seat.table_id → view_of now ≡ noted v u → now.books ≡ k.books → now.sums ≡ k.sums →
        now.next ≡ place + 1 → now.ended ≡ (k.ended || ends) → now.left ≡ set k.left place u.left → place < layout.mutators →
        get_or k.left place false ≡ false → u.period ≡ v.period → length k.early ≡ 16 → now.early ≡ set k.early place stops →
        now.stopped ≡ (k.stopped || stops) → IsWaiting layout heap hands k now
    IsWaiting-told now looked took here table is books sums later ended left below stays period wide early stopped =
        IsWaiting-by now looked table books sums (subst (RunsWith layout k.books) (sym is) (RunsWith-noted layout k.books v u stands.runs))
        (ap (λ (x : View). x.start) is) (ap (λ (x : View). x.period) is) (ap (λ (x : View). x.marks) is) (omega (arith, later, within))
        (subst (λ (x : View). NotesAreIn layout x now.next now.ended now.early) (sym is)
        (subst (λ (n : ℕ). NotesAreIn layout (noted v u) n now.ended now.early) (sym later)
        (subst (λ (b : Bool). NotesAreIn layout (noted v u) (place + 1) b now.early) (sym ended)
        (subst (NotesAreIn layout (noted v u) (place + 1) (k.ended || ends)) (sym early)
        (subst (λ (n : ℕ). NotesAreIn layout (noted v u) n (k.ended || ends) (set k.early place stops)) (one_more place)
        (NotesAreIn-told layout v u place k.ended ends k.early stops below (omega (arith, below, few, wide)) (omega (arith, below, few)) who
        period tells told.done isnt notes_were))))))
        (stopped ∙ ap (λ (b : Bool). b || stops) stands.stopped
        ∙ or_assoc (have_stops layout stands.stops) (has_stop layout k.early) stops
        ∙ ap (λ (b : Bool). have_stops layout stands.stops || b) (sym (has_stop-set layout k.early place stops
        (omega (arith, below, few, wide)) (notes_were.none_early place (omega arith)) below)
        ∙ ap (has_stop layout) (sym early)))
        (subst (λ (x : View). AreLeft layout x now.next now.left) (sym is)
        (subst (λ (n : ℕ). AreLeft layout (noted v u) n now.left) (sym later)
        (subst (AreLeft layout (noted v u) (place + 1)) (sym left)
        (subst (λ (n : ℕ). AreLeft layout (noted v u) n (set k.left place u.left)) (one_more place)
        (AreLeft-mutator v u layout place k.left below (omega (arith, below, few, long)) who
        (subst (λ (n : ℕ). In n v.gone → ⊥) (sym who) isnt) left_were)))))
        (due_now now looked here later (λ q apart. ap (λ (l : List Bool). has_left layout l q) left
        ∙ ap (λ (b : Bool). nat_lt q layout.mutators && b) (get_or-set_other k.left place q u.left false apart)))
        left_before (noted_now now took later left_before)
      where
        -- who hasn't left now hadn't before
        left_before : (q : ℕ) → has_left layout now.left q ≡ false → has_left layout k.left q ≡ false
        left_before q isnt_now = elim (cases_eq q place) [
          | inl same ↦ ap (has_left layout k.left) same ∙ ap (λ (b : Bool). nat_lt place layout.mutators && b) stays
              ∙ and_false (nat_lt place layout.mutators)
          | inr apart ↦ sym (ap (λ (b : Bool). nat_lt q layout.mutators && b) (get_or-set_other k.left place q u.left false apart))
              ∙ ap (λ (l : List Bool). has_left layout l q) (sym left) ∙ isnt_now
        ]

        is_mutator : nat_lt place layout.mutators ≡ true
        is_mutator = lt-ltb place layout.mutators below

        who : u.who ≡ place
        who = told.is ∙ ap (λ (b : Bool). if b then place else first_visitor + (place - layout.mutators)) is_mutator

        tells : MutatorTells u ends stops
        tells = subst (λ (b : Bool). MatchBool b (MutatorTells u ends stops) (VisitorTells layout u ends stops)) is_mutator told.did

        isnt : In place v.gone → ⊥
        isnt e = true≢false (sym ((stands.left.known place below).1 e) ∙ stays)

    pub IsWaiting-visited : (now : Keeper) → HasLooked now → now.seat.seat.me.0.notes ≡ place ∷ k.seat.seat.me.0.notes → Among place now.seat.seat.me.0.free →
        now.collector.seat.table_id ≡ k.collector.seat.table_id → view_of now ≡ noted v u → now.books ≡ k.books → now.sums ≡ k.sums →
        now.next ≡ place + 1 → now.ended ≡ (k.ended || ends) → now.early ≡ k.early → now.stopped ≡ k.stopped →
        now.left ≡ k.left → layout.mutators ≤ place → u.period ≡ v.period → IsWaiting layout heap hands k now
    IsWaiting-visited now looked took here table is books sums later ended early stopped left behind period =
        IsWaiting-by now looked table books sums (subst (RunsWith layout k.books) (sym is) (RunsWith-noted layout k.books v u stands.runs))
        (ap (λ (x : View). x.start) is) (ap (λ (x : View). x.period) is) (ap (λ (x : View). x.marks) is) (omega (arith, later, within))
        (subst (λ (x : View). NotesAreIn layout x now.next now.ended now.early) (sym is)
        (subst (λ (n : ℕ). NotesAreIn layout (noted v u) n now.ended now.early) (sym later)
        (subst (λ (b : Bool). NotesAreIn layout (noted v u) (place + 1) b now.early)
        (sym (ended ∙ ap (λ (b : Bool). k.ended || b) tells.none.0 ∙ or_false k.ended))
        (subst (NotesAreIn layout (noted v u) (place + 1) k.ended) (sym early)
        (subst (λ (n : ℕ). NotesAreIn layout (noted v u) n k.ended k.early) (one_more place)
        (NotesAreIn-visited layout v u place k.ended k.early behind few who period (told.begun ∙ period) tells.marked told.done isnt
        notes_were))))))
        (stopped_still now stopped early)
        (subst (λ (x : View). AreLeft layout x now.next now.left) (sym is)
        (subst (λ (n : ℕ). AreLeft layout (noted v u) n now.left) (sym later)
        (subst (AreLeft layout (noted v u) (place + 1)) (sym left)
        (subst (λ (n : ℕ). AreLeft layout (noted v u) n k.left) (one_more place)
        (AreLeft-visitor v u layout place k.left behind tells.stays left_were)))))
        (due_now now looked here later (λ q apart. ap (λ (l : List Bool). has_left layout l q) left)) left_before
        (noted_now now took later left_before)
      where
        left_before : (q : ℕ) → has_left layout now.left q ≡ false → has_left layout k.left q ≡ false
        left_before q isnt_now = ap (λ (l : List Bool). has_left layout l q) (sym left) ∙ isnt_now

        is_visitor : nat_lt place layout.mutators ≡ false
        is_visitor = le-ltb place layout.mutators behind

        who : u.who ≡ first_visitor + (place - layout.mutators)
        who = told.is ∙ ap (λ (b : Bool). if b then place else first_visitor + (place - layout.mutators)) is_visitor

        tells : VisitorTells layout u ends stops
        tells = subst (λ (b : Bool). MatchBool b (MutatorTells u ends stops) (VisitorTells layout u ends stops)) is_visitor told.did

        isnt : In u.who v.gone → ⊥
        isnt e = (let below = stands.left.are u.who e in omega (arith, below, who, few))

-- it waits for two looks, one after another
pub IsWaiting-then : (layout : Layout) (heap hands : TableId) (one two three : Keeper) → IsWaiting layout heap hands one two →
    IsWaiting layout heap hands two three → IsWaiting layout heap hands one three
IsWaiting-then layout heap hands one two three first second = record {
  stands = second.stands;
  start = second.start ∙ first.start;
  period = second.period ∙ first.period;
  pacing = second.pacing ∙ first.pacing;
  posted = second.posted ∙ first.posted;
}

-- and for none
pub IsWaiting-here : (layout : Layout) (heap hands : TableId) (k : Keeper) → KeeperStands layout heap hands k →
    IsWaiting layout heap hands k k
IsWaiting-here layout heap hands k stands = record { stands = stands; start = refl; period = refl; pacing = refl; posted = refl }

-- What a turn makes that waited first, it makes of the part as it was before: also with a report that is lent anew, and
-- tells the same.
module _ (layout : Layout) (shapes : ShapeLists) (heap hands : TableId) (one two new : Keeper)
    (report lent longer : Reported) (waits : IsWaiting layout heap hands one two)
    (cycles : lent.cycles ≡ report.cycles) (ids : lent.ids ≡ report.ids) where
  told_waited : (after : List Event) → AddsEnds layout (view_of two).start after lent longer →
      AddsEnds layout (view_of one).start after report longer
  told_waited after adds = record {
    ended = adds.ended;
    lines = adds.lines;
    came = adds.came ∙ ap (λ (h : List Event). ends_in layout h ++ adds.ended) waits.start;
    added = adds.added ∙ ap (λ (lines : List CycleLine). lines ++ adds.lines) cycles;
    within = adds.within;
    told = adds.told;
    cells = adds.cells ∙ ap (λ (cells : List ℕ). cells ++ all_freed adds.ended) ids;
  }

  makes_waited : (stopped : Bool) (after : List Event) → MakesPeriod layout shapes two stopped after →
      MakesPeriod layout shapes one stopped after
  makes_waited stopped after makes = record {
    grows = subst (λ (h : List Event). IsPrefix h after) waits.start makes.grows;
    lawful = makes.lawful;
    stops = makes.stops;
    periods = subst (λ (p : Pacing). ArePeriodsWhere (pace_of p) layout makes.stops after) waits.pacing makes.periods;
    is_stopped = makes.is_stopped;
    ends = makes.ends;
  }

  posted_waited : HasPostedEnds layout two new → HasPostedEnds layout one new
  posted_waited posted = record {
    ends = posted.ends;
    over = posted.over;
    posted = posted.posted ∙ ap (λ (n : ℕ). n + layout.visitors) waits.posted;
  }

  pub HasTurned-waited : (turn : Turn) → HasTurned layout shapes heap hands two new lent longer turn →
      HasTurned layout shapes heap hands one new report longer turn
  HasTurned-waited Opened did = record {
    after = did.after;
    makes = makes_waited new.stopped did.after did.makes;
    goes_on = did.goes_on;
    opened = did.opened ∙ ap (λ (p : Pacing). opened (pace_of p) layout did.after) waits.pacing;
    period = did.period ∙ ap (λ (n : ℕ). n + 1) waits.period;
    stands = did.stands;
    posted = did.posted ∙ ap (λ (n : ℕ). n + ticket_count layout new.left) waits.posted;
    told = told_waited (view_of new).start did.told;
  }
  HasTurned-waited Over did = record {
    grows = subst (λ (h : List Event). IsPrefix h (view_of new).seen) waits.start did.grows;
    parts = did.parts ∙ waits.period;
    finished = did.finished;
    posted = posted_waited did.posted;
    told = told_waited (view_of new).seen did.told;
  }
  HasTurned-waited Spent did = record {
    makes = makes_waited new.stopped (view_of new).seen did.makes;
    goes_on = did.goes_on;
    last = sym waits.period ∙ did.last;
    summed = did.summed;
    posted = posted_waited did.posted;
    told = told_waited (view_of new).seen did.told;
  }
