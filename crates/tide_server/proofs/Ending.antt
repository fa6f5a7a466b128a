-- What the notes of a part say of it, once it is frozen.
use Rattle.std.proofs.Common.{ℕ, zero, suc, ◌≡◌, ◌+◌, ◌-◌, ◌<◌, ◌≤◌, ◌∙◌, sym, ap, subst, arith, Bool, true, false, not, List, [], ◌∷◌, ◌++◌, append-nil, get_or, inl, inr, ◌⊎◌, true≢false}
use Rattle.std.proofs.lemmas.Bool.{cases_Bool}
use Rattle.std.specs.Prelude.{◌||◌, Option, None, filter, if◌then◌else◌}
use Rattle.atomic_table.specs.Seated.{TableId}
use Rattle.tide_model.proofs.Histories.{calls_of-append}
use Rattle.tide_model.proofs.PeriodLaws.{Each-nil}
use Rattle.tide_model.proofs.SinceLaws.{count-push}
use Rattle.tide_model.specs.Caller.{IsOwn}
use Rattle.tide_model.specs.Each.{Each}
use Rattle.tide_model.specs.History.{is_call_of, is_open, plain, state_after}
use Rattle.tide_model.specs.Lawful.{IsLawful}
use Rattle.tide_model.specs.Layout.{Layout}
use Rattle.tide_model.specs.Numbers.{any_below}
use Rattle.tide_model.specs.Pace.{Pace}
use Rattle.tide_model.specs.Periods.{is_forced, is_over, next_run, open_count, opened}
use Rattle.tide_model.specs.Prefix.{IsPrefix}
use Rattle.tide_model.specs.Refused.{ShapeLists}
use Rattle.tide_model.specs.Script.{calls_of, retry_after_all, retry_of}
use Rattle.tide_model.specs.Share.{HasCallLeft, has_ended}
use Rattle.tide_model.specs.declared.entry.Entry.TheVariants.{Open}
use Rattle.tide_model.specs.declared.entry.Event.{Event}
use Rattle.tide_model.specs.declared.op.Op.{Op}
use Rattle.tide_posts.proofs.Keeping.{inactive-more, inactive-prefix, marked_most, none_of_inactive, shared_ended, shared_share}
use Rattle.tide_posts.specs.Name.{places}
use Rattle.tide_posts.specs.Openings.{IsOpening}
use Rattle.tide_posts.specs.Schedule.{IsShareWhere}
use Rattle.tide_posts.specs.Shares.{HasShared}
use Rattle.tide_posts.specs.tide_heap.Parties.{In, IsParty}
use Rattle.tide_posts.specs.tide_heap.Turns.{Freezes, calls_of as noted_calls_of}
use Rattle.tide_posts.specs.tide_heap.tide_core.declared.machine.view.View.{View}
use Rattle.tide_posts.specs.tide_heap.tide_core.machine.World.{first_visitor}
use Rattle.tide_sched.proofs.RunLaws.{last_run-opened}
use Rattle.tide_sched.specs.Paces.{last_run, pace_of}
use Rattle.tide_server.proofs.Noted.{any_below-same, or_false}
use Rattle.tide_server.specs.Keepers.{HadLeft, HasToldShare, HasToldVisits, KeeperStands, MutatorIsIn, NoteIsIn, view_of}
use Rattle.tide_server.specs.declared.keeper.Keeper.{Keeper}
use Rattle.tide_table.specs.VisitsTold.{VisitsAreIn, most_visits, visits_left}

-- what a test says of numbers beyond some doesn't matter where each of those fails it
any_below-beyond : (test : ℕ → Bool) (from more : ℕ) → ((n : ℕ) → from ≤ n → test n ≡ false) →
    any_below test (from + more) ≡ any_below test from
any_below-beyond test from zero fails = ap (any_below test) (let same : from + 0 ≡ from = omega arith in same)
any_below-beyond test from (suc more) fails =
    ap (any_below test) (let same : from + suc more ≡ suc (from + more) = omega arith in same)
    ∙ ap (λ (b : Bool). any_below test (from + more) || b) (fails (from + more) (omega arith))
    ∙ or_false (any_below test (from + more))
    ∙ any_below-beyond test from more fails

-- an opening is nobody's call
pub retry_of-opened : (who : ℕ) (pace : Pace) (layout : Layout) (before : List Event) →
    retry_of who (opened pace layout before) ≡ retry_of who before
retry_of-opened who pace layout before =
    ap (retry_after_all None) (calls_of-append who before (plain (Open (open_count before + 1) (next_run pace layout before)) ∷ [])
    ∙ append-nil (calls_of who before))

module _ (layout : Layout) (shapes : ShapeLists) (heap hands : TableId) (k : Keeper)
    (stands : KeeperStands layout heap hands k) where
  abbrev pub here : View
  here = view_of k

  abbrev pub pace : Pace
  pace = pace_of k.books.pacing

  numbered : open_count stands.before + 1 ≡ here.period
  numbered =
      let counted = count-push (λ (e : Event). is_open e.entry) stands.before
      (plain (Open (open_count stands.before + 1) (next_run pace layout stands.before))) in
      let number = stands.runs.runs.period in
      let is = ap open_count stands.opened in
      omega (arith, counted, number, is)

  pub run_is : next_run pace layout stands.before ≡ here.run
  run_is =
      sym (last_run-opened stands.before (open_count stands.before + 1) (next_run pace layout stands.before))
      ∙ sym (ap last_run stands.opened) ∙ sym stands.runs.runs.run

  -- the open part's number and its run are those that the collector has
  pub IsOpening-here : IsOpening here.period here.run here.start
  IsOpening-here = record {
    before = stands.before;
    is = stands.opened ∙ (λ i. stands.before ++ plain (Open (numbered i) (run_is i)) ∷ []);
    count = sym stands.runs.runs.period;
  }

  -- Below, the part was frozen, once all notes were in.
  module _ (all : k.next ≡ places layout) (u : View) (froze : Freezes layout shapes here u) where
    abbrev pub part : List Event
    part = froze.part

    abbrev pub whole : List Event
    whole = here.start ++ froze.part

    pub lawful : IsLawful layout shapes whole
    lawful = subst (IsLawful layout shapes) froze.since froze.wave.lawful

    abbrev pub active_now : ℕ → Bool
    active_now who = (state_after layout whole).active who

    heard_of : (note : View) → IsParty layout note.who → NoteIsIn here note → IsPrefix note.seen whole
    heard_of note party is = subst (IsPrefix note.seen) froze.since (froze.heard (noted_calls_of note) party is.calls)

    own_of : (note : View) → IsParty layout note.who → NoteIsIn here note → IsOwn note.who whole note.mine
    own_of note party is = sym (froze.own (noted_calls_of note) party is.calls)
        ∙ ap (filter (λ event. is_call_of note.who event.entry)) froze.since

    gone_of : (who : ℕ) → IsParty layout who → active_now who ≡ false → In who here.gone
    gone_of who party is =
        froze.gone who party (subst (λ (h : List Event). (state_after layout h).active who ≡ false) (sym froze.since) is)

    -- what a mutator did in the part: it made its share, and where it has left for good it isn't active
    pub record HasDone (who : ℕ) (ended early : Bool) : Type 0 where
      pub share : IsShareWhere here.run (retry_of who here.start) (active_now who) early (calls_of who froze.part)
      pub stops : has_ended (retry_of who here.start) (calls_of who froze.part) ≡ ended
      pub gone : In who here.gone → active_now who ≡ false

    HasDone-told : (who : ℕ) (ended early : Bool) → who < layout.mutators → HasToldShare here who ended early →
        HasDone who ended early
    HasDone-told who ended early below told = subst (λ (n : ℕ). HasDone n ended early) told.is (record {
      share = shared_share layout note.who note.period note.run here.run here.start froze.part note.seen note.mine note.left
          ended early opens shared heard own stays;
      stops = shared_ended layout note.who note.period note.run here.run here.start froze.part note.seen note.mine note.left
          ended early opens shared heard own;
      gone = λ is. inactive-prefix layout note.who note.seen whole heard (shared.retired (told.is_in.left.1 is) layout);
    })
      where
        note : View
        note = told.note

        party : IsParty layout note.who
        party = inl (subst (λ (n : ℕ). n < layout.mutators) (sym told.is) below)

        opens : IsOpening note.period here.run here.start
        opens = subst (λ (n : ℕ). IsOpening n here.run here.start) (sym told.period) IsOpening-here

        shared : HasShared note.who note.period note.run note.seen note.mine note.left ended early
        shared = told.tells.shared

        heard : IsPrefix note.seen whole
        heard = heard_of note party told.is_in

        own : IsOwn note.who whole note.mine
        own = own_of note party told.is_in

        stays : note.left ≡ false → active_now note.who ≡ true
        stays left = elim (cases_Bool (active_now note.who)) [
          | inl is ↦ is
          | inr isnt ↦ absurd (true≢false (sym (told.is_in.left.1 (gone_of note.who party isnt)) ∙ left))
        ]

    HasDone-left : (who : ℕ) (ended early : Bool) → HadLeft layout here who → ended ≡ false → early ≡ false →
        HasDone who ended early
    HasDone-left who ended early had none never = record {
      share = record {
        each = subst (Each (HasCallLeft here.run (retry_of who here.start))) (sym nothing)
            (Each-nil (HasCallLeft here.run (retry_of who here.start)));
        fewer = λ few. inl (inl inactive);
        early = λ is. absurd (true≢false (sym is ∙ never));
      };
      stops = ap (has_ended (retry_of who here.start)) nothing ∙ sym none;
      gone = λ is. inactive;
    }
      where
        nothing : calls_of who froze.part ≡ []
        nothing = none_of_inactive layout shapes who here.start froze.part lawful had.inactive

        inactive : active_now who ≡ false
        inactive = inactive-more layout who here.start froze.part had.inactive

    in_it : (who : ℕ) → who < layout.mutators →
        MutatorIsIn layout here who (stands.notes.ended_by who) (get_or k.early who false)
    in_it who below = stands.notes.mutators who (omega (arith, below, all)) below

    pub has_done : (who : ℕ) → who < layout.mutators → HasDone who (stands.notes.ended_by who) (get_or k.early who false)
    has_done who below = elim (in_it who below) [
      | inl told ↦ HasDone-told who (stands.notes.ended_by who) (get_or k.early who false) below told
      | inr had ↦ HasDone-left who (stands.notes.ended_by who) (get_or k.early who false) had.0 had.1 had.2
    ]

    -- who hasn't left is active
    active_is : (who : ℕ) → who < layout.mutators → active_now who ≡ not (get_or k.left who false)
    active_is who below = elim (cases_Bool (get_or k.left who false)) [
      | inl left ↦ (has_done who below).gone ((stands.left.known who below).0 left) ∙ sym (ap not left)
      | inr stays ↦ elim (cases_Bool (active_now who)) [
        | inl is ↦ is ∙ sym (ap not stays)
        | inr isnt ↦ absurd (true≢false (sym ((stands.left.known who below).1 (gone_of who (inl below) isnt)) ∙ stays))
      ]
    ]

    -- whether some mutator is active stands in what the keeper has
    pub is_over-here : is_over layout whole ≡ not (any_below (λ who. not (get_or k.left who false)) layout.mutators)
    is_over-here = ap not (any_below-same active_now (λ who. not (get_or k.left who false)) layout.mutators active_is)

    -- and so does whether some mutator's last call ended its share
    ended_is : any_below (λ who. has_ended (retry_of who here.start) (calls_of who froze.part)) layout.mutators ≡ k.ended
    ended_is =
        any_below-same (λ who. has_ended (retry_of who here.start) (calls_of who froze.part)) stands.notes.ended_by layout.mutators
        (λ who below. (has_done who below).stops)
        ∙ sym (any_below-beyond stands.notes.ended_by layout.mutators layout.visitors stands.notes.none_ends)
        ∙ ap (any_below stands.notes.ended_by) (sym all)
        ∙ sym stands.notes.is_ended

    pub is_forced-here : (goes_on : Bool) → goes_on ≡ any_below (λ who. not (get_or k.left who false)) layout.mutators →
        (k.ended || not goes_on) ≡ is_forced layout (opened pace layout stands.before) froze.part
    is_forced-here goes_on is =
        (λ i. (sym ended_is i) || ((ap not is ∙ sym is_over-here) i))
        ∙ ap (λ (h : List Event). is_forced layout h froze.part) stands.opened

    -- each mutator made its share, or stopped early
    pub shares_here : (who : ℕ) → who < layout.mutators → IsShareWhere (next_run pace layout stands.before) (retry_of who stands.before)
        ((state_after layout (opened pace layout stands.before ++ froze.part)).active who) (get_or k.early who false)
        (calls_of who froze.part)
    shares_here who below =
        subst (λ (n : ℕ). IsShareWhere n (retry_of who stands.before)
        ((state_after layout (opened pace layout stands.before ++ froze.part)).active who) (get_or k.early who false)
        (calls_of who froze.part)) (sym run_is)
        (subst (λ (h : List Event). IsShareWhere here.run (retry_of who stands.before)
        ((state_after layout (h ++ froze.part)).active who) (get_or k.early who false) (calls_of who froze.part)) stands.opened
        (subst (λ (o : Option Op). IsShareWhere here.run o (active_now who) (get_or k.early who false) (calls_of who froze.part))
        (ap (retry_of who) stands.opened ∙ retry_of-opened who pace layout stands.before) (has_done who below).share))

    -- each participant's note is in, or it has left
    told_of : (visitor : ℕ) → visitor < layout.visitors → HasToldVisits layout here visitor
    told_of visitor below = stands.notes.visitors visitor (omega (arith, below, all))

    -- what the visitors' notes told may be entered
    pub VisitsAreIn-here : VisitsAreIn layout here
    VisitsAreIn-here = record {
      told = record {
        each = λ visitor below. let told = told_of visitor below in (told.note.visits, few visitor below told, told.told);
        all = stands.notes.visits.all
            ∙ ap (visits_left here.visited 0) (let same : k.next - layout.mutators ≡ layout.visitors = omega (arith, all) in same);
      };
      done = λ some. stands.notes.done;
    }
      where
        few : (visitor : ℕ) → visitor < layout.visitors → (told : HasToldVisits layout here visitor) →
            told.note.visits ≤ most_visits here
        few visitor below told =
            let party : IsParty layout told.note.who = inr (let is = told.is in omega (arith, is), let is = told.is in omega (arith, is, below)) in
            subst (λ (b : Bool). told.note.visits ≤ (if b then here.run else 0)) (sym stands.marking)
            (marked_most layout told.note.period told.note.run here.run told.note.visits told.note.marks here.start froze.part
            told.note.seen (subst (λ (n : ℕ). IsOpening n here.run here.start) (sym told.period) IsOpening-here) told.marked
            (heard_of told.note party told.is_in))

-- each participant's note is in, or it has left for good
pub AllIn-here : (layout : Layout) (heap hands : TableId) (k : Keeper) → KeeperStands layout heap hands k →
    k.next ≡ places layout → (i : ℕ) → IsParty layout i → In i (view_of k).notes ⊎ In i (view_of k).gone
AllIn-here layout heap hands k stands all i (inl below) =
    elim (stands.notes.mutators i (omega (arith, below, all)) below) [
      | inl told ↦ inl (subst (λ (n : ℕ). In n (view_of k).notes) told.is told.is_in.who)
      | inr had ↦ inr had.0.gone
    ]
AllIn-here layout heap hands k stands all i (inr visits) =
    let over = visits.0 in
    let under = visits.1 in
    let told = stands.notes.visitors (i - first_visitor) (omega (arith, over, under, all)) in
    let is = told.is in
    inl (subst (λ (n : ℕ). In n (view_of k).notes) (let same : told.note.who ≡ i = omega (arith, is, over) in same) told.is_in.who)
