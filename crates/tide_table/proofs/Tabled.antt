-- Each step of the collector keeps the rule of the table.
use Rattle.std.proofs.Common.{◌≡◌, ℕ, zero, suc, ◌+◌, ◌<◌, ◌≤◌, ◌⊎◌, List, [], ◌∷◌, ◌++◌, length, sym, refl, ap, ◌∙◌, inl, inr, subst, arith, true, false, set, get_or, replicate, Some}
use Rattle.std.proofs.lemmas.Bool.{cases_eq}
use Rattle.std.specs.Prelude.{slice_get}
use Rattle.atomic_table.proofs.Lists.{set_again, set_else, set_here}
use Rattle.atomic_table.specs.Table.{Me, keeps, Allows, Splits, Joins, opening, Final, Seen}
use Rattle.tide_heap.specs.tide_layout.Limits.{IsWithinLimits}
use Rattle.tide_heap.specs.tide_layout.Region.{place_in, word_count}
use Rattle.tide_heap.specs.tide_layout.declared.region.Region.TheVariants as region
use Rattle.tide_heap.specs.tide_core.wave.FrozenWave.{FrozenWave}
use Rattle.tide_heap.proofs.tide_core.machine_laws.steps.StopPlaces.{stop_within}
use Rattle.tide_heap.specs.tide_core.machine.Frozen.{MayOpen, newcomer}
use Rattle.tide_heap.specs.tide_core.machine.Kind.{index_of_stopped}
use Rattle.tide_heap.specs.tide_core.machine.points.Sweeps.{SweptAreBelow, SweptAreTold, TakenAreClean}
use Rattle.tide_heap.specs.tide_words.heap.Heap.{SameIn, heap_of}
use Rattle.tide_heap.specs.tide_core.machine.World.{parties}
use Rattle.tide_heap.specs.tide_core.declared.machine.view.Role.TheVariants.{Collector, Note, Spent}
use Rattle.tide_heap.specs.tide_core.declared.machine.view.View.{View}
use Rattle.tide_heap.specs.tide_core.declared.machine.view.NotedVisits.{NotedVisits}
use Rattle.tide_model.proofs.Histories.{IsLawful-nil}
use Rattle.tide_model.specs.History.{is_call_of, is_open, state_after}
use Rattle.tide_model.specs.Lawful.{IsLawful, Stands}
use Rattle.tide_model.specs.Layout.{Layout}
use Rattle.tide_model.specs.Prefix.{prefix_refl}
use Rattle.tide_model.specs.Refused.{ShapeLists}
use Rattle.tide_model.specs.Since.{since}
use Rattle.tide_model.specs.declared.entry.Event.{Event}
use Rattle.tide_table.proofs.Collectors.{freeze_all, frozen_store, frozen_mode, enter, open_next, note_in, ticket_split}
use Rattle.tide_table.proofs.Heeding.{own}
use Rattle.tide_heap.proofs.steps_laws.BeginsAndStops.{unmoved}
use Rattle.tide_heap.proofs.Members.{knows_as, known_as, spend, few_parties}
use Rattle.tide_table.proofs.Seating.{seat_member}
use Rattle.tide_table.proofs.Starting.{zero_word}
use Rattle.tide_heap.proofs.Turning.{below}
use Rattle.tide_heap.specs.Parties.{In, IsParty, up_to}
use Rattle.tide_heap.specs.Rule.{NoteOk, SeatOk, Tabled, Rule}
use Rattle.tide_heap.specs.Turns.{first_view, seating, ticket_of, spent, noted, frozen_with, restored, entered_with, open_entry, opened, Freezes}
use lib.ListN.{get_elem?}
use lib.Seq.{set_comm}
use mathlib.Core.Option.{some, some-injective, some-ne-none}

abbrev M : Type 0
M = Me (Unit {0}) View

module _ (layout : Layout) (shapes : ShapeLists) where
  pub learns : (id other : ℕ) (v u : View) → v.role ≡ Collector → v.frozen ≡ false → u.role ≡ Note →
      u.period ≡ v.period → Joins (Rule layout shapes) id v other u (noted v u) spent
  learns id other v u is thawed is' now s rule there apart there' =
      let k = rule.tabled in
      let at : get_elem? s.views other ≡ some u = sym (set_else s.views id other (noted v u) apart) ∙ there' in
      let knows = knows_as layout k.cv k.part k.seat_of k.note_at rule.log other u Note is' (k.each other u at) in
      let gone = spend layout shapes s.words s.views rule.log other spent k refl in
      record {
        log = rule.log;
        tabled = subst (λ (vs : List View). Tabled layout shapes s.words vs rule.log)
            (set_comm s.views other id spent (noted v u) apart)
            (note_in layout shapes s.words (set s.views other spent) rule.log id v gone.0
            (set_else s.views other id spent (λ e. apart (sym e)) ∙ there) is u other thawed knows.0
            (subst (λ (x : View × View × ℕ). NoteOk layout x.0 x.1 x.2 other u)
            (λ i. (
              sym (own layout shapes s.words s.views rule.log id v k there is) i,
              sym (ap (λ (f : ℕ → View). f u.who) gone.1) i,
              sym (ap (λ (f : ℕ → ℕ). f u.who) gone.2) i,
            )) knows.1) now
            (λ x at' role. absurd (let e = some-injective spent x
            (sym (set_here s.views other spent (below s.views other u at)) ∙ at') in
            let clash : Spent ≡ Note = ap (λ (y : View). y.role) e ∙ role in cc)));
      }

  pub seats : (id : ℕ) (v : View) (who : ℕ) → v.role ≡ Collector → v.next ≤ who → IsParty layout who →
      Splits (Rule layout shapes) id v (seating who v) (newcomer who)
  seats id v who is later party s rule there = record {
    log = rule.log;
    tabled = seat_member layout shapes s.words s.views rule.log id v rule.tabled there is who later party;
  }

  pub tickets : (id : ℕ) (v : View) → v.role ≡ Collector → Splits (Rule layout shapes) id v v (ticket_of v)
  tickets id v is s rule there = record {
    log = rule.log;
    tabled = subst (λ (vs : List View). Tabled layout shapes s.words (vs ++ ticket_of v ∷ []) rule.log)
        (sym (set_again s.views id v there)) (ticket_split layout shapes s.words s.views rule.log id v rule.tabled there is);
  }

  pub freezes : (slots id : ℕ) (me : M) → me.0.role ≡ Collector → me.0.frozen ≡ false →
      ((i : ℕ) → IsParty layout i → In i me.0.notes ⊎ In i me.0.gone) →
      Allows (Rule layout shapes) slots id me 0 (λ x. x) (λ _ b. Freezes layout shapes me.0 b.0)
  freezes slots id me is thawed all s rule long there fits =
      let h = freeze_all layout shapes s.words s.views rule.log id me.0 rule.tabled there is thawed all in (
        frozen_with s.words me.0,
        keeps,
        tt,
        unmoved layout shapes s 0 id (frozen_with s.words me.0) record { log = rule.log; tabled = h.2 } me.1,
        record {
          limits = rule.tabled.limits;
          words = s.words;
          view = refl;
          long = h.1;
          wave = h.0;
          part = since is_open rule.log;
          since = h.3;
          of_part = h.4;
          taken = h.13;
          swept = h.14;
          births = h.5;
          few = (let same = h.5 in let most = h.6 in omega (arith, same, most));
          gone = h.7;
          heard = h.8;
          own = h.9;
          all = h.15;
          progress = h.10;
          stops = h.11;
          marks = h.12;
        },
      )

  pub reads : (slots id : ℕ) (me : M) (at : ℕ) → me.0.role ≡ Collector → me.0.frozen ≡ true →
      Allows (Rule layout shapes) slots id me at (λ x. x) (λ r b. (b.0 ≡ me.0) × (r ≡ get_or me.0.words at 0))
  reads slots id me at is shut s rule long there fits = (
    me.0,
    keeps,
    tt,
    unmoved layout shapes s at id me.0 (subst (λ (vs : List View). Rule layout shapes record {
      words = s.words;
      homes = s.homes;
      views = vs;
    }) (sym (set_again s.views id me.0 there)) rule) me.1,
    (
      refl,
      ap (λ ws. get_or ws at 0)
          (frozen_mode layout shapes s.words s.views rule.log id me.0 rule.tabled there is shut).words_are,
    ),
  )

  pub stores : (slots id : ℕ) (me : M) (at word : ℕ) → me.0.role ≡ Collector → me.0.frozen ≡ true →
      Allows (Rule layout shapes) slots id me at (λ _. word) (λ _ b. b.0 ≡ restored at word me.0)
  stores slots id me at word is shut s rule long there fits = (
    restored at word me.0,
    keeps,
    tt,
    record {
      log = rule.log;
      tabled = frozen_store layout shapes s.words s.views rule.log id me.0 rule.tabled there is at word shut;
    },
    refl,
  )

  pub enters_as : (slots id : ℕ) (me : M) (event : Event) (left : List NotedVisits) → me.0.role ≡ Collector →
      me.0.frozen ≡ true → Stands layout shapes me.0.seen event → ((p : ℕ) → is_call_of p event.entry ≡ false) →
      is_open event.entry ≡ false →
      Allows (Rule layout shapes) slots id me 0 (λ x. x)
      (λ _ b. b.0 ≡ record (entered_with event me.0) { visited = left })
  enters_as slots id me event left is shut stands no_call no_open s rule long there fits =
      let w = record (entered_with event me.0) { visited = left } in (
        w,
        keeps,
        tt,
        unmoved layout shapes s 0 id w record {
          log = rule.log ++ event ∷ [];
          tabled = enter layout shapes s.words s.views rule.log id me.0 rule.tabled there is event left shut stands no_call
              no_open;
        } me.1,
        refl,
      )

  pub enters : (slots id : ℕ) (me : M) (event : Event) → me.0.role ≡ Collector → me.0.frozen ≡ true →
      Stands layout shapes me.0.seen event → ((p : ℕ) → is_call_of p event.entry ≡ false) →
      is_open event.entry ≡ false →
      Allows (Rule layout shapes) slots id me 0 (λ x. x) (λ _ b. b.0 ≡ entered_with event me.0)
  enters slots id me event is shut stands no_call no_open = enters_as slots id me event me.0.visited is shut stands no_call no_open

  pub opens : (slots id : ℕ) (me : M) (at next run : ℕ) → me.0.role ≡ Collector → me.0.frozen ≡ true →
      at ≡ place_in layout region.Period 0 → next ≡ me.0.period + 1 →
      FrozenWave layout shapes (heap_of layout me.0.words) me.0.seen →
      SweptAreBelow layout (heap_of layout me.0.words) → SweptAreTold layout (heap_of layout me.0.words) me.0.seen →
      TakenAreClean layout (heap_of layout me.0.words) (state_after layout me.0.seen) →
      SameIn layout region.Stopped (heap_of layout me.0.stood) (heap_of layout me.0.words) →
      MayOpen layout (heap_of layout me.0.words) run →
      Allows (Rule layout shapes) slots id me at (λ _. next) (λ _ b. b.0 ≡ opened layout run me.0)
  opens slots id me at next run is shut place later owed swept told clean same may s rule long there fits = (
    opened layout run me.0,
    keeps,
    tt,
    record {
      log = rule.log ++ open_entry run me.0 ∷ [];
      tabled = subst (λ (x : ℕ × ℕ). Tabled layout shapes (set s.words x.0 x.1) (set s.views id (opened layout run me.0))
          (rule.log ++ open_entry run me.0 ∷ [])) (λ i. (sym place i, sym later i))
          (open_next layout shapes s.words s.views rule.log id me.0 rule.tabled there is run shut owed swept told clean
          same may);
    },
    refl,
  )

in_up_to : (i n : ℕ) → i < n → In i (up_to n)
in_up_to i zero h = absurd (omega arith)
in_up_to i (suc n) h = elim (cases_eq i n) [
  | inl e ↦ inl e
  | inr other ↦ inr (in_up_to i n (omega (arith, h, other)))
]

only_first : (layout : Layout) (cv : View) (part : ℕ → View) (seat_of note_at : ℕ → ℕ) → cv.role ≡ Collector → (k : ℕ)
    (u : View) → get_elem? (cv ∷ []) k ≡ some u → SeatOk layout cv part seat_of note_at [] k u
only_first layout cv part seat_of note_at is zero u e =
    let same : u ≡ cv = sym (some-injective cv u e) in
    subst (λ (x : View). SeatOk layout cv part seat_of note_at [] 0 x) (sym same)
    (known_as layout cv part seat_of note_at [] 0 cv Collector is (refl, refl))
only_first layout cv part seat_of note_at is (suc k) u e = absurd (some-ne-none u (sym e))

-- words that are all 0 meet the rule at the start
pub opens_at : (layout : Layout) (shapes : ShapeLists) (words : List ℕ) → IsWithinLimits layout →
    slice_get shapes 0 ≡ Some [] → words ≡ replicate (word_count layout) 0 →
    Rule layout shapes (opening {S = Unit {0}} words [] (first_view layout))
opens_at layout shapes words limits empty_shape zeros = record {
  log = [];
  tabled = record {
    limits = limits;
    empty_shape = empty_shape;
    cv = first_view layout;
    part = newcomer;
    seat_of = λ _. 0;
    note_at = λ _. 0;
    collects = refl;
    each = only_first layout (first_view layout) newcomer (λ _. 0) (λ _. 0) refl;
    fresh = λ i h. refl;
    strangers = λ i h. refl;
    members = λ i l. record {
      role = refl;
      behind = omega arith;
      close = inr (omega arith);
      ticket = omega arith;
      runs = λ e. absurd (cc);
      told = λ _. record { marks = refl; cycle = refl; mark_version = refl; run = refl };
      still = λ _. refl;
      mutator = λ e. absurd (cc);
      earlier = prefix_refl [];
      heard = prefix_refl [];
      calls = λ noted a e. absurd (let below = a.1 in omega (arith, below));
      noted = λ _. (refl, prefix_refl []);
      gone = λ a. absurd a;
      over = λ a. absurd a;
      leaves = λ a e. absurd (cc);
      ended = λ _. refl;
      halted = λ _. refl;
      began = λ a e. absurd (cc);
      done = λ a e. absurd (cc);
    };
    keeps = record { noted = λ thawed i a. absurd (cc); gone = λ i a. absurd a };
    prefix = prefix_refl [];
    tip = inl refl;
    retired = λ i e. absurd (cc);
    visits_told = refl;
    births = λ i. refl;
    told = refl;
    start = refl;
    mode = record {
      words_are = zeros;
      long = ap length zeros ∙ Rattle.std.proofs.lemmas.List.length-replicate (word_count layout) 0;
      seen_all = refl;
      lawful = IsLawful-nil layout shapes;
      counts = refl;
      span = Rattle.tide_table.proofs.Spans.span_none layout [] refl;
      known = record { who = λ p. refl; seen = λ p. prefix_refl []; own = λ p. refl; told = λ p. refl };
      begun = λ p. omega arith;
      left = λ p. refl;
      empty = record {
        held = λ p rests. refl;
        scan = λ p rests. refl;
        owed = λ p rests. refl;
        duty = λ p rests. refl;
        growth = λ p rests. refl;
        known = λ p rests. refl;
        full = λ p rests. refl;
        calls = λ p rests. refl;
        sweeping = λ p rests. refl;
        saw = λ p rests. refl;
        cleared = λ p rests. refl;
      };
      stops = λ p party. zero_word layout region.Stopped (index_of_stopped layout p) (stop_within layout p party);
      all_in = λ i party. inl (in_up_to i parties (few_parties layout limits i party));
    };
  };
}

-- What a table that a frozen collector closes leaves: its history is lawful, its words are the last, and who has left
-- in its view has retired in the history.
pub record Closes (layout : Layout) (shapes : ShapeLists) (v : View) (words : List ℕ) : Type 0 where
  pub lawful : IsLawful layout shapes v.seen
  pub words_are : words ≡ v.words
  pub retired : (i : ℕ) → IsParty layout i → In i v.gone → (state_after layout v.seen).active i ≡ false

pub closes : (layout : Layout) (shapes : ShapeLists) (id : ℕ) (v : View) (words : List ℕ) (xs : List (Unit {0})) →
    v.role ≡ Collector → v.frozen ≡ true → Final (Seen (Rule layout shapes) id v) words xs → Closes layout shapes v words
closes layout shapes id v words xs is shut f =
    let s = f.0 in
    let rule = f.1.0 in
    let k = rule.tabled in
    let now = frozen_mode layout shapes s.words s.views rule.log id v k f.1.1 is shut in
    record {
      lawful = subst (IsLawful layout shapes) now.seen_all now.lawful;
      words_are = sym f.2 ∙ now.words_are;
      retired = λ i party a. subst (λ (l : List Event). (state_after layout l).active i ≡ false) now.seen_all
          (k.retired i ((Rattle.tide_table.proofs.Heeding.ok_of layout shapes s.words s.views rule.log id v k f.1.1 is i party).gone a).0);
    }
