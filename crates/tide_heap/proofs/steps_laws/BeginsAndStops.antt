-- Each step of a participant's coming and going keeps the rule of the table.
use Rattle.std.proofs.Common.{◌≡◌, ℕ, ◌+◌, ◌<◌, ◌≤◌, List, sym, refl, ap, ◌∙◌, inl, inr, subst, arith, true, false, set, get_or}
use Rattle.std.proofs.lemmas.Bool.{cases_Bool}
use Rattle.std.proofs.lemmas.Bool.Decides.{nat_tests}
use Rattle.std.specs.Prelude.{[], if◌then◌else◌, ◌==◌, Bool, nat_lt, not, ◌||◌, ◌↔◌, ◌⊎◌}
use Rattle.atomic_table.proofs.Lists.{set_else, set_here}
use Rattle.atomic_table.specs.Table.{State, Me, keeps, stepped, Allows, Splits, Joins}
use Rattle.tide_core.specs.tide_layout.Region.{base_of, place_in, size_of, word_count}
use Rattle.tide_core.specs.tide_layout.declared.region.Region.TheVariants as region
use Rattle.tide_core.specs.machine.Kind.{index_of_stopped}
use Rattle.tide_core.specs.machine.May.{Rests}
use Rattle.tide_core.specs.machine.World.{first_visitor}
use Rattle.tide_core.specs.declared.machine.view.Role.TheVariants.{Member, Ticket}
use Rattle.tide_core.specs.declared.machine.view.View.{View}
use Rattle.tide_core.specs.machine.kinds.Activate.{begun_view}
use Rattle.tide_core.specs.machine.kinds.Split.{split_view}
use Rattle.tide_core.specs.machine.kinds.StoreStopped.{stopped_view}
use Rattle.tide_model.proofs.PeriodLaws.{open_count-prefix}
use Rattle.tide_model.specs.Caller.{IsOwn}
use Rattle.tide_model.specs.Layout.{Layout}
use Rattle.tide_model.specs.Periods.{open_count}
use Rattle.tide_model.specs.Prefix.{IsPrefix}
use Rattle.tide_model.specs.Refused.{ShapeLists}
use Rattle.tide_model.specs.declared.entry.Event.{Event}
use Rattle.tide_heap.proofs.Members.{knows_as, member, member_ok, now_running, running, spend}
use Rattle.tide_heap.proofs.Runs.{runs_later}
use Rattle.tide_heap.proofs.Turning.{begin_here, below, end_here, hear_here, note_split, period_here}
use Rattle.tide_core.specs.machine.Progress.{HasWholeRound}
use Rattle.tide_heap.specs.Done.{HasDonePart, done_by_numbers}
use Rattle.tide_heap.specs.Rule.{Tabled, Rule}
use Rattle.tide_heap.specs.Turns.{heard_view, note_of, spent}
use Rattle.tide_heap.specs.steps.Plays.{HasBegun, HasStoppedPart}
use lib.ListN.{get_elem?}
use lib.Seq.{set-get_or}
use mathlib.Core.Option.{some}

abbrev M : Type 0
M = Me (Unit {0}) View

-- numbers that say so are right
numbers_say : (layout : Layout) (v : View) → done_by_numbers v ≡ true → HasDonePart layout v
numbers_say layout v says = elim (cases_Bool (nat_lt v.who 16)) [
  | inl few ↦ inl (grind (arith, nat_tests))
  | inr isnt ↦ elim (cases_Bool v.marks) [
    | inr unmarked ↦ inr (inl unmarked)
    | inl marks ↦ inr (inr (inl (ran (nat_lt v.visits v.run) refl
        (sym (ap (λ (x : Bool × Bool). x.0 || not x.1 || not (nat_lt v.visits v.run)) (λ i. (isnt i, marks i))) ∙ says))))
  ]
]
  where
    ran : (b : Bool) → nat_lt v.visits v.run ≡ b → not b ≡ true → v.run ≤ v.visits
    ran true e isnt = absurd (cc)
    ran false e isnt = (let over : ¬ (v.visits < v.run) = (λ h. grind (arith, nat_tests)) in omega (arith, over))

-- they say so of each that is no visitor, or for which no cycle marks, or that made enough cells black
pub numbers_tell : (v : View) → (v.who < first_visitor) ⊎ (v.marks ≡ false) ⊎ (v.run ≤ v.visits) →
    done_by_numbers v ≡ true
numbers_tell v has = says (nat_lt v.who 16) v.marks (nat_lt v.visits v.run) (tests has)
  where
    tests : (v.who < first_visitor) ⊎ (v.marks ≡ false) ⊎ (v.run ≤ v.visits) →
        (nat_lt v.who 16 ≡ true) ⊎ (v.marks ≡ false) ⊎ (nat_lt v.visits v.run ≡ false)
    tests (inl few) = inl (grind (arith, nat_tests))
    tests (inr (inl unmarked)) = inr (inl unmarked)
    tests (inr (inr ran)) = inr (inr (grind (arith, nat_tests)))

    none : (false ≡ true) ⊎ (true ≡ false) ⊎ (true ≡ false) → ⊥
    none (inl e) = cc
    none (inr (inl e)) = cc
    none (inr (inr e)) = cc

    says : (a b c : Bool) → (a ≡ true) ⊎ (b ≡ false) ⊎ (c ≡ false) → (a || not b || not c) ≡ true
    says true b c h = refl
    says false false c h = refl
    says false true false h = refl
    says false true true h = absurd (none h)

-- where its round is told rightly, so is it that the participant has done its part
pub tells_done : (layout : Layout) (v : View) (whole : Bool) →
    (done_by_numbers v ≡ false → ((whole ≡ true) ↔ HasWholeRound layout v)) →
    ((done_by_numbers v || whole) ≡ true) ↔ HasDonePart layout v
tells_done layout v whole round = by_test (done_by_numbers v) refl
  where
    is_whole : done_by_numbers v ≡ false → HasDonePart layout v → whole ≡ true
    is_whole isnt (inl few) = absurd (let yes = numbers_tell v (inl few) in cc)
    is_whole isnt (inr (inl unmarked)) = absurd (let yes = numbers_tell v (inr (inl unmarked)) in cc)
    is_whole isnt (inr (inr (inl ran))) = absurd (let yes = numbers_tell v (inr (inr ran)) in cc)
    is_whole isnt (inr (inr (inr rounded))) = (round isnt).1 rounded

    by_test : (b : Bool) → done_by_numbers v ≡ b → ((b || whole) ≡ true) ↔ HasDonePart layout v
    by_test true e = (λ _. numbers_say layout v e, λ _. refl)
    by_test false e = (λ is. inr (inr (inr ((round e).0 is))), is_whole e)

-- the Period word is the table's first
pub period_first : (layout : Layout) → 0 ≡ place_in layout region.Period 0
unfolding place_in base_of
period_first layout = refl

-- a load changes no word
pub unmoved : (layout : Layout) (shapes : ShapeLists) (s : State (Unit {0}) View) (i id : ℕ) (w : View) →
    Rule layout shapes record { words = s.words; homes = s.homes; views = set s.views id w } → (cs : List (ℕ × Unit {0})) →
    Rule layout shapes (stepped s i (get_or s.words i 0) id cs w keeps)
unmoved layout shapes s i id w r cs = subst (λ (ws : List ℕ). Rule layout shapes record {
  words = ws;
  homes = s.homes;
  views = set s.views id w;
}) (sym (set-get_or s.words i 0)) r

-- a participant that begins, by whether it began in this part before
abbrev begun_again : Bool → View → View
begun_again again v = if again then record v { runs = true; round = []; full = []; known = [] } else record v {
  runs = true;
  begun = v.ticket;
  born = 0;
  visits = 0;
  races = 0;
  round = [];
  full = [];
  known = [];
}

-- who begins has seen what it had, and made the calls that it had
pub seen_begun : (v : View) → ((begun_view v).seen ≡ v.seen) × ((begun_view v).mine ≡ v.mine)
seen_begun v = by_test (v.begun == v.ticket)
  where
    by_test : (b : Bool) → ((begun_again b v).seen ≡ v.seen) × ((begun_again b v).mine ≡ v.mine)
    by_test true = (refl, refl)
    by_test false = (refl, refl)

-- it runs, and is what it was
runs_begun : (v : View) → ((begun_view v).role ≡ v.role) × ((begun_view v).runs ≡ true)
runs_begun v = by_test (v.begun == v.ticket)
  where
    by_test : (b : Bool) → ((begun_again b v).role ≡ v.role) × ((begun_again b v).runs ≡ true)
    by_test true = (refl, refl)
    by_test false = (refl, refl)

-- who runs has seen no more openings than its ticket tells: the Period word counts those of the history
few_opens : (layout : Layout) (shapes : ShapeLists) (words : List ℕ) (views : List View) (log : List Event) (me : ℕ)
    (v : View) (k : Tabled layout shapes words views log) → get_elem? views me ≡ some v → v.role ≡ Member →
    v.runs ≡ true → open_count v.seen ≤ v.ticket
few_opens layout shapes words views log me v k there is act =
    let run = now_running layout shapes words views log me v k there
    (running layout shapes words views log me v k there is act) in
    let later = runs_later layout shapes words views log me v k there is act in
    let mine = (member layout shapes words views log me v k there is).2 in
    let seen : open_count v.seen ≤ open_count log = open_count-prefix v.seen log
    (subst (λ (x : View). IsPrefix x.seen log) (sym mine) (run.wave.known.seen v.who)) in
    let counted = run.wave.numbers.periods in
    let word = run.period in
    let close : k.cv.period ≤ v.period + 1 = elim (member_ok layout shapes words views log me v k there is).close [
      | inl gone ↦ absurd (later.2 gone)
      | inr close ↦ close
    ] in
    let past = later.0 in
    omega (arith, seen, counted, word, close, past)

-- what who runs has seen has no other calls of its own than those that it made
own_calls : (layout : Layout) (shapes : ShapeLists) (words : List ℕ) (views : List View) (log : List Event) (me : ℕ)
    (v : View) (k : Tabled layout shapes words views log) → get_elem? views me ≡ some v → v.role ≡ Member →
    v.runs ≡ true → IsOwn v.who v.seen v.mine
own_calls layout shapes words views log me v k there is act =
    let run = now_running layout shapes words views log me v k there
    (running layout shapes words views log me v k there is act) in
    subst (λ (x : View). IsOwn v.who x.seen x.mine) (sym (member layout shapes words views log me v k there is).2)
    (sym (run.wave.known.told v.who))

module _ (layout : Layout) (shapes : ShapeLists) where
  pub begins : (slots id : ℕ) (me : M) → me.0.role ≡ Member → me.0.runs ≡ false → me.0.left ≡ false →
      me.0.period < me.0.ticket → Allows (Rule layout shapes) slots id me 0 (λ x. x) (λ r b. HasBegun me.0 r b.0)
  begins slots id me is idle stays later s rule long there fits = (
    begun_view me.0,
    keeps,
    tt,
    unmoved layout shapes s 0 id (begun_view me.0) record { log = rule.log; tabled = tabled } me.1,
    record {
      view = refl;
      found = ap (λ (i : ℕ). get_or s.words i 0) (period_first layout)
          ∙ period_here layout shapes s.words s.views rule.log id me.0 rule.tabled there is idle stays later;
      earlier = subst (IsPrefix me.0.earlier) (sym (seen_begun me.0).0)
          (member_ok layout shapes s.words s.views rule.log id me.0 rule.tabled there is).earlier;
      told = subst (IsPrefix me.0.told) (sym (seen_begun me.0).0)
          (member_ok layout shapes s.words s.views rule.log id me.0 rule.tabled there is).heard;
      own = own_calls layout shapes s.words (set s.views id (begun_view me.0)) rule.log id (begun_view me.0) tabled
          (set_here s.views id (begun_view me.0) (below s.views id me.0 there)) ((runs_begun me.0).0 ∙ is) (runs_begun me.0).1;
    },
  )
    where
      tabled : Tabled layout shapes s.words (set s.views id (begun_view me.0)) rule.log
      tabled = begin_here layout shapes s.words s.views rule.log id me.0 rule.tabled there is idle stays later

  pub ends : (slots id : ℕ) (me : M) (at word : ℕ) → me.0.role ≡ Member → me.0.runs ≡ true → Rests me.0 →
      at ≡ place_in layout region.Stopped (index_of_stopped layout me.0.who) →
      index_of_stopped layout me.0.who < size_of layout region.Stopped → word ≡ me.0.ticket →
      Allows (Rule layout shapes) slots id me at (λ _. word) (λ _ b. HasStoppedPart me.0 b.0)
  ends slots id me at word is act rests place inside period s rule long there fits = (
    stopped_view me.0,
    keeps,
    tt,
    record {
      log = rule.log;
      tabled = subst (λ (x : ℕ × ℕ). Tabled layout shapes (set s.words x.0 x.1) (set s.views id (stopped_view me.0)) rule.log)
          (λ i. (sym place i, sym period i))
          (end_here layout shapes s.words s.views rule.log id me.0 rule.tabled there is act rests inside);
    },
    record { view = refl; opens = few_opens layout shapes s.words s.views rule.log id me.0 rule.tabled there is act },
  )

  -- a note that tells rightly whether its participant has done its part
  pub notes : (id : ℕ) (v : View) → v.role ≡ Member → v.runs ≡ false → v.begun ≡ v.ticket → v.period < v.ticket →
      (whole : Bool) → (done_by_numbers v ≡ false → ((whole ≡ true) ↔ HasWholeRound layout v)) →
      (done : Bool) → done ≡ (done_by_numbers v || whole) →
      Splits (Rule layout shapes) id v (split_view v) (note_of done v)
  notes id v is idle began later whole round done same s rule there = record {
    log = rule.log;
    tabled = note_split layout shapes s.words s.views rule.log id v rule.tabled there is idle began later done
        (subst (λ (b : Bool). (b ≡ true) ↔ HasDonePart layout v) (sym same) (tells_done layout v whole round));
  }

  pub hears : (id other : ℕ) (v u : View) → v.role ≡ Member → v.runs ≡ false → v.left ≡ false → u.role ≡ Ticket →
      v.period < u.period → Joins (Rule layout shapes) id v other u (heard_view v u) spent
  hears id other v u is idle stays is' later s rule there apart there' =
      let k = rule.tabled in
      let at : get_elem? s.views other ≡ some u = sym (set_else s.views id other (heard_view v u) apart) ∙ there' in
      let knows = knows_as layout k.cv k.part k.seat_of k.note_at rule.log other u Ticket is' (k.each other u at) in
      record {
        log = rule.log;
        tabled = (spend layout shapes s.words (set s.views id (heard_view v u)) rule.log other spent
            (hear_here layout shapes s.words s.views rule.log id v k there is u idle stays knows later) refl).0;
      }

-- word 0 is there
pub zero_below : (layout : Layout) (words : ℕ) → words ≡ word_count layout → 0 < words
zero_below layout words sized =
    (let b = Rattle.tide_core.proofs.tide_layout.Places.place_in-below layout region.Period 0 (omega arith) in omega (arith, b, sized))
