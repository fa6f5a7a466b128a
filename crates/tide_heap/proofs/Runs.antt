-- A step that keeps the wave keeps the rule of the table.
use Rattle.std.proofs.Common.{ℕ, ◌≡◌, ◌<◌, ◌⊎◌, List, [], get_or, set, sym, ◌∙◌, ap, subst, arith, inl, inr, MatchBool}
use Rattle.std.proofs.lemmas.Bool.Decides.{nat_tests}
use Rattle.std.specs.Prelude.{true, false, ◌==◌, Option, None, Some, slice_get}
use Rattle.atomic_table.specs.Table as table
use Rattle.atomic_table.specs.Table.{State, Me, keeps, stepped, Allows, Valid}
use Rattle.tide_core.specs.tide_layout.Limits.{IsWithinLimits}
use Rattle.tide_core.specs.tide_layout.Region.{size_of, place_in, tag}
use Rattle.tide_core.specs.tide_layout.declared.region.Region.{Region}
use Rattle.tide_core.specs.tide_layout.declared.region.Region.TheVariants as region
use Rattle.tide_core.specs.machine.Entries.{added}
use Rattle.tide_core.specs.machine.Kind.{acted}
use Rattle.tide_core.specs.machine.RunningWave.{RunningWave}
use Rattle.tide_core.specs.machine.World.{parties}
use Rattle.tide_core.specs.declared.machine.act.Act.{Act}
use Rattle.tide_core.specs.declared.machine.view.Role.TheVariants.{Member}
use Rattle.tide_core.specs.declared.machine.view.View.{View}
use Rattle.tide_model.proofs.NumberLaws.{put_at_elim}
use Rattle.tide_model.specs.History.{state_after}
use Rattle.tide_model.specs.Layout.{Layout}
use Rattle.tide_model.specs.Numbers.{put_at}
use Rattle.tide_model.specs.Prefix.{IsPrefix, prefix_refl, prefix_push, prefix_trans}
use Rattle.tide_model.specs.Refused.{ShapeLists}
use Rattle.tide_model.specs.declared.entry.Event.{Event}
use Rattle.tide_heap.proofs.Births.{Counts, births_added, start-added}
use Rattle.tide_heap.proofs.Leaving.{inactive-push}
use Rattle.tide_heap.proofs.Members.{member, member_ok, member_step, running, now_running, few_parties}
use Rattle.tide_heap.specs.Parties.{In}
use Rattle.tide_heap.specs.Rule.{MemberOk, IsFrozen, IsRunning, Tabled, Rule}
use Rattle.tide_core.proofs.tide_words.heap_laws.HeapLaws.{reads_write, write-other_region}
use Rattle.tide_core.specs.tide_words.heap.Heap.{Heap, write, Reads}
use Rattle.tide_core.specs.tide_words.marking.Colours.{is_marking, running_cycle}
use lib.ListN.{get_elem?}
use mathlib.Core.Option.{some}

-- a view beside the collector's after a step of its own, while its note isn't in
pub record Turns (layout : Layout) (v u : View) : Type 0 where
  pub role : u.role ≡ Member
  pub who : u.who ≡ v.who
  pub period : u.period ≡ v.period
  pub ticket : u.ticket ≡ v.ticket
  pub marks : u.marks ≡ v.marks
  pub cycle : u.cycle ≡ v.cycle
  pub mark_version : u.mark_version ≡ v.mark_version
  pub run : u.run ≡ v.run
  pub runs : u.runs ≡ true → v.period < v.ticket
  pub still : v.who < layout.mutators → v.visits ≡ 0 → u.visits ≡ 0
  pub mutator : u.left ≡ true → (v.left ≡ true) ⊎ (v.who < layout.mutators)
  pub earlier : u.earlier ≡ v.earlier
  pub told : u.told ≡ v.told
  pub grows : IsPrefix v.seen u.seen
  pub ended : u.runs ≡ false → u.stopped ≡ u.begun

turned_ok : (layout : Layout) (cv v u : View) → MemberOk layout cv v v.who → v.period < cv.period →
    (In v.who cv.gone → ⊥) → Turns layout v u → MemberOk layout cv u v.who
turned_ok layout cv v u ok later stays t = let p = t.period in let q = t.ticket in record {
  role = t.role;
  behind = (let b = ok.behind in omega (arith, b, p, q));
  close = elim ok.close [ inl a ↦ inl a | inr a ↦ inr (omega (arith, a, p)) ];
  ticket = (let b = ok.ticket in omega (arith, b, q));
  runs = λ e. (let b = t.runs e in omega (arith, b, p, q));
  told = λ e. (let h = ok.told (sym q ∙ e) in record {
    marks = t.marks ∙ h.marks;
    cycle = t.cycle ∙ h.cycle;
    mark_version = t.mark_version ∙ h.mark_version;
    run = t.run ∙ h.run;
  });
  still = λ below. t.still below (ok.still below);
  mutator = λ e. elim (t.mutator e) [ inl before ↦ ok.mutator before | inr below ↦ below ];
  earlier = subst (λ (l : List Event). IsPrefix l u.seen) (sym t.earlier)
      (prefix_trans v.earlier v.seen u.seen ok.earlier t.grows);
  heard = subst (λ (l : List Event). IsPrefix l u.seen) (sym t.told)
      (prefix_trans v.told v.seen u.seen ok.heard t.grows);
  calls = λ noted a e. absurd (elim (ok.calls noted a e).0 [ inl b ↦ not_in b | inr b ↦ stays b ]);
  ended = t.ended;
  halted = λ a. absurd (not_in a);
  noted = λ a. absurd (let b = (ok.noted a).0 in omega (arith, b, later));
  gone = λ a. absurd (stays a);
  over = λ a. absurd (stays a);
  leaves = λ a. absurd (not_in a);
  began = λ a. absurd (not_in a);
  done = λ a. absurd (not_in a);
}
  where
    not_in : In v.who cv.notes → ⊥
    not_in a = (let b = (ok.noted a).0 in omega (arith, b, later))

grows_by : (log : List Event) (event : Option Event) → IsPrefix log (added log event)
grows_by log None = prefix_refl log
grows_by log (Some event) = prefix_push log event

inactive-added : (layout : Layout) (log : List Event) (event : Option Event) (i : ℕ) →
    (state_after layout log).active i ≡ false → (state_after layout (added log event)).active i ≡ false
inactive-added layout log None i h = h
inactive-added layout log (Some event) i h = inactive-push layout log event i h

module _ (layout : Layout) (shapes : ShapeLists) (words : List ℕ) (views : List View) (log : List Event) (me : ℕ)
    (v : View) (k : Tabled layout shapes words views log) (there : get_elem? views me ≡ some v) where
  -- a step of its own in a running part
  pub turn : (u : View) (words' : List ℕ) (event : Option Event) → v.role ≡ Member → v.period < k.cv.period →
      (In v.who k.cv.gone → ⊥) → Turns layout v u → Counts k.cv.period v u event →
      (u.left ≡ true → (state_after layout (added log event)).active v.who ≡ false) →
      ((added log event ≡ log) × (log ≡ v.seen → log ≡ u.seen)) ⊎ (added log event ≡ u.seen) → k.cv.frozen ≡ false →
      IsRunning layout shapes words' (added log event) k.cv (put_at k.part v.who u) →
      Tabled layout shapes words' (set views me u) (added log event)
  turn u words' event is later stays t counts gone tip thawed run =
      member_step layout shapes words views log me v k there u words' (added log event) is t.role t.who
      (grows_by log event)
      (λ j x h. record {
        behind = (let b = h.behind in let p = t.period in omega (arith, b, p));
        now = λ e. absurd (let b = h.behind in omega (arith, b, e, later));
        one = h.one;
        out = h.out;
        began = λ e. absurd (let b = h.behind in omega (arith, b, e, later));
        done = λ e. absurd (let b = h.behind in omega (arith, b, e, later));
      })
      (turned_ok layout k.cv v u (member_ok layout shapes words views log me v k there is) later stays t)
      (λ a. absurd (not_in a)) (λ a. absurd (not_in a))
      (births_added k.cv.period k.part log v u event (member layout shapes words views log me v k there is).2 counts k.births)
      (start-added v.who k.cv.start log event counts.own k.start)
      (put_at_elim (λ i x. x.left ≡ true → (state_after layout (added log event)).active i ≡ false) k.part v.who u gone
      (λ i other e. inactive-added layout log event i (k.retired i e)))
      tip
      (subst (λ b. MatchBool b (IsFrozen layout shapes words' (added log event) k.cv (put_at k.part v.who u))
      (IsRunning layout shapes words' (added log event) k.cv (put_at k.part v.who u))) (sym thawed) run)
    where
      not_in : In v.who k.cv.notes → ⊥
      not_in a = (let n = ((member_ok layout shapes words views log me v k there is).noted a).0 in omega (arith, n, later))

  -- who runs is neither noted nor gone
  pub runs_later : v.role ≡ Member → v.runs ≡ true →
      (v.period < v.ticket) × (v.period < k.cv.period) × (In v.who k.cv.gone → ⊥)
  runs_later is act =
      let ok = member_ok layout shapes words views log me v k there is in
      let later = ok.runs act in
      let few = ok.ticket in
      (later, omega (arith, later, few), λ a. let stopped = (ok.gone a).1 in absurd (cc))

no_period : (heap : Heap) (at : Region) (index word : ℕ) → (tag at == 0) ≡ false →
    write heap at index word region.Period 0 ≡ heap region.Period 0
no_period heap at index word apart = write-other_region heap at region.Period index 0 word (other (tag at) apart)
  where
    other : (n : ℕ) → (n == 0) ≡ false → (0 == n) ≡ false
    other n e = grind (arith, nat_tests)

no_phase : (heap : Heap) (at : Region) (index word : ℕ) → (tag at == 1) ≡ false →
    write heap at index word region.Phase 0 ≡ heap region.Phase 0
no_phase heap at index word apart = write-other_region heap at region.Phase index 0 word (other (tag at) apart)
  where
    other : (n : ℕ) → (n == 1) ≡ false → (1 == n) ≡ false
    other n e = grind (arith, nat_tests)

no_base : (heap : Heap) (at : Region) (index word : ℕ) → (tag at == 2) ≡ false →
    write heap at index word region.Base 0 ≡ heap region.Base 0
no_base heap at index word apart = write-other_region heap at region.Base index 0 word (other (tag at) apart)
  where
    other : (n : ℕ) → (n == 2) ≡ false → (2 == n) ≡ false
    other n e = grind (arith, nat_tests)

-- a participant's step leaves the words of the period, of the phase and of the base
pub record Leaves (at : Region) : Type 0 where
  pub period : (tag at == 0) ≡ false
  pub phase : (tag at == 1) ≡ false
  pub base : (tag at == 2) ≡ false

-- a step that keeps the wave wherever this view makes it, as functions of the history before it and of the word found
abbrev pub Law : Layout → ShapeLists → Region → ℕ → Act → (List Event → ℕ → View) →
    (List Event → ℕ → Option Event) → View → Type 0
Law layout shapes at index act after event v =
    (heap : Heap) (part : ℕ → View) (log : List Event) →
    RunningWave layout shapes (record { heap = heap; part = part; log = log }) → part v.who ≡ v →
    RunningWave layout shapes (record {
      heap = write heap at index (acted act (heap at index));
      part = put_at part v.who (after log (heap at index));
      log = added log (event log (heap at index));
    })

-- what such a step leaves of a view that runs
pub record Stays (layout : Layout) (log : List Event) (v : View) (event : Option Event) (u : View) : Type 0 where
  pub turns : v.period < v.ticket → Turns layout v u
  pub gone : v.left ≡ false → u.left ≡ true → (state_after layout (added log event)).active v.who ≡ false
  pub tip : ((added log event ≡ log) × (log ≡ v.seen → log ≡ u.seen)) ⊎ (added log event ≡ u.seen)
  pub counts : (period : ℕ) → v.begun ≡ period → Counts period v u event

pub allows : (layout : Layout) (shapes : ShapeLists) (slots id : ℕ) (me : Me (Unit {0}) View) (at : Region) (index : ℕ)
    (act : Act) (after : List Event → ℕ → View) (event : List Event → ℕ → Option Event) (word : ℕ)
    (Tells : ℕ → View → Type 0) →
    me.0.role ≡ Member → me.0.runs ≡ true → index < size_of layout at → word ≡ place_in layout at index →
    (IsWithinLimits layout → slice_get shapes 0 ≡ Some [] → me.0.who < parties →
    Law layout shapes at index act after event me.0) →
    (IsWithinLimits layout → (heap : Heap) (part : ℕ → View) (log : List Event) →
    RunningWave layout shapes (record { heap = heap; part = part; log = log }) → part me.0.who ≡ me.0 →
    Leaves at × Stays layout log me.0 (event log (heap at index)) (after log (heap at index))) →
    ((heap : Heap) (part : ℕ → View) (log : List Event) →
    RunningWave layout shapes (record { heap = heap; part = part; log = log }) → part me.0.who ≡ me.0 →
    RunningWave layout shapes (record {
      heap = write heap at index (acted act (heap at index));
      part = put_at part me.0.who (after log (heap at index));
      log = added log (event log (heap at index));
    }) → Tells (heap at index) (after log (heap at index))) →
    Allows (Rule layout shapes) slots id me word (acted act) (λ r m. Tells r m.0)
allows layout shapes slots id me at index act after event word Tells is act_now inside at_word law stays tells s rule
    long there fits =
    let k = rule.tabled in
    let log = rule.log in
    let v = me.0 in
    let mine = member layout shapes s.words s.views log id v k there is in
    let thawed = running layout shapes s.words s.views log id v k there is act_now in
    let run = now_running layout shapes s.words s.views log id v k there thawed in
    let h = run.heap in
    let r = h at index in
    let u = after log r in
    let later = runs_later layout shapes s.words s.views log id v k there is act_now in
    let next = law k.limits k.empty_shape (few_parties layout k.limits v.who mine.0) h k.part log run.wave (sym mine.2) in
    let (leaves, stay) = stays k.limits h k.part log run.wave (sym mine.2) in
    let begun : v.begun ≡ k.cv.period = ap (λ (x : View). x.begun) mine.2
    ∙ (run.wave.numbers.told v.who (ap (λ (x : View). x.runs) (sym mine.2) ∙ act_now)).2 ∙ run.period in
    let e : get_or s.words word 0 ≡ r = ap (λ (i : ℕ). get_or s.words i 0) at_word ∙ run.reads.each at index inside in
    subst (λ (z : ℕ). (w : View) × (a : table.Act (Unit {0})) × Valid s.homes me.1 a
    × Rule layout shapes (stepped s word (acted act z) id me.1 w a) × Tells z w) (sym e) (
      u,
      keeps,
      tt,
      record {
        log = added log (event log r);
        tabled = turn layout shapes s.words s.views log id v k there u (set s.words word (acted act r)) (event log r) is
            later.1 later.2 (stay.turns later.0) (stay.counts k.cv.period begun)
            (λ e. gone_of u (event log r) e (stay.gone) (λ before. k.retired v.who (subst (λ (x : View). x.left ≡ true) mine.2 before)))
            stay.tip thawed record {
              heap = write h at index (acted act r);
              reads = subst (λ (i : ℕ). Reads layout (set s.words i (acted act r)) (write h at index (acted act r)))
                  (sym at_word) (reads_write layout s.words h at index (acted act r) run.reads inside);
              wave = next;
              period = no_period h at index (acted act r) leaves.period ∙ run.period;
              marks = run.marks ∙ ap (λ (x : ℕ). is_marking (λ at index. x))
                  (sym (no_phase h at index (acted act r) leaves.phase));
              cycle = run.cycle ∙ ap (λ (x : ℕ). running_cycle (λ at index. x))
                  (sym (no_phase h at index (acted act r) leaves.phase));
              based = run.based ∙ sym (no_base h at index (acted act r) leaves.base);
              some_run = run.some_run;
            };
      },
      tells h k.part log run.wave (sym mine.2) next,
    )
  where
    gone_of : (u : View) (event : Option Event) → u.left ≡ true →
        (me.0.left ≡ false → u.left ≡ true → (state_after layout (added rule.log event)).active me.0.who ≡ false) →
        (me.0.left ≡ true → (state_after layout rule.log).active me.0.who ≡ false) →
        (state_after layout (added rule.log event)).active me.0.who ≡ false
    gone_of u event e now before = elim (Rattle.std.proofs.lemmas.Bool.cases_Bool me.0.left) [
      | inl left ↦ inactive-added layout rule.log event me.0.who (before left)
      | inr stays ↦ now stays e
    ]
