-- A step that makes an entry of a sweep, where no cycle marks: a block is taken, or swept.
use Rattle.std.proofs.Common.{ℕ, suc, ◌≡◌, ◌<◌, ◌≤◌, refl, sym, ◌∙◌, ap, subst, arith, Bool, true, false, List, [], ◌∷◌, ◌++◌, append-nil, inl, inr, Option, Some, None, length, length-append}
use Rattle.std.proofs.lemmas.List.Elements.{Contains-append_cases, filter-append}
use Rattle.std.specs.Prelude.{Contains, filter, if◌then◌else◌, not, ◌||◌}
use Rattle.tide_words.specs.tide_layout.declared.region.Region.{Region}
use Rattle.tide_core.proofs.machine_laws.steps.BareTables.{TablesAreBare-lawful}
use Rattle.tide_core.proofs.machine_laws.steps.Barriers.{still_owes}
use Rattle.tide_core.proofs.machine_laws.steps.Frames.{calls_view, each_put, held_view, stops_view}
use Rattle.tide_core.proofs.machine_laws.steps.GrowthsKept.{growth_kept}
use Rattle.tide_core.proofs.machine_laws.steps.IdleSteps.{is_left}
use Rattle.tide_core.proofs.machine_laws.steps.Lists.{in_one}
use Rattle.tide_core.proofs.machine_laws.steps.SameColours.{bits_same, is_black-same, is_grey-same, is_marked-same}
use Rattle.tide_core.specs.machine.Duties.{OwesColour, StillOwes}
use Rattle.tide_core.specs.machine.Looked.{FreeIsShown}
use Rattle.tide_core.specs.machine.Owed.{IsOwnWord, owed_word, own_array, own_element, own_pair, own_register, own_structure}
use Rattle.tide_core.specs.machine.RunningWave.{RunningWave}
use Rattle.tide_core.specs.machine.Scanning.{Place, slot, property}
use Rattle.tide_core.specs.machine.World.{World, parties}
use Rattle.tide_core.specs.declared.machine.view.Saw.{Saw}
use Rattle.tide_core.specs.declared.machine.view.Scan.{Scan}
use Rattle.tide_core.specs.declared.machine.view.Sweeping.{Sweeping}
use Rattle.tide_core.specs.declared.machine.view.View.{View}
use Rattle.tide_core.specs.machine.points.Arrays.{ArraysStand}
use Rattle.tide_core.specs.machine.points.Growths.{GrowthKnows}
use Rattle.tide_core.specs.machine.points.Links.{Excuses, IsExcused, LinkAt, ScanExcuses}
use Rattle.tide_core.specs.machine.points.Scans.{IsAtHand, held, scanned, buffered}
use Rattle.tide_core.specs.machine.points.SettledWords.{RunningWordsRead}
use Rattle.tide_core.specs.machine.points.Sweeps.{SweepsAreRight, SweptAreBelow}
use Rattle.tide_model.proofs.Histories.{IsLawful-push}
use Rattle.tide_model.proofs.OldLaws.{is_old-push, last_full-kept}
use Rattle.tide_model.proofs.SinceLaws.{count-push, since-push}
use Rattle.tide_model.proofs.Windows.{window_start-push}
use Rattle.tide_model.specs.History.{is_begin, is_call_of, is_open, state_after, state_at}
use Rattle.tide_model.specs.Lawful.{Stands}
use Rattle.tide_model.specs.Layout.{Layout, block_of_cell}
use Rattle.tide_model.specs.Numbers.{put_at}
use Rattle.tide_model.specs.Old.{is_old}
use Rattle.tide_model.specs.Prefix.{IsPrefix, prefix_push, prefix_refl, prefix_trans}
use Rattle.tide_model.specs.References.{IsLive, RefsAreLive}
use Rattle.tide_model.specs.Refused.{ShapeLists}
use Rattle.tide_model.specs.Room.{window_start}
use Rattle.tide_model.specs.Since.{is_end, is_of_part, since}
use Rattle.tide_model.specs.State.{CellState, State}
use Rattle.tide_model.specs.declared.entry.Event.{Event}
use Rattle.tide_model.specs.declared.val.Val.TheVariants.{Cell}
use Rattle.tide_sweep.specs.declared.port.Cleared.{Cleared}
use Rattle.tide_words.specs.heap.Heap.{Heap}
use Rattle.tide_words.specs.marking.Colours.{is_black, is_grey, is_marking, running_cycle}
use Rattle.tide_words.specs.marking.Marked.{base_cycle, is_marked}
use Rattle.tide_words.specs.marking.Marking.{bits_of}
use Rattle.tide_words.specs.tide_layout.declared.region.Region.TheVariants as region
use Rattle.tide_core.proofs.machine_laws.steps.Growing
use Rattle.tide_core.specs.declared.machine.view.Duty.TheVariants as duty
use Rattle.tide_core.specs.declared.machine.view.Growth.TheVariants as growth

module _ (layout : Layout) (shapes : ShapeLists) (w : World) (me : ℕ) (inside : me < parties)
    (wave : RunningWave layout shapes w) (runs : (w.part me).runs ≡ true) (idle : is_marking w.heap ≡ false)
    (event : Event) (stands : Stands layout shapes w.log event) (of_part : is_of_part event.entry ≡ true)
    (no_call : (who : ℕ) → is_call_of who event.entry ≡ false) (no_open : is_open event.entry ≡ false)
    (no_begin : is_begin event.entry ≡ false) (no_end : is_end event.entry ≡ false)
    (new : Heap) (sweeping : Option Sweeping) (saw : Option Saw) (cleared : List Cleared) where
  abbrev state : State
  state = state_after layout w.log

  abbrev pub longer : List Event
  longer = w.log ++ event ∷ []

  abbrev pub after : State
  after = state_after layout longer

  abbrev pub entry_view : View
  entry_view = record (w.part me) { seen = longer; sweeping = sweeping; saw = saw; cleared = cleared }

  pub record ShowsEntry : Type 0 where
    pub same : (at : Region) (index : ℕ) → is_left at ≡ true → new at index ≡ w.heap at index
    pub words : RunningWordsRead layout shapes new (put_at w.part me entry_view) after
    pub known : (p : ℕ) (at : Region) (index word : ℕ) → Contains (w.part p).known (owed_word at index word) → new at index ≡ word
    -- the words of own cells, and those cells
    pub structures : (p c : ℕ) → Contains (state.claims p) c → new region.Structure c ≡ w.heap region.Structure c
    pub own_arrays : (p c : ℕ) → Contains (state.claims p) c → new region.Array c ≡ w.heap region.Array c
    pub active : (p : ℕ) → after.active p ≡ state.active p
    pub claims : (p : ℕ) → after.claims p ≡ state.claims p
    pub cells : (cell : ℕ) → IsLive state cell → after.cells cell ≡ state.cells cell
    pub lived : (cell : ℕ) → IsLive after cell → IsLive state cell
    pub refs : RefsAreLive after
    pub arrays : ArraysStand layout new after
    pub swept : SweptAreBelow layout new
    pub sweeps : SweepsAreRight layout new (put_at w.part me entry_view) longer

  marks_not : {X : Type 0} → is_marking w.heap ≡ true → X
  marks_not marks = absurd (let both = sym marks ∙ idle in cc)

  scans_not : {X : Type 0} (p : ℕ) (scan : Scan) → (w.part p).scan ≡ Some scan → X
  scans_not p scan is = absurd (let none = wave.rests.scans idle p in let both = sym none ∙ is in cc)

  module _ (s : ShowsEntry) where
    phase : new region.Phase 0 ≡ w.heap region.Phase 0
    phase = s.same region.Phase 0 refl

    marking : is_marking new ≡ is_marking w.heap
    marking = ap (λ (p : ℕ). is_marking (λ at index. p)) phase

    running : running_cycle new ≡ running_cycle w.heap
    running = ap (λ (p : ℕ). running_cycle (λ at index. p)) phase

    base : base_cycle new ≡ base_cycle w.heap
    base = s.same region.Base 0 refl

    -- no cell has another colour, and the same ones are old
    same_marked : (cell : ℕ) → is_marked new cell ≡ is_marked w.heap cell
    same_marked cell = is_marked-same w.heap new cell base (s.same region.Colour cell refl)

    same_black : (cell : ℕ) → is_black new cell ≡ is_black w.heap cell
    same_black cell = is_black-same w.heap new cell base (s.same region.Colour cell refl)

    same_grey : (cell : ℕ) → is_grey new cell ≡ is_grey w.heap cell
    same_grey cell = is_grey-same w.heap new cell base (s.same region.Colour cell refl)

    same_bits : (cell : ℕ) → bits_of new cell ≡ bits_of w.heap cell
    same_bits cell = bits_same w.heap new cell (s.same region.GreyShared (block_of_cell cell) refl)
        (s.same region.GreyMutator (block_of_cell cell) refl) (s.same region.GreyRace (block_of_cell cell) refl)

    old_same : (cell : ℕ) → is_old layout longer cell ≡ is_old layout w.log cell
    old_same = is_old-push layout w.log event no_end

    -- a link of the state after it is one from before, and its excuse is so still
    link_before : (source : ℕ) (place : Place) (cell : ℕ) → LinkAt after source place cell → LinkAt state source place cell
    link_before source (slot n) cell link = let lived = s.lived source link.0 in
        (lived, subst (λ (c : CellState). c.slots n ≡ Cell cell) (s.cells source lived) link.1)
    link_before source (property n) cell link = let lived = s.lived source link.0 in
        let same = s.cells source lived in
        (lived, subst (λ (c : CellState). n < length c.keys) same link.1, subst (λ (c : CellState). c.properties n ≡ Cell cell) same link.2)

    excuse_now : (p source : ℕ) (place : Place) (cell : ℕ) → Excuses w.heap source place cell (w.part p) →
        StillOwes new (w.part p).duty source
    excuse_now p source place cell (inl owes) = still_owes w.heap new (w.part p).duty source (s.same region.Colour source refl) owes
    excuse_now p source place cell (inr scans) =
        absurd (subst (ScanExcuses w.heap source place cell) (wave.rests.scans idle p) scans)

    excused_now : (source : ℕ) (place : Place) (cell : ℕ) → IsExcused w.heap w.part source place cell →
        IsExcused new (put_at w.part me entry_view) source place cell
    excused_now source place cell e = record {
      by = e.by;
      excuse = inl (each_put (λ p u. StillOwes new (w.part p).duty source → StillOwes new u.duty source) w.part me entry_view
          (λ owes. owes) (λ p owes. owes) e.by (excuse_now e.by source place cell e.excuse));
    }

    told_now : (p : ℕ) → (w.part p).runs ≡ true → ((w.part p).marks ≡ is_marking new) × ((w.part p).cycle ≡ running_cycle new) ×
        ((w.part p).begun ≡ new region.Period 0) × ((w.part p).mark_version ≡ base_cycle new)
    told_now p is = let t = wave.numbers.told p is in
        (t.0 ∙ sym marking, t.1 ∙ sym running, t.2 ∙ sym (s.same region.Period 0 refl), t.3 ∙ sym base)

    now_not : {X : Type 0} → is_marking new ≡ true → X
    now_not marks = marks_not (sym marking ∙ marks)

    none_scans : (p : ℕ) (scan : Scan) → (put_at w.part me entry_view p).scan ≡ Some scan → ⊥
    none_scans = each_put (λ p u. (scan : Scan) → u.scan ≡ Some scan → ⊥) w.part me entry_view (scans_not me) scans_not

    own_now : (p : ℕ) (at : Region) (index : ℕ) → IsOwnWord layout state p at index → IsOwnWord layout after p at index
    own_now p _ _ (own_register r a b) = own_register r a b
    own_now p _ _ (own_structure c at) = own_structure c (subst (λ (l : List ℕ). Contains l c) (sym (s.claims p)) at)
    own_now p _ _ (own_array c at) = own_array c (subst (λ (l : List ℕ). Contains l c) (sym (s.claims p)) at)
    own_now p _ _ (own_pair t k at one has) = own_pair t k (subst (λ (l : List ℕ). Contains l t) (sym (s.claims p)) at) one has
    own_now p _ _ (own_element c a k at is has) = own_element c a k
        (subst (λ (l : List ℕ). Contains l c) (sym (s.claims p)) at)
        (ap (λ x. x.array) (s.cells c (wave.refs.claimed p c at)) ∙ is) has

    own_log : (p : ℕ) → filter (λ (e : Event). is_call_of p e.entry) longer ≡ (w.part p).mine
    own_log p = filter-append (λ (e : Event). is_call_of p e.entry) w.log (event ∷ [])
        ∙ ap (λ (b : Bool). filter (λ (e : Event). is_call_of p e.entry) w.log ++ (if b then event ∷ [] else [])) (no_call p)
        ∙ append-nil (filter (λ (e : Event). is_call_of p e.entry) w.log) ∙ wave.known.own p

    window_same : (p : ℕ) → window_start p longer ≡ window_start p w.log
    window_same p = window_start-push p w.log event
        ∙ ap (λ (b : Bool). if b || is_open event.entry then suc (length w.log) else window_start p w.log) (no_call p)
        ∙ ap (λ (b : Bool). if b then suc (length w.log) else window_start p w.log) no_open

    growth_now : (p : ℕ) → GrowthKnows new after p (w.part p) (w.part p).growth
    growth_now p = growth_kept w.heap new state after p (w.part p) (w.part p) (s.structures p) (s.own_arrays p)
        (λ c at. subst (λ (l : List ℕ). Contains l c) (sym (s.claims p)) at)
        (λ c a at is. ap (λ x. x.array) (s.cells c (wave.refs.claimed p c at)) ∙ is)
        (λ c x o. o) (λ c x o. o) (λ i x o. o) (w.part p).growth (wave.growths.knows p)

    pub idle_entry : RunningWave layout shapes (record { heap = new; part = put_at w.part me entry_view; log = longer })
    idle_entry = record {
      lawful = IsLawful-push layout shapes w.log event wave.lawful stands;
      part_alone = λ e at. elim (Contains-append_cases (since is_open w.log) (event ∷ []) e
          (subst (λ (l : List Event). Contains l e) (since-push is_open w.log event no_open) at)) [
            | inl before ↦ wave.part_alone e before
            | inr now ↦ subst (λ (x : Event). is_of_part x.entry ≡ true) (in_one event e now) of_part
          ];
      known = record {
        who = each_put (λ p u. u.who ≡ p) w.part me entry_view (wave.known.who me) wave.known.who;
        seen = each_put (λ p u. IsPrefix u.seen longer) w.part me entry_view (prefix_refl longer)
            (λ p. prefix_trans (w.part p).seen w.log longer (wave.known.seen p) (prefix_push w.log event));
        own = each_put (λ p u. filter (λ (e : Event). is_call_of p e.entry) longer ≡ u.mine) w.part me entry_view (own_log me) own_log;
        told = each_put (λ p u. filter (λ (e : Event). is_call_of p e.entry) u.seen ≡ u.mine) w.part me entry_view (own_log me)
            wave.known.told;
      };
      numbers = record {
        cycles = running ∙ wave.numbers.cycles ∙ sym (Growing.begin_count-push layout w.log event no_begin);
        periods = (let counted = count-push (λ e. is_open e.entry) w.log event in
            let none = ap {B = ℕ} (λ (b : Bool). if b then 1 else 0) no_open in
            let was = wave.numbers.periods in let p = s.same region.Period 0 refl in omega (arith, counted, none, was, p));
        told = each_put (λ p u. u.runs ≡ true → (u.marks ≡ is_marking new) × (u.cycle ≡ running_cycle new) ×
            (u.begun ≡ new region.Period 0) × (u.mark_version ≡ base_cycle new)) w.part me entry_view (told_now me) told_now;
        begun = each_put (λ p u. u.begun ≤ new region.Period 0) w.part me entry_view
            (let b = wave.numbers.begun me in let e = s.same region.Period 0 refl in omega (arith, b, e))
            (λ p. let b = wave.numbers.begun p in let e = s.same region.Period 0 refl in omega (arith, b, e));
      };
      calls = calls_view layout w.heap new w.part me entry_view refl (λ p. s.same region.Call p refl) wave.calls;
      stops = stops_view layout w.heap new w.part me entry_view refl (λ i. s.same region.Stopped i refl) wave.stops;
      words = s.words;
      kept = record {
        reads = each_put (λ p u. (at : Region) (index word : ℕ) → Contains u.known (owed_word at index word) →
            Rattle.tide_words.proofs.heap_laws.Frames.is_read at ≡ true) w.part me entry_view (wave.kept.reads me) wave.kept.reads;
        owns = each_put (λ p u. (at : Region) (index word : ℕ) → Contains u.known (owed_word at index word) →
            IsOwnWord layout after p at index) w.part me entry_view
            (λ at index word is. own_now me at index (wave.kept.owns me at index word is))
            (λ p at index word is. own_now p at index (wave.kept.owns p at index word is));
        known = each_put (λ p u. (at : Region) (index word : ℕ) → Contains u.known (owed_word at index word) →
            new at index ≡ word) w.part me entry_view (s.known me) s.known;
        full = each_put (λ p u. (block moment word : ℕ) →
            Contains u.full (record { block = block; moment = moment; word = word }) →
            (window_start p longer ≤ moment) × (moment ≤ length longer) ×
            FreeIsShown layout (state_at layout longer moment) block word) w.part me entry_view (full_now me) full_now;
      };
      refs = s.refs;
      few_cycles = (let few = wave.few_cycles in omega (arith, few, running));
      colours = λ cell within. (let c = s.same region.Colour cell refl in let few = wave.colours cell within in
          omega (arith, c, few, running));
      hands = record {
        cells = each_put (λ p u. (cell : ℕ) → IsAtHand u cell → IsLive after cell) w.part me entry_view
            (λ cell at. absurd (nothing_at_hand me cell (elim at [
              | held is ↦ held is
              | scanned scan is e ↦ scanned scan is e
              | buffered scan is e ↦ buffered scan is e
            ]))) (λ p cell at. absurd (nothing_at_hand p cell at));
        arrays = λ p array scan is. absurd (none_scans p scan is);
      };
      held = held_view layout w.heap new w.part me entry_view inside (λ cell within few. (let bits = same_bits cell in let grey =
          ap {B = ℕ} (λ (b : Bool). if b then 1 else 0) (same_grey cell) in omega (arith, bits, grey))) wave.held;
      rests = record {
        held = λ rests. each_put (λ p u. u.held ≡ []) w.part me entry_view (wave.rests.held idle me) (wave.rests.held idle);
        scans = λ rests. each_put (λ p u. u.scan ≡ None) w.part me entry_view (wave.rests.scans idle me) (wave.rests.scans idle);
      };
      black = record {
        excused = λ source place cell link black white. excused_now source place cell
            (wave.black.excused source place cell (link_before source place cell link) (sym (same_black source) ∙ black)
            (sym (same_marked cell) ∙ white));
      };
      retained = record {
        marked = λ marks. now_not marks;
        scanned = λ p scan is. absurd (none_scans p scan is);
        buffered = λ p cell scan is. absurd (none_scans p scan is);
      };
      span = record {
        roots = λ marks. now_not marks;
        links = λ marks. now_not marks;
        triples = λ marks. now_not marks;
        group_mates = λ marks. now_not marks;
      };
      old = record {
        old = λ when cell within is. same_marked cell ∙ wave.old.old (λ marks. marks_not marks) cell within (sym (old_same cell) ∙ is);
        rests = λ rests cell within is. old_same cell ∙ wave.old.rests idle cell within (sym (same_marked cell) ∙ is);
        base = base ∙ wave.old.base ∙ sym (last_full-kept w.log event no_begin);
      };
      born = record {
        born = λ marks. now_not marks;
        owed = λ marks. now_not marks;
        white = each_put (λ p u. (cell : ℕ) → OwesColour u.duty cell → is_marked new cell ≡ false) w.part me entry_view
            (λ cell owes. same_marked cell ∙ wave.born.white me cell owes) (λ p cell owes. same_marked cell ∙ wave.born.white p cell owes);
        alive = each_put (λ p u. (cell : ℕ) → OwesColour u.duty cell → IsLive after cell) w.part me entry_view
            (λ cell owes. still_live cell (wave.born.alive me cell owes)) (λ p cell owes. still_live cell (wave.born.alive p cell owes));
        owner = wave.born.owner;
        once = each_put (λ p u. (cell : ℕ) → OwesColour u.duty cell → wave.born.owner cell ≡ p) w.part me entry_view
            (wave.born.once me) wave.born.once;
      };
      counted = record { counted = λ marks. now_not marks };
      waits = λ marks. now_not marks;
      scans = record { knows = λ p scan is. absurd (none_scans p scan is) };
      targets = record { right = λ p scan target is. absurd (none_scans p scan is) };
      growths = record {
        knows = each_put (λ p u. GrowthKnows new after p u u.growth) w.part me entry_view
            (growth_kept new new after after me (w.part me) entry_view (λ c at. refl) (λ c at. refl) (λ c at. at)
            (λ c a at is. is) (λ c x o. o) (λ c x o. o) (λ i x o. o) (w.part me).growth (growth_now me)) growth_now;
      };
      grows = record { beyond = λ marks. now_not marks };
      arrays = s.arrays;
      bare = TablesAreBare-lawful layout shapes longer (IsLawful-push layout shapes w.log event wave.lawful stands);
      swept = s.swept;
      sweeps = s.sweeps;
      left = each_put (λ p u. u.left ≡ not (after.active p)) w.part me entry_view
          (wave.left me ∙ ap not (sym (s.active me))) (λ p. wave.left p ∙ ap not (sym (s.active p)));
      parked = record {
        held = each_put (λ p u. u.runs ≡ false → u.held ≡ []) w.part me entry_view stopped wave.parked.held;
        scan = each_put (λ p u. u.runs ≡ false → u.scan ≡ None) w.part me entry_view stopped wave.parked.scan;
        owed = each_put (λ p u. u.runs ≡ false → u.owed ≡ []) w.part me entry_view stopped wave.parked.owed;
        duty = each_put (λ p u. u.runs ≡ false → u.duty ≡ duty.Nothing) w.part me entry_view stopped wave.parked.duty;
        growth = each_put (λ p u. u.runs ≡ false → u.growth ≡ growth.Nothing) w.part me entry_view stopped wave.parked.growth;
        known = each_put (λ p u. u.runs ≡ false → u.known ≡ []) w.part me entry_view stopped wave.parked.known;
        full = each_put (λ p u. u.runs ≡ false → u.full ≡ []) w.part me entry_view stopped wave.parked.full;
        calls = each_put (λ p u. u.runs ≡ false → u.calls ≡ length u.mine) w.part me entry_view stopped wave.parked.calls;
        sweeping = each_put (λ p u. u.runs ≡ false → u.sweeping ≡ None) w.part me entry_view stopped wave.parked.sweeping;
        saw = each_put (λ p u. u.runs ≡ false → u.saw ≡ None) w.part me entry_view stopped wave.parked.saw;
        cleared = each_put (λ p u. u.runs ≡ false → u.cleared ≡ []) w.part me entry_view stopped wave.parked.cleared;
      };
    }
      where
        stopped : {X : Type 0} → (w.part me).runs ≡ false → X
        stopped is = absurd (cc)

        still_live : (cell : ℕ) → IsLive state cell → IsLive after cell
        still_live cell alive = ap (λ x. x.status) (s.cells cell alive) ∙ alive

        nothing_at_hand : (p cell : ℕ) → IsAtHand (w.part p) cell → ⊥
        nothing_at_hand p cell (held is) =
            (let below = (subst (λ (l : List ℕ). Contains l cell) (wave.rests.held idle p) is).1 in omega (arith, below))
        nothing_at_hand p cell (scanned scan is at) = scans_not p scan is
        nothing_at_hand p cell (buffered scan is at) = scans_not p scan is

        full_now : (p block moment word : ℕ) → Contains (w.part p).full (record { block = block; moment = moment; word = word }) →
            (window_start p longer ≤ moment) × (moment ≤ length longer) × FreeIsShown layout (state_at layout longer moment) block word
        full_now p block moment word is = let was = wave.kept.full p block moment word is in (
          subst (λ (n : ℕ). n ≤ moment) (sym (window_same p)) was.0,
          (let l = length-append w.log (event ∷ []) in let m = was.1 in omega (arith, l, m)),
          subst (λ (t : State). FreeIsShown layout t block word) (sym (Growing.state_at-push layout w.log event moment was.1)) was.2,
        )
