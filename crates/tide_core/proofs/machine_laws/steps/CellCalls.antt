-- A call that changes what one live cell holds, by one word, keeps the wave.
use Rattle.std.proofs.Common.{ℕ, ◌≡◌, ◌≢◌, ◌<◌, ◌≤◌, ◌⊎◌, ◌==◌, refl, sym, ◌∙◌, ap, subst, Bool, true, false, List, [], ◌∷◌, ◌++◌, inl, inr, Some, None}
use Rattle.std.proofs.lemmas.Bool.{cases_Bool, ne_eqb, eqb-true, and_parts}
use Rattle.std.specs.Prelude.{Contains, if◌then◌else◌, ◌&&◌, not}
use Rattle.tide_core.specs.wave.FrozenWave.{is_birth_of}
use Rattle.tide_words.specs.tide_layout.Region.{tag}
use Rattle.tide_words.specs.tide_layout.declared.region.Region.{Region}
use Rattle.tide_core.proofs.machine_laws.steps.Calls.{OfState, call_step, is_uncalled}
use Rattle.tide_core.proofs.machine_laws.steps.Frames.{each_put, calls_view}
use Rattle.tide_core.proofs.machine_laws.steps.GrowthsKept.{growth_kept}
use Rattle.tide_core.proofs.machine_laws.steps.Lists.{nothing_in}
use Rattle.tide_core.proofs.machine_laws.steps.SweepsKept.{named_kept}
use Rattle.tide_core.proofs.machine_laws.steps.Unsettled.{given_put, unsettled_write, unsettles_put}
use Rattle.tide_core.specs.machine.Duties.{OwesColour, AwaitsLoad, StillOwes}
use Rattle.tide_core.specs.machine.Entries.{call_of}
use Rattle.tide_core.specs.machine.Owed.{owed_word, Owes, IsOwnWord, own_register, own_structure, own_array, own_pair, own_element, Unsettles}
use Rattle.tide_core.specs.machine.RunningWave.{RunningWave}
use Rattle.tide_core.specs.machine.Scanning.{IsTrue, Place, property}
use Rattle.tide_core.specs.machine.Words.{count_of}
use Rattle.tide_core.specs.machine.World.{World, parties, pushes}
use Rattle.tide_core.specs.declared.machine.view.Duty.{Duty}
use Rattle.tide_core.specs.declared.machine.view.Owed.{Owed}
use Rattle.tide_core.specs.declared.machine.view.Scan.{Scan}
use Rattle.tide_core.specs.declared.machine.view.View.{View}
use Rattle.tide_core.specs.machine.points.Arrays.{ArraysStand}
use Rattle.tide_core.specs.machine.points.Births.{IsHidden}
use Rattle.tide_core.specs.machine.points.Growths.{GrowthKnows}
use Rattle.tide_core.specs.machine.points.Links.{LinkAt}
use Rattle.tide_core.specs.machine.points.Scans.{ScanKnows}
use Rattle.tide_core.specs.machine.points.Sweeps.{SweepsAreNamed}
use Rattle.tide_core.specs.machine.points.SettledWords.{RunningWordsRead}
use Rattle.tide_model.proofs.ReferenceLaws.{put_at_elim, RefsAreLive-call}
use Rattle.tide_model.specs.Applied.{after_call, put_cell}
use Rattle.tide_model.specs.Cycle.{HasDead, dead_cell, dead_array}
use Rattle.tide_model.specs.History.{state_after}
use Rattle.tide_model.specs.Lawful.{Stands}
use Rattle.tide_model.specs.Layout.{Layout}
use Rattle.tide_model.specs.Numbers.{put_at}
use Rattle.tide_model.specs.References.{IsLive, RefsAreLive}
use Rattle.tide_model.specs.Refused.{ShapeLists}
use Rattle.tide_model.specs.State.{State, CellState}
use Rattle.tide_model.specs.declared.entry.Entry.TheVariants.{Call}
use Rattle.tide_model.specs.declared.op.Op.{Op}
use Rattle.tide_model.specs.declared.op.Reply.{Reply}
use Rattle.tide_model.specs.declared.val.Val.TheVariants.{Cell}
use Rattle.tide_words.proofs.tide_layout.Places.{tag-injective}
use Rattle.tide_words.proofs.heap_laws.HeapLaws.{write-other_region}
use Rattle.tide_words.specs.heap.Heap.{Heap, write}
use Rattle.tide_words.specs.heap.Reading.{ReadsAs}
use Rattle.tide_words.specs.marking.Colours.{is_marking}
use Rattle.tide_words.specs.tide_layout.declared.region.Region.TheVariants as region
use Rattle.tide_core.specs.declared.machine.view.Duty.TheVariants as duty
use Rattle.tide_core.specs.declared.machine.view.Growth.TheVariants as growth

module _ (layout : Layout) (shapes : ShapeLists) (w : World) (me : ℕ) (inside : me < parties)
    (wave : RunningWave layout shapes w) (runs : (w.part me).runs ≡ true)
    (idle : (w.part me).duty ≡ duty.Nothing) (owes_nothing : (w.part me).owed ≡ [])
    (grows_not : (w.part me).growth ≡ growth.Nothing)
    (op : Op) (reply : Reply) (bears_nothing : (cell : ℕ) → is_birth_of cell (Call me op reply) ≡ false)
    (stands : Stands layout shapes w.log (call_of me op reply None))
    (cell : ℕ) (cell_after : CellState) (next : Duty) (there : Region) (idx word : ℕ) where
  abbrev pub state : State
  state = state_after layout w.log

  abbrev pub after : State
  after = put_cell state cell cell_after

  abbrev pub new : Heap
  new = write w.heap there idx word

  abbrev pub later : View
  later = record (w.part me) {
    owed = [];
    known = [];
    full = [];
    duty = next;
    seen = w.log ++ call_of me op reply None ∷ [];
    mine = (w.part me).mine ++ call_of me op reply None ∷ [];
  }

  -- what is left to show of such a call
  pub record ShowsCell : Type 0 where
    pub called : is_uncalled there ≡ false
    pub no_period : (tag region.Period == tag there) ≡ false
    pub no_call : (tag region.Call == tag there) ≡ false
    pub no_dead : (tag region.Dead == tag there) ≡ false
    -- no sweep has the word differ
    pub settled : (p other : ℕ) → Unsettles (w.part p) there idx other → ⊥
    pub becomes : after_call state me op reply None ≡ after
    pub reads : ReadsAs layout shapes (write wave.words.settled there idx word) after
    -- no other mutator's own word is written
    pub alone : (p : ℕ) → p ≢ me → IsOwnWord layout state p there idx → ⊥
    pub status : cell_after.status ≡ (state.cells cell).status
    pub array : cell_after.array ≡ (state.cells cell).array
    pub pushes_none : (c : ℕ) → pushes next c ≡ 0
    pub no_colour : (c : ℕ) → OwesColour next c → ⊥
    pub links : (x : ℕ) (place : Place) (target : ℕ) → LinkAt after x place target →
        StillOwes new next x ⊎ LinkAt state x place target
    pub beyond : is_marking w.heap ≡ true → (x n target : ℕ) → LinkAt after x (property n) target →
        count_of (new region.Structure x) ≤ n →
        LinkAt state x (property n) target × (count_of (w.heap region.Structure x) ≤ n)
    pub scans : (p : ℕ) (scan : Scan) → (w.part p).scan ≡ Some scan → ScanKnows layout w.heap state scan →
        ScanKnows layout new after scan
    pub truer : (p : ℕ) (scan : Scan) → (w.part p).scan ≡ Some scan → IsTrue scan (new region.Structure scan.cell) →
        IsTrue scan (w.heap region.Structure scan.cell)
    pub hidden : (p c : ℕ) → p ≢ me → IsLive state c → IsHidden state p c →
        ((x : ℕ) (place : Place) → LinkAt after x place c → ⊥)
        × ((table key : ℕ) → IsLive state table → (after.cells table).pairs key ≡ Some (Cell c) → ⊥)
        × ((place : Place) (target : ℕ) → LinkAt after c place target → ⊥)

  module _ (s : ShowsCell) where
    own_same : (h : Heap) (p : ℕ) (at : Region) (index : ℕ) → p ≢ me → IsOwnWord layout state p at index →
        write h there idx word at index ≡ h at index
    own_same h p at index apart own = elim (cases_Bool ((tag at == tag there) && (index == idx))) [
      | inl both ↦
          let parts = and_parts (tag at == tag there) (index == idx) both in
          let r = tag-injective at there (eqb-true (tag at) (tag there) parts.0) in
          let i = eqb-true index idx parts.1 in
          absurd (s.alone p apart (subst (λ (q : Region). IsOwnWord layout state p q idx) r
          (subst (λ (j : ℕ). IsOwnWord layout state p at j) i own)))
      | inr isnt ↦ ap (λ (b : Bool). if b then word else h at index) isnt
    ]

    status_same : (x : ℕ) → (after.cells x).status ≡ (state.cells x).status
    status_same = put_at_elim (λ x (held : CellState). held.status ≡ (state.cells x).status) state.cells cell cell_after
        s.status (λ x apart. refl)

    array_same : (x : ℕ) → (after.cells x).array ≡ (state.cells x).array
    array_same = put_at_elim (λ x (held : CellState). held.array ≡ (state.cells x).array) state.cells cell cell_after
        s.array (λ x apart. refl)

    own_after : (p : ℕ) (at : Region) (index : ℕ) → IsOwnWord layout state p at index →
        IsOwnWord layout after p at index
    own_after p _ _ (own_register r a b) = own_register r a b
    own_after p _ _ (own_structure c at) = own_structure c at
    own_after p _ _ (own_array c at) = own_array c at
    own_after p _ _ (own_pair t k at one has) = own_pair t k at one has
    own_after p _ _ (own_element c a k at is has) = own_element c a k at (array_same c ∙ is) has

    pub words_after : RunningWordsRead layout shapes new (put_at w.part me later) after
    words_after = record {
      settled = write wave.words.settled there idx word;
      reads = s.reads;
      same = λ at index read free swept. ap (λ (z : ℕ). if (tag at == tag there) && (index == idx) then word else z)
          (wave.words.same at index read (λ p x owes. free p x (back p at index x owes))
          (unsettles_put w.part me later refl at index swept));
      given = given_put (write wave.words.settled there idx word) w.part me later refl (λ p g is gave.
          write-other_region wave.words.settled there region.Dead idx g.block word s.no_dead ∙ wave.words.given p g is gave);
      owed = put_at_elim (λ p u. (at : Region) (index x : ℕ) → Owes u at index x →
          write wave.words.settled there idx word at index ≡ x) w.part me later
          (λ at index x owes. absurd (nothing_in (owed_word at index x) owes)) (λ p apart at index x owes.
          own_same wave.words.settled p at index apart (wave.words.owns p at index x owes) ∙
          wave.words.owed p at index x owes);
      known = put_at_elim (λ p u. (at : Region) (index x : ℕ) → Contains u.known (owed_word at index x) →
          write wave.words.settled there idx word at index ≡ x) w.part me later
          (λ at index x is. absurd (nothing_in (owed_word at index x) is)) (λ p apart at index x is.
          own_same wave.words.settled p at index apart (wave.kept.owns p at index x is) ∙
          wave.words.known p at index x is);
      owns = put_at_elim (λ p u. (at : Region) (index x : ℕ) → Owes u at index x → IsOwnWord layout after p at index)
          w.part me later
          (λ at index x owes. absurd (nothing_in (owed_word at index x) owes)) (λ p apart at index x owes.
          own_after p at index (wave.words.owns p at index x owes));
    }
      where
        back : (p : ℕ) (at : Region) (index x : ℕ) → Owes (w.part p) at index x →
            Owes (put_at w.part me later p) at index x
        back = put_at_elim (λ p u. (at : Region) (index x : ℕ) → Owes (w.part p) at index x →
            Owes u at index x) w.part me later
            (λ at index x owes. absurd (nothing_in (owed_word at index x)
            (subst (λ (l : List Owed). Contains l (owed_word at index x)) owes_nothing owes)))
            (λ p apart at index x owes. owes)

    growth_after : (p : ℕ) → p ≢ me → GrowthKnows new after p (w.part p) (w.part p).growth
    growth_after p apart = growth_kept w.heap new state after p (w.part p) (w.part p)
        (λ c mine. own_same w.heap p region.Structure c apart (own_structure c mine))
        (λ c mine. own_same w.heap p region.Array c apart (own_array c mine)) (λ c at. at)
        (λ c a mine is. array_same c ∙ is) (λ c x o. o) (λ c x o. o) (λ i x o. o) (w.part p).growth
        (wave.growths.knows p)

    still_dead : (block : ℕ) → HasDead layout after block → HasDead layout state block
    still_dead block (dead_cell c within of_block is) = dead_cell c within of_block (sym (status_same c) ∙ is)
    still_dead block (dead_array a within of_block is) = dead_array a within of_block is

    of_state : ArraysStand layout new after →
        OfState layout shapes w.heap w.part w.log me wave op reply None new later after
    of_state stands_still = record {
      words = words_after;
      refs = subst RefsAreLive s.becomes
          (RefsAreLive-call layout shapes state me op reply None wave.refs stands.is_active stands.answers);
      alive = λ x is. status_same x ∙ is;
      arrays = λ array is. is;
      scans = λ p scan is. s.scans p scan is (wave.scans.knows p scan is);
      links = λ x place target link black white. s.links x place target link;
      beyond = λ marks x n target link past. inr (s.beyond marks x n target link past);
      awaited = λ c owes. absurd (s.no_colour c owes);
      growth = subst (GrowthKnows new after me later) (sym grows_not) tt;
      growths = λ p apart. growth_after p apart;
      owns = λ p at index apart. own_after p at index;
      hidden = λ p c apart alive h. let now = s.hidden p c apart alive h in record {
        registers = h.registers;
        strong = h.strong;
        weak = h.weak;
        claims = h.claims;
        linked = now.0;
        paired = λ table key is_live is. now.1 table key (sym (status_same table) ∙ is_live) is;
        blank = now.2;
      };
      stands = stands_still;
      inactive = each_put (λ p u. u.left ≡ not (state.active p)) w.part me later (wave.left me) wave.left;
      dead = λ block has. still_dead block has;
    }

    uncalled_else : (at : Region) (index : ℕ) → is_uncalled at ≡ true → new at index ≡ w.heap at index
    uncalled_else at index is = write-other_region w.heap there at idx index word
        (ne_eqb (tag at) (tag there) (λ same. let r = tag-injective at there same in let also = ap is_uncalled r in
        let c = s.called in absurd (cc)))

    pub named_after : SweepsAreNamed layout new (put_at w.part me later) after
    named_after = named_kept layout w.heap new w.part me later state after (uncalled_else region.Phase 0 refl)
        (λ block. uncalled_else region.Swept block refl)
        (λ block. write-other_region w.heap there region.Dead idx block word s.no_dead)
        (unsettled_write w.heap w.part there idx word s.settled) refl refl (inl refl) still_dead wave.sweeps.named

    pub cell_call : ArraysStand layout new after → RunningWave layout shapes (record {
      heap = new;
      part = put_at w.part me later;
      log = w.log ++ call_of me op reply None ∷ [];
    })
    cell_call stands_still = call_step layout shapes w.heap w.part w.log me wave op reply None new later record {
      inside = inside;
      runs = runs;
      still_runs = runs;
      uncalled = uncalled_else;
      stands = stands;
      who = refl;
      seen = refl;
      mine = refl;
      marks = refl;
      cycle = refl;
      mark_version = refl;
      begun = refl;
      visits = refl;
      stopped = refl;
      held = refl;
      round = refl;
      sweeping = refl;
      saw = refl;
      cleared = refl;
      dead_words = λ block. write-other_region w.heap there region.Dead idx block word s.no_dead;
      differs = unsettled_write w.heap w.part there idx word s.settled;
      leaves = inl refl;
      scan = refl;
      known = refl;
      full = refl;
      period = write-other_region w.heap there region.Period idx 0 word s.no_period;
      calls = calls_view layout w.heap new w.part me later refl (λ p.
          write-other_region w.heap there region.Call idx p word s.no_call) wave.calls;
      pushes_none = λ c. (ap (λ (d : Duty). pushes d c) idle, s.pushes_none c);
      grows = λ c g. absurd (subst (λ (d : Duty). AwaitsLoad d c) idle g.owes);
      barrier = λ c owes. absurd (subst (λ (d : Duty). StillOwes w.heap d c) idle owes);
      kept = λ p at index x apart is. own_same w.heap p at index apart (wave.kept.owns p at index x is) ∙
          wave.kept.known p at index x is;
      truer = s.truer;
      born_before = λ c owes. subst (λ (d : Duty). OwesColour d c) idle owes;
      born = λ c born. (let isnt = bears_nothing c in absurd (cc));
      white = λ c owes. absurd (s.no_colour c owes);
      awaits = λ marks c owes. absurd (s.no_colour c owes);
      owner = wave.born.owner;
      once = λ c owes. absurd (s.no_colour c owes);
      once_others = λ p c apart. wave.born.once p c;
      state = subst (OfState layout shapes w.heap w.part w.log me wave op reply None new later) (sym s.becomes)
          (of_state stands_still);
    }
