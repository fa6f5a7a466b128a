-- The take of a free bit, at which a cell is born, keeps the wave.
use Rattle.std.proofs.Common.{ℕ, ◌≡◌, ◌≢◌, ◌+◌, ◌%◌, ◌<◌, ◌==◌, refl, sym, ◌∙◌, ap, subst, arith, Bool, true, false, List, [], ◌∷◌, ◌++◌, inl, inr, Some, None, ◌⊎◌}
use Rattle.std.proofs.lemmas.Bool.{cases_Bool, cases_eq, eq-eqb, ne_eqb, eqb-true, and_parts}
use Rattle.std.specs.Prelude.{Contains, if◌then◌else◌, ◌&&◌, slice_get, not}
use Rattle.tide_call.proofs.reading_laws.BirthReading.{Reading-birth}
use Rattle.tide_call.proofs.reading_laws.RootReading.{Reading-register}
use Rattle.tide_words.proofs.tide_layout.Places.{tag-injective}
use Rattle.tide_words.specs.tide_layout.Region.{tag, index_of_register}
use Rattle.tide_words.specs.tide_layout.declared.region.Region.{Region}
use Rattle.tide_core.proofs.machine_laws.steps.ArraysKept.{arrays_kept}
use Rattle.tide_core.proofs.machine_laws.steps.Calls.{OfState, call_step, is_uncalled}
use Rattle.tide_core.proofs.machine_laws.steps.Frames.{calls_view, put_here, each_put}
use Rattle.tide_core.proofs.machine_laws.steps.GrowthsKept.{growth_kept}
use Rattle.tide_core.proofs.machine_laws.steps.Lists.{in_one}
use Rattle.tide_core.proofs.machine_laws.steps.Owning.{own_alone}
use Rattle.tide_core.proofs.machine_laws.steps.Registers.{register_after}
use Rattle.tide_core.proofs.machine_laws.steps.ScansKept.{scan_kept}
use Rattle.tide_core.proofs.machine_laws.steps.SettledNow.{array_now, free_now, structure_now}
use Rattle.tide_core.proofs.machine_laws.steps.Unsettled.{given_put, unsettled_write, unsettles_put}
use Rattle.tide_core.specs.machine.Duties.{OwesColour, AwaitsLoad, StillOwes}
use Rattle.tide_core.specs.machine.Entries.{call_of}
use Rattle.tide_core.specs.machine.Owed.{Owes, IsOwnWord, own_register, own_structure, own_array, own_pair, own_element, owed_word}
use Rattle.tide_core.specs.machine.RunningWave.{RunningWave}
use Rattle.tide_core.specs.machine.Scanning.{Place, property}
use Rattle.tide_core.specs.machine.Words.{cell_named, count_of}
use Rattle.tide_core.specs.machine.World.{World, parties, pushes}
use Rattle.tide_core.specs.declared.machine.view.Duty.{Duty}
use Rattle.tide_core.specs.declared.machine.view.Owed.{Owed}
use Rattle.tide_core.specs.declared.machine.view.View.{View}
use Rattle.tide_core.specs.machine.points.Births.{AwaitsColour}
use Rattle.tide_core.specs.machine.points.Growths.{GrowthKnows}
use Rattle.tide_core.specs.machine.points.Links.{LinkAt}
use Rattle.tide_core.specs.machine.points.SettledWords.{RunningWordsRead}
use Rattle.tide_model.proofs.ClaimLaws.{ClaimsAreOwn-lawful}
use Rattle.tide_model.proofs.ReferenceLaws.{put_at_elim, RefsAreLive-call}
use Rattle.tide_model.specs.Applied.{after_call, put_register, put_cell}
use Rattle.tide_model.specs.Cycle.{HasDead, dead_cell, dead_array}
use Rattle.tide_model.specs.History.{state_after}
use Rattle.tide_model.specs.Lawful.{Stands}
use Rattle.tide_model.specs.Layout.{Layout, cell_count, block_of_cell}
use Rattle.tide_model.specs.Numbers.{put_at}
use Rattle.tide_model.specs.References.{IsLive, RefsAreLive}
use Rattle.tide_model.specs.Refused.{ShapeLists}
use Rattle.tide_model.specs.State.{State, CellState, dead, live, free, blank_cell}
use Rattle.tide_model.specs.declared.op.Op.{Op}
use Rattle.tide_model.specs.declared.op.Reply.TheVariants.{Born}
use Rattle.tide_model.specs.declared.val.Val.TheVariants.{Cell}
use Rattle.tide_words.proofs.heap_laws.HeapLaws.{write-same, write-other_region}
use Rattle.tide_words.specs.forms.ValueWord.{val_word}
use Rattle.tide_words.specs.heap.Heap.{Heap, write}
use Rattle.tide_words.specs.heap.Written.{IsBitPut}
use Rattle.tide_words.specs.marking.Marked.{is_marked}
use Rattle.tide_words.specs.tide_layout.declared.region.Region.TheVariants as region
use Rattle.tide_core.proofs.machine_laws.steps.Births
use Rattle.tide_core.specs.declared.machine.view.Duty.TheVariants as duty
use Rattle.tide_core.specs.declared.machine.view.Growth.TheVariants as growth

module _ (layout : Layout) (shapes : ShapeLists) (w : World) (me : ℕ) (inside : me < parties)
    (wave : RunningWave layout shapes w) (runs : (w.part me).runs ≡ true)
    (idle : (w.part me).duty ≡ duty.Nothing) (owes_nothing : (w.part me).owed ≡ [])
    (grows_not : (w.part me).growth ≡ growth.Nothing)
    (blank_shape : slice_get shapes 0 ≡ Some [])
    (op : Op) (dst cell word : ℕ) (stands : Stands layout shapes w.log (call_of me op (Born cell) None))
    (within : cell < cell_count layout) (fits : cell < 4294967296)
    (in_registers : dst < layout.registers)
    (bears : after_call (state_after layout w.log) me op (Born cell) None ≡ put_register
    (put_cell (state_after layout w.log) cell (blank_cell live)) me dst (Cell cell))
    (was_free : ((state_after layout w.log).cells cell).status ≡ free)
    (put : IsBitPut layout wave.words.settled (write wave.words.settled region.Free (block_of_cell cell) word)
    region.Free (block_of_cell cell) (cell % 64) 0) where
  abbrev state : State
  state = state_after layout w.log

  abbrev after : State
  after = put_register (put_cell state cell (blank_cell live)) me dst (Cell cell)

  abbrev idx : ℕ
  idx = index_of_register layout me dst

  abbrev new : Heap
  new = write w.heap region.Free (block_of_cell cell) word

  abbrev settled : Heap
  settled = write (write wave.words.settled region.Free (block_of_cell cell) word) region.Registers idx
      (val_word (Cell cell))

  abbrev later : View
  later = record (w.part me) {
    owed = owed_word region.Registers idx (val_word (Cell cell)) ∷ [];
    duty = duty.Born cell;
    born = (w.part me).born + 1;
    known = [];
    full = [];
    seen = w.log ++ call_of me op (Born cell) None ∷ [];
    mine = (w.part me).mine ++ call_of me op (Born cell) None ∷ [];
  }

  same_cell_of_value : {one other : ℕ} → Cell one ≡ Cell other → other ≡ one
  same_cell_of_value {one} {other} same = sym (ap cell_named same)

  not_live : IsLive state cell → ⊥
  not_live alive = absurd (cc)

  not_dead : (state.cells cell).status ≢ dead
  not_dead is = (let both : free ≡ dead = sym was_free ∙ is in absurd (cc))

  else_same : (x : ℕ) → x ≢ cell → after.cells x ≡ state.cells x
  else_same = Births.cell_else layout shapes w wave me op dst cell bears was_free within stands.is_active

  still : (x : ℕ) → IsLive state x → IsLive after x
  still x alive = ap (λ (c : CellState). c.status) (else_same x (λ e. not_live (subst (IsLive state) e alive))) ∙ alive

  claimed_else : (p x : ℕ) → Contains (state.claims p) x → x ≢ cell
  claimed_else p x at e = not_live (subst (IsLive state) e (wave.refs.claimed p x at))

  -- what is another's own stays so, and isn't written
  own_still : (p : ℕ) (at : Region) (index : ℕ) → IsOwnWord layout state p at index → IsOwnWord layout after p at index
  own_still p _ _ (own_register r a b) = own_register r a b
  own_still p _ _ (own_structure c at) = own_structure c at
  own_still p _ _ (own_array c at) = own_array c at
  own_still p _ _ (own_pair t k at one has) = own_pair t k at one has
  own_still p _ _ (own_element c a k at is has) =
      own_element c a k at (ap (λ (x : CellState). x.array) (else_same c (claimed_else p c at)) ∙ is) has

  free_else : (h : Heap) (p : ℕ) (at : Region) (index : ℕ) → IsOwnWord layout state p at index →
      write h region.Free (block_of_cell cell) word at index ≡ h at index
  free_else h p _ _ (own_register r a b) = refl
  free_else h p _ _ (own_structure c at) = refl
  free_else h p _ _ (own_array c at) = refl
  free_else h p _ _ (own_pair t k at one has) = refl
  free_else h p _ _ (own_element c a k at is has) = refl

  mine_is : (at : Region) (index x : ℕ) → Owes later at index x →
      owed_word region.Registers idx (val_word (Cell cell)) ≡ owed_word at index x
  mine_is at index x owes = in_one (owed_word region.Registers idx (val_word (Cell cell))) (owed_word at index x) owes

  apart_from : (p : ℕ) (at : Region) (index : ℕ) → p ≢ me → IsOwnWord layout state p at index →
      ((tag at == tag region.Registers) && (index == idx)) ≡ false
  apart_from p at index apart own = elim (cases_Bool ((tag at == tag region.Registers) && (index == idx))) [
    | inl both ↦
        let parts = and_parts (tag at == tag region.Registers) (index == idx) both in
        absurd (apart (own_alone layout state (ClaimsAreOwn-lawful layout shapes w.log wave.lawful) wave.refs p me at
        region.Registers index idx own (own_register dst stands.is_mutator in_registers)
        (eqb-true (tag at) (tag region.Registers) parts.0) (eqb-true index idx parts.1)))
    | inr isnt ↦ isnt
  ]

  words_after : RunningWordsRead layout shapes new (put_at w.part me later) after
  words_after = record {
    settled = settled;
    reads = Reading-register layout shapes (write wave.words.settled region.Free (block_of_cell cell) word)
        (put_cell state cell (blank_cell live))
        (Reading-birth layout shapes wave.words.settled (write wave.words.settled region.Free (block_of_cell cell) word)
        state cell within was_free blank_shape put wave.words.reads)
        me dst (Cell cell) stands.is_mutator in_registers fits;
    same = λ at index read free swept. elim (cases_Bool ((tag at == tag region.Registers) && (index == idx))) [
      | inl both ↦ absurd (free me (val_word (Cell cell)) (here at index both))
      | inr isnt ↦
          ap (λ (z : ℕ). if (tag at == tag region.Free) && (index == block_of_cell cell) then word else z)
          (wave.words.same at index read (λ p x owes. free p x (back p at index x owes))
          (unsettles_put w.part me later refl at index swept))
          ∙ sym (ap (λ (b : Bool). if b then val_word (Cell cell) else write wave.words.settled region.Free
          (block_of_cell cell) word at index) isnt)
    ];
    owed = put_at_elim (λ p u. (at : Region) (index x : ℕ) → Owes u at index x → settled at index ≡ x) w.part me later
        (λ at index x owes. let is = mine_is at index x owes in
        subst (λ (o : Owed). settled o.region o.index ≡ o.word) is
        (write-same (write wave.words.settled region.Free (block_of_cell cell) word) region.Registers idx
        (val_word (Cell cell))))
        (λ p apart at index x owes. let own = wave.words.owns p at index x owes in
        ap (λ (b : Bool). if b then val_word (Cell cell) else write wave.words.settled region.Free
        (block_of_cell cell) word at index) (apart_from p at index apart own)
        ∙ free_else wave.words.settled p at index own ∙ wave.words.owed p at index x owes);
    given = given_put settled w.part me later refl wave.words.given;
    known = put_at_elim (λ p u. (at : Region) (index x : ℕ) → Contains u.known (owed_word at index x) →
        settled at index ≡ x) w.part me later
        (λ at index x is. absurd (let below = is.1 in omega (arith, below)))
        (λ p apart at index x is. let own = wave.kept.owns p at index x is in
        ap (λ (b : Bool). if b then val_word (Cell cell) else write wave.words.settled region.Free
        (block_of_cell cell) word at index) (apart_from p at index apart own)
        ∙ free_else wave.words.settled p at index own ∙ wave.words.known p at index x is);
    owns = put_at_elim (λ p u. (at : Region) (index x : ℕ) → Owes u at index x → IsOwnWord layout after p at index)
        w.part me later
        (λ at index x owes. subst (λ (o : Owed). IsOwnWord layout after me o.region o.index) (mine_is at index x owes)
        (own_register dst stands.is_mutator in_registers))
        (λ p apart at index x owes. own_still p at index (wave.words.owns p at index x owes));
  }
    where
      here : (at : Region) (index : ℕ) → ((tag at == tag region.Registers) && (index == idx)) ≡ true →
          Owes (put_at w.part me later me) at index (val_word (Cell cell))
      here at index both =
          let parts = and_parts (tag at == tag region.Registers) (index == idx) both in
          let region_is = tag-injective at region.Registers (eqb-true (tag at) (tag region.Registers) parts.0) in
          let index_is = eqb-true index idx parts.1 in
          subst (λ (u : View). Owes u at index (val_word (Cell cell))) (sym (put_here w.part me later))
          (subst (λ (r : Region). Contains (owed_word region.Registers idx (val_word (Cell cell)) ∷ [])
          (owed_word r index (val_word (Cell cell)))) (sym region_is)
          (subst (λ (i : ℕ). Contains (owed_word region.Registers idx (val_word (Cell cell)) ∷ [])
          (owed_word region.Registers i (val_word (Cell cell)))) (sym index_is) (0, omega arith, refl)))

      back : (p : ℕ) (at : Region) (index x : ℕ) → Owes (w.part p) at index x →
          Owes (put_at w.part me later p) at index x
      back = put_at_elim (λ p u. (at : Region) (index x : ℕ) → Owes (w.part p) at index x →
          Owes u at index x) w.part me later
          (λ at index x owes. absurd (let below =
          (subst (λ (l : List Owed). Contains l (owed_word at index x)) owes_nothing owes).1 in
          omega (arith, below))) (λ p apart at index x owes. owes)

  link_before : (x : ℕ) (place : Place) (target : ℕ) → LinkAt after x place target → (x ≢ cell) ×
      LinkAt state x place target
  link_before = Births.no_link layout shapes w wave me op dst cell bears was_free within stands.is_active

  of_state : OfState layout shapes w.heap w.part w.log me wave op (Born cell) None new later after
  of_state = record {
    words = words_after;
    refs = subst RefsAreLive bears (RefsAreLive-call layout shapes state me op
        (Born cell) None wave.refs stands.is_active stands.answers);
    alive = still;
    arrays = λ array is. is;
    scans = λ p scan is. scan_kept layout w.heap new state after
        (λ c. refl) (λ c. refl) (λ i. refl) still scan
        (wave.scans.knows p scan is);
    links = λ x place target link black white. inr (link_before x place target link).1;
    beyond = λ marks x n target link past. inr ((link_before x (property n) target link).1, past);
    awaited = λ c owes. subst (IsLive after) owes
        (ap (λ (x : CellState). x.status)
        (Births.cell_here layout shapes w wave me op dst cell bears was_free within stands.is_active));
    growth = subst (GrowthKnows new after me later) (sym grows_not) tt;
    growths = λ p apart. growth_kept w.heap new state after p (w.part p) (w.part p) (λ c mine. refl) (λ c mine. refl)
        (λ c at. at)
        (λ c a mine is. ap (λ (x : CellState). x.array) (else_same c (claimed_else p c mine)) ∙ is) (λ c x o. o)
        (λ c x o. o) (λ i x o. o) (w.part p).growth (wave.growths.knows p);
    owns = λ p at index apart. own_still p at index;
    hidden = λ p c apart alive h. let other : c ≢ cell = λ e. not_live (subst (IsLive state) e alive) in record {
      registers = λ who register not_p active is.
          elim (register_after (put_cell state cell (blank_cell live)) me dst (Cell cell) who register (Cell c) is) [
            | inl now ↦ other (same_cell_of_value now)
            | inr was ↦ h.registers who register not_p active was
          ];
      strong = h.strong;
      weak = h.weak;
      claims = h.claims;
      linked = λ x place link. h.linked x place (link_before x place c link).1;
      paired = λ table key is_live is. elim (cases_eq table cell) [
        | inl same ↦ (let none = sym (ap (λ (x : CellState). x.pairs key) (ap after.cells same ∙
            Births.cell_here layout shapes w wave me op dst cell bears was_free within stands.is_active)) ∙ is in
            absurd (cc))
        | inr apart_cell ↦ h.paired table key (ap (λ (x : CellState). x.status) (sym (else_same table apart_cell)) ∙
            is_live) (ap (λ (x : CellState). x.pairs key) (sym (else_same table apart_cell)) ∙ is)
      ];
      blank = λ place target link. h.blank place target (link_before c place target link).1;
    };
    stands = arrays_kept layout w.heap new state after (λ c. refl) (λ c. refl) (λ i. refl) (λ array. refl) was_there
        was_bare wave.arrays;
    inactive = each_put (λ p u. u.left ≡ not (state.active p)) w.part me later (wave.left me) wave.left;
    dead = λ block has. still_dead block has;
  }
    where
      -- a free cell's array word is 0, and nobody owes it
      no_array : w.heap region.Array cell ≡ 0
      no_array = wave.words.same region.Array cell refl (λ p x owes.
          unclaimed p (wave.words.owns p region.Array cell x owes))
          (array_now layout shapes w wave cell not_dead) ∙
          ((wave.words.reads.parts.cells cell within).zeroed was_free).array
        where
          unclaimed : (p : ℕ) → IsOwnWord layout state p region.Array cell → ⊥
          unclaimed p (own_array c at) = not_live (wave.refs.claimed p c at)

      was_there : (c array : ℕ) → IsLive after c → new region.Array c ≡ array + 1 → IsLive state c ×
          ((after.cells c).keys ≡ (state.cells c).keys) × ((after.cells c).properties ≡ (state.cells c).properties) ×
          ((after.cells c).array ≡ (state.cells c).array)
      was_there c array is_live is = elim (cases_eq c cell) [
        | inl same ↦ (let word = ap (w.heap region.Array) same ∙ no_array in absurd (omega (arith, word, is)))
        | inr apart ↦ (
          ap (λ (x : CellState). x.status) (sym (else_same c apart)) ∙ is_live,
          ap (λ (x : CellState). x.keys) (else_same c apart),
          ap (λ (x : CellState). x.properties) (else_same c apart),
          ap (λ (x : CellState). x.array) (else_same c apart),
        )
      ]

      -- its structure's word is 0 too
      no_structure : w.heap region.Structure cell ≡ 0
      no_structure = wave.words.same region.Structure cell refl (λ p x owes.
          unclaimed p (wave.words.owns p region.Structure cell x owes))
          (structure_now layout shapes w wave cell not_dead) ∙
          ((wave.words.reads.parts.cells cell within).zeroed was_free).structure
        where
          unclaimed : (p : ℕ) → IsOwnWord layout state p region.Structure cell → ⊥
          unclaimed p (own_structure c at) = not_live (wave.refs.claimed p c at)

      was_bare : (c : ℕ) → IsLive after c → new region.Array c ≡ 0 →
          IsLive state c ⊎ (count_of (new region.Structure c) ≡ 0)
      was_bare c is_live none = elim (cases_eq c cell) [
        | inl same ↦ inr (ap count_of (ap (w.heap region.Structure) same ∙ no_structure))
        | inr apart ↦ inl (ap (λ (x : CellState). x.status) (sym (else_same c apart)) ∙ is_live)
      ]

      still_dead : (block : ℕ) → HasDead layout after block → HasDead layout state block
      still_dead block (dead_array a in_arrays of_block is) = dead_array a in_arrays of_block is
      still_dead block (dead_cell c in_cells of_block is) = elim (cases_eq c cell) [
        | inl same ↦ (let alive = ap (λ (x : CellState). x.status) (ap after.cells same ∙
            Births.cell_here layout shapes w wave me op dst cell bears was_free within stands.is_active) in
            absurd (cc))
        | inr apart ↦ dead_cell c in_cells of_block (ap (λ (x : CellState). x.status) (sym (else_same c apart)) ∙ is)
      ]

  pub take_free : RunningWave layout shapes (record {
    heap = new;
    part = put_at w.part me later;
    log =
        w.log ++ call_of me op (Born cell) None ∷ [];
  })
  take_free = call_step layout shapes w.heap w.part w.log me wave op (Born cell) None new later record {
    inside = inside;
    runs = runs;
    still_runs = runs;
    uncalled = λ at index is. write-other_region w.heap region.Free at (block_of_cell cell) index word
        (ne_eqb (tag at) (tag region.Free) (λ same. let r = tag-injective at region.Free same in let also =
        ap is_uncalled r in absurd (cc)));
    stands = stands;
    who = refl;
    seen = refl;
    mine = refl;
    marks = refl;
    cycle = refl;
    mark_version = refl;
    begun = refl;
    visits = refl;
    stopped = refl;
    period = refl;
    calls = calls_view layout w.heap new w.part me later refl (λ p. refl) wave.calls;
    held = refl;
    round = refl;
    sweeping = refl;
    saw = refl;
    cleared = refl;
    leaves = inl refl;
    dead_words = λ b. refl;
    differs = unsettled_write w.heap w.part region.Free (block_of_cell cell) word
        (free_now layout shapes w wave (block_of_cell cell));
    scan = refl;
    known = refl;
    full = refl;
    pushes_none = λ c. (ap (λ (d : Duty). pushes d c) idle, refl);
    grows = λ c g. absurd (subst (λ (d : Duty). AwaitsLoad d c) idle g.owes);
    barrier = λ c owes. absurd (subst (λ (d : Duty). StillOwes w.heap d c) idle owes);
    kept = λ p at index x apart is. free_else w.heap p at index (wave.kept.owns p at index x is) ∙
        wave.kept.known p at index x is;
    truer = λ p scan is holds. holds;
    born_before = λ c owes. subst (λ (d : Duty). OwesColour d c) idle owes;
    born = λ c born. eqb-true cell c born;
    white = λ c owes. subst (λ (x : ℕ). is_marked w.heap x ≡ false) owes
        (Births.white layout shapes w wave me op dst cell bears was_free within stands.is_active);
    awaits = λ marks c owes. subst (AwaitsColour layout new (w.log ++ call_of me op (Born cell) None ∷ []) me) owes
        (Births.awaits_birth layout shapes w wave me op dst cell bears was_free within stands.is_active marks new refl);
    owner = put_at wave.born.owner cell me;
    once = λ c owes. subst (λ (x : ℕ). put_at wave.born.owner cell me x ≡ me) owes
        (ap (λ (b : Bool). if b then me else wave.born.owner cell) (eq-eqb cell cell refl));
    once_others = λ p c apart owes.
        ap (λ (b : Bool). if b then me else wave.born.owner c)
        (ne_eqb c cell (λ e. not_live (subst (IsLive state) e (wave.born.alive p c owes)))) ∙ wave.born.once p c owes;
    state = subst (OfState layout shapes w.heap w.part w.log me wave op (Born cell) None new later)
        (sym bears) of_state;
  }
