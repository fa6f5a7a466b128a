-- A load that makes a call, whose answer goes to a register that is owed from then on, keeps the wave.
use Rattle.std.proofs.Common.{ℕ, zero, suc, ◌≡◌, ◌≢◌, ◌<◌, ◌==◌, refl, sym, ◌∙◌, ap, subst, arith, Bool, true, false, List, [], ◌∷◌, ◌++◌, inl, inr, None}
use Rattle.std.proofs.lemmas.Bool.{cases_Bool, eqb-true, and_parts}
use Rattle.std.specs.Prelude.{Contains, if◌then◌else◌, ◌&&◌, not}
use Rattle.tide_call.proofs.reading_laws.RootReading.{Reading-register}
use Rattle.tide_words.proofs.tide_layout.Places.{tag-injective}
use Rattle.tide_words.specs.tide_layout.Region.{tag, index_of_register}
use Rattle.tide_words.specs.tide_layout.declared.region.Region.{Region}
use Rattle.tide_core.proofs.machine_laws.steps.ArraysKept.{arrays_kept}
use Rattle.tide_core.proofs.machine_laws.steps.Calls.{OfState, call_step}
use Rattle.tide_core.proofs.machine_laws.steps.Frames.{calls_view, put_here, each_put}
use Rattle.tide_core.proofs.machine_laws.steps.GrowthsKept.{growth_kept}
use Rattle.tide_core.proofs.machine_laws.steps.Owning.{own_alone}
use Rattle.tide_core.proofs.machine_laws.steps.Registers.{register_after}
use Rattle.tide_core.proofs.machine_laws.steps.ScansKept.{scan_kept}
use Rattle.tide_core.proofs.machine_laws.steps.Unsettled.{given_put, unsettles_put}
use Rattle.tide_core.specs.machine.Duties.{OwesColour}
use Rattle.tide_core.specs.machine.Entries.{call_of}
use Rattle.tide_core.specs.machine.Owed.{Owes, IsOwnWord, own_register, own_structure, own_array, own_pair, own_element, owed_word}
use Rattle.tide_core.specs.machine.RunningWave.{RunningWave}
use Rattle.tide_core.specs.machine.Scanning.{Place, slot, property}
use Rattle.tide_core.specs.machine.World.{World, parties, pushes}
use Rattle.tide_core.specs.declared.machine.view.Duty.{Duty}
use Rattle.tide_core.specs.declared.machine.view.Owed.{Owed}
use Rattle.tide_core.specs.declared.machine.view.View.{View}
use Rattle.tide_core.specs.machine.points.Births.{IsHidden}
use Rattle.tide_core.specs.machine.points.Growths.{GrowthKnows}
use Rattle.tide_core.specs.machine.points.Links.{LinkAt}
use Rattle.tide_core.specs.machine.points.SettledWords.{RunningWordsRead}
use Rattle.tide_model.proofs.ClaimLaws.{ClaimsAreOwn-lawful}
use Rattle.tide_model.proofs.ReferenceLaws.{put_at_elim, RefsAreLive-call}
use Rattle.tide_model.specs.Applied.{put_register, after_call}
use Rattle.tide_model.specs.Cycle.{HasDead, dead_cell, dead_array}
use Rattle.tide_model.specs.History.{state_after}
use Rattle.tide_model.specs.Lawful.{Stands}
use Rattle.tide_model.specs.Layout.{Layout}
use Rattle.tide_model.specs.Numbers.{put_at}
use Rattle.tide_model.specs.References.{RefsAreLive}
use Rattle.tide_model.specs.Refused.{ShapeLists}
use Rattle.tide_model.specs.State.{State}
use Rattle.tide_model.specs.declared.op.Op.{Op}
use Rattle.tide_model.specs.declared.op.Reply.TheVariants.{Seen}
use Rattle.tide_model.specs.declared.val.Val.{Val}
use Rattle.tide_model.specs.declared.val.Val.TheVariants.{Cell}
use Rattle.tide_words.proofs.heap_laws.HeapLaws.{write-same}
use Rattle.tide_words.specs.forms.ValueWord.{val_word, HasU32}
use Rattle.tide_words.specs.heap.Heap.{Heap, write}
use Rattle.tide_words.specs.tide_layout.declared.region.Region.TheVariants as region
use Rattle.tide_core.specs.declared.machine.view.Duty.TheVariants as duty
use Rattle.tide_core.specs.declared.machine.view.Growth.TheVariants as growth

-- what stands in a list of one word
one_owed : (x y : Owed) → Contains (x ∷ []) y → x ≡ y
one_owed x y (zero, below, is) = is
one_owed x y (suc k, below, is) = absurd (omega (arith, below))

module _ (layout : Layout) (shapes : ShapeLists) (w : World) (me : ℕ) (inside : me < parties)
    (wave : RunningWave layout shapes w) (runs : (w.part me).runs ≡ true)
    (idle : (w.part me).duty ≡ duty.Nothing) (owes_nothing : (w.part me).owed ≡ [])
    (grows_not : (w.part me).growth ≡ growth.Nothing)
    (op : Op) (dst : ℕ) (value : Val) (stands : Stands layout shapes w.log (call_of me op (Seen value) None))
    -- it is one that fills a register, and bears nothing
    (fills : (state : State) → after_call state me op (Seen value) None ≡ put_register state me dst value)
    (in_registers : dst < layout.registers) (number : HasU32 value)
    -- another's hidden cell isn't what it sees
    (unseen : (p c : ℕ) → p ≢ me → IsHidden (state_after layout w.log) p c → value ≡ Cell c → ⊥) where
  abbrev state : State
  state = state_after layout w.log

  abbrev after : State
  after = put_register state me dst value

  abbrev idx : ℕ
  idx = index_of_register layout me dst

  abbrev settled : Heap
  settled = write wave.words.settled region.Registers idx (val_word value)

  abbrev later : View
  later = record (w.part me) {
    owed = owed_word region.Registers idx (val_word value) ∷ [];
    known = [];
    full = [];
    seen = w.log ++ call_of me op (Seen value) None ∷ [];
    mine = (w.part me).mine ++ call_of me op (Seen value) None ∷ [];
  }

  own_still : (p : ℕ) (at : Region) (index : ℕ) → IsOwnWord layout state p at index → IsOwnWord layout after p at index
  own_still p _ _ (own_register r a b) = own_register r a b
  own_still p _ _ (own_structure c at) = own_structure c at
  own_still p _ _ (own_array c at) = own_array c at
  own_still p _ _ (own_pair t k at one has) = own_pair t k at one has
  own_still p _ _ (own_element c a k at is has) = own_element c a k at is has

  mine_is : (at : Region) (index x : ℕ) → Owes later at index x →
      owed_word region.Registers idx (val_word value) ≡ owed_word at index x
  mine_is at index x owes = one_owed (owed_word region.Registers idx (val_word value)) (owed_word at index x) owes

  apart_from : (p : ℕ) (at : Region) (index : ℕ) → p ≢ me → IsOwnWord layout state p at index →
      ((tag at == tag region.Registers) && (index == idx)) ≡ false
  apart_from p at index apart own = elim (cases_Bool ((tag at == tag region.Registers) && (index == idx))) [
    | inl both ↦
        let parts = and_parts (tag at == tag region.Registers) (index == idx) both in
        absurd (apart (own_alone layout state (ClaimsAreOwn-lawful layout shapes w.log wave.lawful) wave.refs p me at
        region.Registers index idx own (own_register dst stands.is_mutator in_registers)
        (eqb-true (tag at) (tag region.Registers) parts.0) (eqb-true index idx parts.1)))
    | inr isnt ↦ isnt
  ]

  elsewhere : (p : ℕ) (at : Region) (index : ℕ) → p ≢ me → IsOwnWord layout state p at index →
      settled at index ≡ wave.words.settled at index
  elsewhere p at index apart own = ap (λ (b : Bool). if b then val_word value else wave.words.settled at index)
      (apart_from p at index apart own)

  words_after : RunningWordsRead layout shapes w.heap (put_at w.part me later) after
  words_after = record {
    settled = settled;
    reads = Reading-register layout shapes wave.words.settled state wave.words.reads me dst value stands.is_mutator
        in_registers number;
    same = λ at index read free swept. elim (cases_Bool ((tag at == tag region.Registers) && (index == idx))) [
      | inl both ↦ absurd (free me (val_word value) (here at index both))
      | inr isnt ↦ wave.words.same at index read (λ p x owes. free p x (back p at index x owes))
          (unsettles_put w.part me later refl at index swept) ∙
          sym (ap (λ (b : Bool). if b then val_word value else wave.words.settled at index) isnt)
    ];
    owed = put_at_elim (λ p u. (at : Region) (index x : ℕ) → Owes u at index x → settled at index ≡ x) w.part me later
        (λ at index x owes. subst (λ (o : Owed). settled o.region o.index ≡ o.word) (mine_is at index x owes)
        (write-same wave.words.settled region.Registers idx (val_word value)))
        (λ p apart at index x owes. elsewhere p at index apart (wave.words.owns p at index x owes) ∙
        wave.words.owed p at index x owes);
    given = given_put settled w.part me later refl wave.words.given;
    known = put_at_elim (λ p u. (at : Region) (index x : ℕ) → Contains u.known (owed_word at index x) →
        settled at index ≡ x) w.part me later
        (λ at index x is. absurd (let below = is.1 in omega (arith, below)))
        (λ p apart at index x is. elsewhere p at index apart (wave.kept.owns p at index x is) ∙
        wave.words.known p at index x is);
    owns = put_at_elim (λ p u. (at : Region) (index x : ℕ) → Owes u at index x → IsOwnWord layout after p at index)
        w.part me later
        (λ at index x owes. subst (λ (o : Owed). IsOwnWord layout after me o.region o.index) (mine_is at index x owes)
        (own_register dst stands.is_mutator in_registers))
        (λ p apart at index x owes. own_still p at index (wave.words.owns p at index x owes));
  }
    where
      here : (at : Region) (index : ℕ) → ((tag at == tag region.Registers) && (index == idx)) ≡ true →
          Owes (put_at w.part me later me) at index (val_word value)
      here at index both =
          let parts = and_parts (tag at == tag region.Registers) (index == idx) both in
          let region_is = tag-injective at region.Registers (eqb-true (tag at) (tag region.Registers) parts.0) in
          let index_is = eqb-true index idx parts.1 in
          subst (λ (u : View). Owes u at index (val_word value)) (sym (put_here w.part me later))
          (subst (λ (r : Region). Contains (owed_word region.Registers idx (val_word value) ∷ [])
          (owed_word r index (val_word value))) (sym region_is)
          (subst (λ (i : ℕ). Contains (owed_word region.Registers idx (val_word value) ∷ [])
          (owed_word region.Registers i (val_word value))) (sym index_is) (0, omega arith, refl)))

      back : (p : ℕ) (at : Region) (index x : ℕ) → Owes (w.part p) at index x →
          Owes (put_at w.part me later p) at index x
      back = put_at_elim (λ p u. (at : Region) (index x : ℕ) → Owes (w.part p) at index x →
          Owes u at index x) w.part me later
          (λ at index x owes. absurd (let below =
          (subst (λ (l : List Owed). Contains l (owed_word at index x)) owes_nothing owes).1 in
          omega (arith, below))) (λ p apart at index x owes. owes)

  link_before : (x : ℕ) (place : Place) (target : ℕ) → LinkAt after x place target → LinkAt state x place target
  link_before x (slot n) target link = link
  link_before x (property n) target link = link

  link_after : (x : ℕ) (place : Place) (target : ℕ) → LinkAt state x place target → LinkAt after x place target
  link_after x (slot n) target link = link
  link_after x (property n) target link = link

  no_colour : (c : ℕ) → OwesColour later.duty c → ⊥
  no_colour c owes = subst (λ (d : Duty). OwesColour d c) idle owes

  of_state : OfState layout shapes w.heap w.part w.log me wave op (Seen value) None w.heap later after
  of_state = record {
    words = words_after;
    refs = subst RefsAreLive (fills state)
        (RefsAreLive-call layout shapes state me op (Seen value) None wave.refs stands.is_active stands.answers);
    alive = λ x is. is;
    arrays = λ array is. is;
    scans = λ p scan is. scan_kept layout w.heap w.heap state after
        (λ c. refl) (λ c. refl) (λ i. refl) (λ c is_live. is_live) scan
        (wave.scans.knows p scan is);
    links = λ x place target link black white. inr (link_before x place target link);
    beyond = λ marks x n target link past. inr (link, past);
    awaited = λ c owes. absurd (no_colour c owes);
    growth = subst (GrowthKnows w.heap after me later) (sym grows_not) tt;
    growths = λ p apart. growth_kept w.heap w.heap state after p (w.part p) (w.part p) (λ c mine. refl) (λ c mine.
        refl) (λ c at. at)
        (λ c a mine is. is) (λ c x o. o) (λ c x o. o) (λ i x o. o) (w.part p).growth (wave.growths.knows p);
    owns = λ p at index apart. own_still p at index;
    hidden = λ p c apart alive h. record {
      registers = λ who register not_p active is. elim (register_after state me dst value who register (Cell c) is) [
        | inl now ↦ absurd (unseen p c apart h now)
        | inr was ↦ h.registers who register not_p active was
      ];
      strong = h.strong;
      weak = h.weak;
      claims = h.claims;
      paired = h.paired;
      linked = λ x place link. h.linked x place (link_before x place c link);
      blank = λ place target link. h.blank place target (link_before c place target link);
    };
    stands = arrays_kept layout w.heap w.heap state after (λ c. refl) (λ c. refl) (λ i. refl) (λ array. refl)
        (λ c array alive is. (alive, refl, refl, refl)) (λ c alive none. inl alive) wave.arrays;
    inactive = each_put (λ p u. u.left ≡ not (state.active p)) w.part me later (wave.left me) wave.left;
    dead = λ block has. still_dead block has;
  }
    where
      still_dead : (block : ℕ) → HasDead layout after block → HasDead layout state block
      still_dead block (dead_cell c in_cells of_block is) = dead_cell c in_cells of_block is
      still_dead block (dead_array a in_arrays of_block is) = dead_array a in_arrays of_block is

  -- it serves each load that answers what it sees: of a slot, a handle, a pair and an element
  pub load_seen : RunningWave layout shapes (record {
    heap = w.heap;
    part = put_at w.part me later;
    log =
        w.log ++ call_of me op (Seen value) None ∷ [];
  })
  load_seen = call_step layout shapes w.heap w.part w.log me wave op (Seen value) None w.heap later record {
    inside = inside;
    runs = runs;
    still_runs = runs;
    uncalled = λ at index is. refl;
    stands = stands;
    who = refl;
    seen = refl;
    mine = refl;
    marks = refl;
    cycle = refl;
    mark_version = refl;
    begun = refl;
    visits = refl;
    stopped = refl;
    period = refl;
    calls = calls_view layout w.heap w.heap w.part me later refl (λ p. refl) wave.calls;
    held = refl;
    round = refl;
    sweeping = refl;
    saw = refl;
    cleared = refl;
    leaves = inl refl;
    dead_words = λ b. refl;
    differs = λ p at index other un. refl;
    scan = refl;
    known = refl;
    full = refl;
    pushes_none = λ c. (ap (λ (d : Duty). pushes d c) idle, ap (λ (d : Duty). pushes d c) idle);
    grows = λ c g. record { grows = g.grows; owes = g.owes };
    barrier = λ c owes. owes;
    kept = λ p at index x apart is. wave.kept.known p at index x is;
    truer = λ p scan is holds. holds;
    born_before = λ c owes. no_colour c owes;
    born = λ c born. absurd (cc);
    white = λ c owes. absurd (no_colour c owes);
    awaits = λ marks c owes. absurd (no_colour c owes);
    owner = wave.born.owner;
    once = λ c owes. absurd (no_colour c owes);
    once_others = λ p c apart. wave.born.once p c;
    state = subst (OfState layout shapes w.heap w.part w.log me wave op (Seen value) None w.heap later)
        (sym (fills state)) of_state;
  }
