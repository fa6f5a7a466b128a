-- The steps of a sweep, as far as words, sweeps and the reading go: a word is zeroed, bits are given, the sweep
-- finishes, a block is claimed.
use Rattle.std.proofs.Common.{ℕ, zero, suc, ◌≡◌, ◌≢◌, ◌<◌, ◌⊎◌, refl, sym, ◌∙◌, ap, subst, arith, Bool, true, false, List, [], ◌∷◌, inl, inr, Option, Some, None}
use Rattle.std.proofs.lemmas.Bool.{cases_Bool, cases_eq, and_parts, eqb-true, eq-eqb, ne_eqb}
use Rattle.std.proofs.lemmas.List.Elements.{Contains-append_cases}
use Rattle.std.specs.Prelude.{Contains, ◌==◌, ◌&&◌, ◌||◌, if◌then◌else◌, bit_or}
use Rattle.tide_words.proofs.tide_layout.Places.{tag-injective}
use Rattle.tide_words.specs.tide_layout.Region.{block_count, tag}
use Rattle.tide_words.specs.tide_layout.Slots.{HasElement, HasSlot, index_of_element, index_of_slot}
use Rattle.tide_words.specs.tide_layout.declared.region.Region.{Region}
use Rattle.tide_words.specs.tide_layout.declared.region.Region.TheVariants as region
use Rattle.tide_words.proofs.tide_layout.SlotPlaces.{index_of_slot-alone, index_of_element-alone}
use Rattle.tide_core.proofs.machine_laws.steps.Frames.{each_put, put_here}
use Rattle.tide_core.proofs.machine_laws.steps.Lists.{nothing_in, in_one}
use Rattle.tide_core.proofs.machine_laws.steps.SweepsKept.{is_taken, saw_kept, unsettles_zeroed}
use Rattle.tide_core.proofs.machine_laws.steps.Unsettled.{dead_settled, dead_word_region, own_settled, unsettled_cases}
use Rattle.tide_core.specs.machine.Owed.{IsOwnWord, Knows, Owes, Unsettles, is_at, owed_word, own_array, own_element, own_pair, own_register, own_structure, unsettled}
use Rattle.tide_core.specs.declared.machine.view.Owed.{Owed}
use Rattle.tide_core.specs.declared.machine.view.Saw.{Saw}
use Rattle.tide_core.specs.declared.machine.view.Sweeping.{Sweeping}
use Rattle.tide_core.specs.declared.machine.view.View.{View}
use Rattle.tide_core.specs.machine.kinds.Sweep.{IsSweeping}
use Rattle.tide_core.specs.machine.points.SettledWords.{RunningWordsRead}
use Rattle.tide_core.specs.machine.points.Sweeps.{IsTaken, SawStands, SweepStands, Sweeps, SweepsAreNamed}
use Rattle.tide_model.proofs.DeadLaws.{HasNoNewDead-sweep, had_dead}
use Rattle.tide_model.proofs.ReferenceLaws.{put_at_elim}
use Rattle.tide_model.proofs.ReferencesInCycles.{swept_cell-live}
use Rattle.tide_model.specs.Cycle.{HasDead, dead_array, dead_cell}
use Rattle.tide_model.specs.History.{after_sweep, swept_cell, swept_status}
use Rattle.tide_model.specs.Layout.{Layout, block_of_array, block_of_cell}
use Rattle.tide_model.specs.Numbers.{put_at}
use Rattle.tide_model.specs.References.{RefsAreLive}
use Rattle.tide_model.specs.Refused.{ShapeLists}
use Rattle.tide_model.specs.State.{CellState, State, Status, blank_cell, dead, free, is_dead}
use Rattle.tide_sweep.proofs.SweepReading.{ReadsAs-swept}
use Rattle.tide_sweep.specs.Swept.{is_swept_region, AreBitsGiven}
use Rattle.tide_sweep.specs.Zeroed.{AreWordsZeroed, IsArrayIn, IsCellIn, IsDeadWord, is_zeroed_region}
use Rattle.tide_words.proofs.heap_laws.Frames.{is_read}
use Rattle.tide_words.proofs.heap_laws.HeapLaws.{write-other_index, write-other_region, write-same}
use Rattle.tide_words.specs.heap.Heap.{Heap, SameIn, write}
use Rattle.tide_words.specs.marking.Colours.{running_cycle}

-- some word of the list is at this place
abbrev pub has_at : Region → ℕ → List Owed → Bool
has_at at index [] = false
has_at at index (o ∷ os) = is_at at index o || has_at at index os

-- a place of the list, and what stands there
pub has_at-word : (at : Region) (index : ℕ) (os : List Owed) → has_at at index os ≡ true →
    (word : ℕ) × Contains os (owed_word at index word)
has_at-word at index [] has = absurd (cc)
has_at-word at index (o ∷ os) has = elim (cases_Bool (is_at at index o)) [
  | inl here ↦
      let parts = and_parts (tag o.region == tag at) (o.index == index) here in
      let region_is = tag-injective o.region at (eqb-true (tag o.region) (tag at) parts.0) in
      let index_is = eqb-true o.index index parts.1 in
      (o.word, (zero, omega arith, λ i. record { region = region_is i; index = index_is i; word = o.word }))
  | inr apart ↦
      let rest : has_at at index os ≡ true = ap (λ (b : Bool). b || has_at at index os) (sym apart) ∙ has in
      let (word, (k, below, is)) = has_at-word at index os rest in
      (word, (suc k, omega (arith, below), is))
]

pub has_at-is : (at : Region) (index word : ℕ) (os : List Owed) → Contains os (owed_word at index word) → has_at at index os ≡ true
has_at-is at index word [] is = absurd (nothing_in (owed_word at index word) is)
has_at-is at index word (o ∷ os) is = elim (Contains-append_cases (o ∷ []) os (owed_word at index word) is) [
  | inl here ↦
      let same = in_one o (owed_word at index word) here in
      ap (λ (x : Owed). is_at at index x || has_at at index os) same ∙ one (tag at == tag at) (index == index) (eq-eqb (tag at) (tag at) refl) (eq-eqb index index refl)
  | inr later ↦ ap (λ (b : Bool). is_at at index o || b) (has_at-is at index word os later) ∙ either (is_at at index o)
]
  where
    one : (a b : Bool) → a ≡ true → b ≡ true → ((a && b) || has_at at index os) ≡ true
    one true true x y = refl
    one true false x y = absurd (cc)
    one false b x y = absurd (cc)

    either : (b : Bool) → (b || true) ≡ true
    either true = refl
    either false = refl

module _ (layout : Layout) (shapes : ShapeLists) (heap : Heap) (part : ℕ → View) (state : State)
    (words : RunningWordsRead layout shapes heap part state) (named : SweepsAreNamed layout heap part state)
    (refs : RefsAreLive state) (me : ℕ) (w : View) (owed : w.owed ≡ (part me).owed) (known : w.known ≡ (part me).known)
    (same_saw : w.saw ≡ (part me).saw) (same_left : w.left ≡ (part me).left) where
  -- what all views owe and know, they owed and knew
  owed_back : (p : ℕ) (r : Region) (i x : ℕ) → Owes (part p) r i x → Owes (put_at part me w p) r i x
  owed_back = put_at_elim (λ p u. (r : Region) (i x : ℕ) → Owes (part p) r i x → Owes u r i x) part me w
      (λ r i x. subst (λ (l : List Owed). Contains l (owed_word r i x)) (sym owed)) (λ p apart r i x o. o)

  all_owed : (Q : ℕ → Region → ℕ → ℕ → Type 0) → ((p : ℕ) (r : Region) (i x : ℕ) → Owes (part p) r i x → Q p r i x) →
      (p : ℕ) (r : Region) (i x : ℕ) → Owes (put_at part me w p) r i x → Q p r i x
  all_owed Q each = each_put (λ p u. (r : Region) (i x : ℕ) → Owes u r i x → Q p r i x) part me w
      (λ r i x o. each me r i x (subst (λ (l : List Owed). Contains l (owed_word r i x)) owed o)) each

  all_known : (Q : ℕ → Region → ℕ → ℕ → Type 0) → ((p : ℕ) (r : Region) (i x : ℕ) → Knows (part p) r i x → Q p r i x) →
      (p : ℕ) (r : Region) (i x : ℕ) → Knows (put_at part me w p) r i x → Q p r i x
  all_known Q each = each_put (λ p u. (r : Region) (i x : ℕ) → Knows u r i x → Q p r i x) part me w
      (λ r i x o. each me r i x (subst (λ (l : List Owed). Contains l (owed_word r i x)) known o)) each

  all_saw : (new : Heap) → ((b : ℕ) → IsTaken heap b → IsTaken new b) →
      ((b : ℕ) → b < block_count layout → (new region.Dead b ≡ heap region.Dead b) ⊎ IsTaken new b) →
      ((b : ℕ) → new region.Swept b ≡ heap region.Swept b) →
      (p : ℕ) (saw : Saw) → (put_at part me w p).saw ≡ Some saw → SawStands layout new saw
  all_saw new taken dead_words swept_words = each_put (λ p u. (saw : Saw) → u.saw ≡ Some saw → SawStands layout new saw)
      part me w (λ saw is. still me saw (sym same_saw ∙ is)) still
    where
      still : (p : ℕ) (saw : Saw) → (part p).saw ≡ Some saw → SawStands layout new saw
      still p saw is =
          let was = named.saw p saw is in
          saw_kept layout heap new saw (taken saw.block) (dead_words saw.block was.within) (swept_words saw.block) was

  -- one more word is zeroed
  module _ (s : Sweeping) (is : (part me).sweeping ≡ Some s) (ungiven : s.given ≡ false) (at : Region) (index : ℕ)
      (word : IsDeadWord layout s.block s.dead at index)
      (later : w.sweeping ≡ Some (record s { zeroed = owed_word at index 0 ∷ s.zeroed })) where
    abbrev zeroed : Heap
    zeroed = write heap at index 0

    abbrev next : Sweeping
    next = record s { zeroed = owed_word at index 0 ∷ s.zeroed }

    at_else : (r : Region) → is_zeroed_region r ≡ false → (tag r == tag at) ≡ false
    at_else r isnt = elim (cases_Bool (tag r == tag at)) [
      | inl same ↦ absurd (dead_word_region layout s.block s.dead at index
          (subst (λ (q : Region). is_zeroed_region q ≡ false) (tag-injective r at (eqb-true (tag r) (tag at) same)) isnt) word)
      | inr apart ↦ apart
    ]

    zero_else : (r : Region) (i : ℕ) → is_zeroed_region r ≡ false → zeroed r i ≡ heap r i
    zero_else r i isnt = write-other_region heap at r index i 0 (at_else r isnt)

    -- what was 0 is, and what is written
    stays_zero : (r : Region) (i : ℕ) → heap r i ≡ 0 → zeroed r i ≡ 0
    stays_zero r i was = elim (cases_Bool ((tag r == tag at) && (i == index))) [
      | inl here ↦ ap (λ (b : Bool). if b then 0 else heap r i) here
      | inr apart ↦ ap (λ (b : Bool). if b then 0 else heap r i) apart ∙ was
    ]

    -- the sweeps have the same words differ, and the one that was zeroed
    was_unsettled : (p : ℕ) (r : Region) (i x : ℕ) → Unsettles (part p) r i x → Unsettles (put_at part me w p) r i x
    was_unsettled = put_at_elim (λ p u. (r : Region) (i x : ℕ) → Unsettles (part p) r i x → Unsettles u r i x) part me w
        (λ r i x un. unsettles_zeroed w.sweeping next r i x later ungiven (old r i x (unsettled_cases (part me).sweeping r i x un)))
        (λ p apart r i x un. un)
      where
        old : (r : Region) (i x : ℕ) → (t : Sweeping) × ((part me).sweeping ≡ Some t) ×
            (((t.given ≡ false) × Contains t.zeroed (owed_word r i x))
            ⊎ ((t.given ≡ true) × (owed_word region.Dead t.block 0 ≡ owed_word r i x))) →
            Contains (owed_word at index 0 ∷ s.zeroed) (owed_word r i x)
        old r i x (t, is_too, how) =
            let one : Some t ≡ Some s = sym is_too ∙ is in
            let same : t ≡ s = cc in
            elim how [
              | inl waits ↦
                  let (k, below, has) = subst (λ (o : Sweeping). Contains o.zeroed (owed_word r i x)) same waits.1 in
                  (suc k, omega (arith, below), has)
              | inr gave ↦ absurd (let g = gave.0 in let bad : true ≡ false = sym g ∙ ap (λ (o : Sweeping). o.given) same ∙ ungiven in cc)
            ]

    here_unsettled : (p : ℕ) → p ≡ me → Unsettles (put_at part me w p) at index 0
    here_unsettled p same = subst (λ (u : View). Unsettles u at index 0)
        (sym (ap (put_at part me w) same ∙ put_here part me w))
        (unsettles_zeroed w.sweeping next at index 0 later ungiven (zero, omega arith, refl))

    pub words_zeroed : RunningWordsRead layout shapes zeroed (put_at part me w) state
    words_zeroed = record {
      settled = words.settled;
      reads = words.reads;
      same = λ r i read free swept. elim (cases_Bool ((tag r == tag at) && (i == index))) [
        | inl here ↦
            let parts = and_parts (tag r == tag at) (i == index) here in
            let region_is = tag-injective r at (eqb-true (tag r) (tag at) parts.0) in
            let index_is = eqb-true i index parts.1 in
            absurd (swept me 0 (subst (λ (q : Region). Unsettles (put_at part me w me) q i 0) (sym region_is)
            (subst (λ (j : ℕ). Unsettles (put_at part me w me) at j 0) (sym index_is) (here_unsettled me refl))))
        | inr apart ↦ ap (λ (b : Bool). if b then 0 else heap r i) apart
            ∙ words.same r i read (λ p x o. free p x (owed_back p r i x o)) (λ p x un. swept p x (was_unsettled p r i x un))
      ];
      owed = all_owed (λ p r i x. words.settled r i ≡ x) words.owed;
      owns = all_owed (λ p r i x. IsOwnWord layout state p r i) words.owns;
      known = all_known (λ p r i x. words.settled r i ≡ x) words.known;
      given = each_put (λ p u. (t : Sweeping) → u.sweeping ≡ Some t → t.given ≡ true → words.settled region.Dead t.block ≡ 0)
          part me w (λ t is_too gave. absurd (let one : Some next ≡ Some t = sym later ∙ is_too in let same : next ≡ t = cc in
          let bad : false ≡ true = sym ungiven ∙ ap (λ (o : Sweeping). o.given) same ∙ gave in cc)) words.given;
    }

    taken_now : (b : ℕ) → IsTaken heap b → IsTaken zeroed b
    taken_now b = is_taken zeroed heap b (sym (zero_else region.Phase 0 refl)) (sym (zero_else region.Swept b refl))

    taken_then : (b : ℕ) → IsTaken zeroed b → IsTaken heap b
    taken_then b = is_taken heap zeroed b (zero_else region.Phase 0 refl) (zero_else region.Swept b refl)

    running : running_cycle zeroed ≡ running_cycle heap
    running = ap (λ (p : ℕ). running_cycle (λ r i. p)) (zero_else region.Phase 0 refl)

    -- its sweep is of the same block
    mine : (b : ℕ) → Sweeps w b → Sweeps (part me) b
    mine b t =
        let one : Some next ≡ Some t.sweeping = sym later ∙ t.is in
        let same : next ≡ t.sweeping = cc in
        record { sweeping = s; is = is; of_block = ap (λ (o : Sweeping). o.block) same ∙ t.of_block }

    pub named_zeroed : SweepsAreNamed layout zeroed (put_at part me w) state
    named_zeroed = record {
      taken = each_put (λ p u. (b : ℕ) → Sweeps u b → IsTaken zeroed b) part me w
          (λ b t. taken_now b (named.taken me b (mine b t))) (λ p b t. taken_now b (named.taken p b t));
      begun = each_put (λ p u. (b : ℕ) → Sweeps u b → 0 < running_cycle zeroed) part me w
          (λ b t. let some = named.begun me b (mine b t) in omega (arith, some, running))
          (λ p b t. let some = named.begun p b t in omega (arith, some, running));
      active = each_put (λ p u. (b : ℕ) → Sweeps u b → (p < layout.mutators) × (u.left ≡ false)) part me w
          (λ b t. let was = named.active me b (mine b t) in (was.0, same_left ∙ was.1)) named.active;
      owner = named.owner;
      once = each_put (λ p u. (b : ℕ) → Sweeps u b → named.owner b ≡ p) part me w (λ b t. named.once me b (mine b t))
          named.once;
      named = λ b within taken has. let (p, t) = named.named b within (taken_then b taken) has in (
        p,
        put_at_elim (λ p u. IsSweeping (part p) b → IsSweeping u b) part me w (still_sweeps b) (λ p apart t. t) p t,
      );
      stands = put_at_elim (λ p u. (t : Sweeping) → u.sweeping ≡ Some t → SweepStands layout zeroed t) part me w mine_stands
          (λ p apart t is_too. others p t is_too);
      saw = all_saw zeroed taken_now (λ b within. inl (zero_else region.Dead b refl)) (λ b. zero_else region.Swept b refl);
    }
      where
        still_sweeps : (b : ℕ) → IsSweeping (part me) b → IsSweeping w b
        still_sweeps b t =
            let one : Some t.sweeping ≡ Some s = sym t.is ∙ is in
            let same : t.sweeping ≡ s = cc in
            record { sweeping = next; is = later; of_block = sym (ap (λ (o : Sweeping). o.block) same) ∙ t.of_block; ungiven = ungiven }

        others : (p : ℕ) (t : Sweeping) → (part p).sweeping ≡ Some t → SweepStands layout zeroed t
        others p t is_too = let was = named.stands p t is_too in record {
          within = was.within;
          dead = λ waits. zero_else region.Dead t.block refl ∙ was.dead waits;
          zeroed = λ waits r i x has. (let z = was.zeroed waits r i x has in (z.0, stays_zero r i z.1));
        }

        next_stands : SweepStands layout zeroed next
        next_stands = let was = named.stands me s is in record {
          within = was.within;
          dead = λ waits. zero_else region.Dead s.block refl ∙ was.dead waits;
          zeroed = λ waits r i x has. elim (Contains-append_cases (owed_word at index 0 ∷ []) s.zeroed (owed_word r i x) has) [
            | inl here ↦ (let same = in_one (owed_word at index 0) (owed_word r i x) here in
                subst (λ (o : Owed). IsDeadWord layout s.block s.dead o.region o.index × (zeroed o.region o.index ≡ 0)) same
                (word, write-same heap at index 0))
            | inr before ↦ (let z = was.zeroed waits r i x before in (z.0, stays_zero r i z.1))
          ];
        }

        mine_stands : (t : Sweeping) → w.sweeping ≡ Some t → SweepStands layout zeroed t
        mine_stands t is_too =
            let one : Some next ≡ Some t = sym later ∙ is_too in
            let same : next ≡ t = cc in
            subst (SweepStands layout zeroed) same next_stands

  -- the bits of what was dead are given, once all of its words are 0
  module _ (s : Sweeping) (is : (part me).sweeping ≡ Some s) (ungiven : s.given ≡ false)
      (all : (at : Region) (index : ℕ) → IsDeadWord layout s.block s.dead at index → Contains s.zeroed (owed_word at index 0))
      (owns_known : (p : ℕ) (r : Region) (i x : ℕ) → Knows (part p) r i x → IsOwnWord layout state p r i)
      (later : w.sweeping ≡ Some (record s { given = true })) where
    abbrev gave : Sweeping
    gave = record s { given = true }

    abbrev given_heap : Heap
    given_heap = write heap region.Free s.block (bit_or (heap region.Free s.block) s.dead)

    abbrev bits_put : Heap
    bits_put = write (write words.settled region.Free s.block (bit_or (words.settled region.Free s.block) s.dead)) region.Dead s.block 0

    abbrev settled : Heap
    settled r i = if has_at r i s.zeroed then 0 else bits_put r i

    abbrev after : State
    after = after_sweep layout state s.block

    stood : SweepStands layout heap s
    stood = named.stands me s is

    -- what was zeroed is a dead word
    was_dead : (r : Region) (i : ℕ) → has_at r i s.zeroed ≡ true → IsDeadWord layout s.block s.dead r i × (heap r i ≡ 0)
    was_dead r i has = (let (x, at) = has_at-word r i s.zeroed has in stood.zeroed ungiven r i x at)

    not_zeroed : (r : Region) (i : ℕ) → (IsDeadWord layout s.block s.dead r i → ⊥) → has_at r i s.zeroed ≡ false
    not_zeroed r i isnt = elim (cases_Bool (has_at r i s.zeroed)) [
      | inl has ↦ absurd (isnt (was_dead r i has).0)
      | inr none ↦ none
    ]

    left_alone : (r : Region) (i : ℕ) → (IsDeadWord layout s.block s.dead r i → ⊥) → settled r i ≡ bits_put r i
    left_alone r i isnt = ap (λ (b : Bool). if b then 0 else bits_put r i) (not_zeroed r i isnt)

    is_cleared : (r : Region) (i : ℕ) → IsDeadWord layout s.block s.dead r i → settled r i ≡ 0
    is_cleared r i word = ap (λ (b : Bool). if b then 0 else bits_put r i) (has_at-is r i 0 s.zeroed (all r i word))

    dead_is : words.settled region.Dead s.block ≡ s.dead
    dead_is = dead_settled layout shapes heap part state words named me s is ungiven

    in_dead : (cell : ℕ) → IsCellIn s.block (words.settled region.Dead s.block) cell → IsCellIn s.block s.dead cell
    in_dead cell = subst (λ (bits : ℕ). IsCellIn s.block bits cell) dead_is

    from_dead : (cell : ℕ) → IsCellIn s.block s.dead cell → IsCellIn s.block (words.settled region.Dead s.block) cell
    from_dead cell = subst (λ (bits : ℕ). IsCellIn s.block bits cell) (sym dead_is)

    array_in_dead : (array : ℕ) → IsArrayIn layout s.block (words.settled region.Dead s.block) array → IsArrayIn layout s.block s.dead array
    array_in_dead array = subst (λ (bits : ℕ). IsArrayIn layout s.block bits array) dead_is

    array_from_dead : (array : ℕ) → IsArrayIn layout s.block s.dead array → IsArrayIn layout s.block (words.settled region.Dead s.block) array
    array_from_dead array = subst (λ (bits : ℕ). IsArrayIn layout s.block bits array) (sym dead_is)

    others_same : (r : Region) → is_swept_region r ≡ false → SameIn layout r words.settled settled
    others_same r isnt i below = left_alone r i (dead_word_region layout s.block s.dead r i (not_zeroed_region r isnt))
        ∙ write-other_region (write words.settled region.Free s.block (bit_or (words.settled region.Free s.block) s.dead))
        region.Dead r s.block i 0 (ne_eqb (tag r) (tag region.Dead) (λ same. let is_one = tag-injective r region.Dead same in
        let also = ap is_swept_region is_one in absurd (cc)))
        ∙ write-other_region words.settled region.Free r s.block i (bit_or (words.settled region.Free s.block) s.dead)
        (ne_eqb (tag r) (tag region.Free) (λ same. let is_one = tag-injective r region.Free same in
        let also = ap is_swept_region is_one in absurd (cc)))
      where
        not_zeroed_region : (q : Region) → is_swept_region q ≡ false → is_zeroed_region q ≡ false
        not_zeroed_region region.Free a = absurd (cc)
        not_zeroed_region region.Dead a = absurd (cc)
        not_zeroed_region region.Structure a = a
        not_zeroed_region region.Array a = a
        not_zeroed_region region.Claim a = a
        not_zeroed_region region.Group a = a
        not_zeroed_region region.Slots a = a
        not_zeroed_region region.Elements a = a
        not_zeroed_region region.Period a = a
        not_zeroed_region region.Phase a = a
        not_zeroed_region region.Base a = a
        not_zeroed_region region.Active a = a
        not_zeroed_region region.Call a = a
        not_zeroed_region region.Stopped a = a
        not_zeroed_region region.Registers a = a
        not_zeroed_region region.Strong a = a
        not_zeroed_region region.Weak a = a
        not_zeroed_region region.Colour a = a
        not_zeroed_region region.GreyShared a = a
        not_zeroed_region region.GreyMutator a = a
        not_zeroed_region region.GreyRace a = a
        not_zeroed_region region.Swept a = a

    zeroed_words : AreWordsZeroed layout words.settled settled s.block (words.settled region.Dead s.block)
    zeroed_words = record {
      cells = record {
        zeroed = λ cell within in_block. let own = in_dead cell in_block in record {
          structure = is_cleared region.Structure cell (within, own);
          array = is_cleared region.Array cell (within, own);
          claim = is_cleared region.Claim cell (within, own);
          group = is_cleared region.Group cell (within, own);
          slots = λ slot has. is_cleared region.Slots (index_of_slot layout cell slot) (cell, slot, has, refl, own);
        };
        kept = λ cell within isnt. record {
          structure = left_alone region.Structure cell (λ word. isnt (from_dead cell word.1));
          array = left_alone region.Array cell (λ word. isnt (from_dead cell word.1));
          claim = left_alone region.Claim cell (λ word. isnt (from_dead cell word.1));
          group = left_alone region.Group cell (λ word. isnt (from_dead cell word.1));
          slots = λ slot has. left_alone region.Slots (index_of_slot layout cell slot) (λ word. isnt (from_dead cell (slot_in cell slot has word)));
        };
      };
      arrays = record {
        zeroed = λ array place has in_block. is_cleared region.Elements (index_of_element layout array place)
            (array, place, has, refl, array_in_dead array in_block);
        kept = λ array place has isnt. left_alone region.Elements (index_of_element layout array place)
            (λ word. isnt (array_from_dead array (element_in array place has word)));
      };
    }
      where
        slot_in : (cell slot : ℕ) → HasSlot layout cell slot →
            IsDeadWord layout s.block s.dead region.Slots (index_of_slot layout cell slot) → IsCellIn s.block s.dead cell
        slot_in cell slot has (c, k, has_it, at, in_block) = subst (IsCellIn s.block s.dead)
            (sym (index_of_slot-alone layout c cell k slot has_it.slot_within has.slot_within (sym at)).0) in_block

        element_in : (array place : ℕ) → HasElement layout array place →
            IsDeadWord layout s.block s.dead region.Elements (index_of_element layout array place) → IsArrayIn layout s.block s.dead array
        element_in array place has (a, k, has_it, at, in_block) = subst (IsArrayIn layout s.block s.dead)
            (sym (index_of_element-alone layout a array k place has_it.element_within has.element_within (sym at)).0) in_block

    bits_given : AreBitsGiven layout words.settled settled s.block (words.settled region.Dead s.block)
    bits_given = record {
      free = left_alone region.Free s.block (λ word. word)
          ∙ write-same words.settled region.Free s.block (bit_or (words.settled region.Free s.block) s.dead)
          ∙ ap (bit_or (words.settled region.Free s.block)) (sym dead_is);
      other_free = λ b within apart. left_alone region.Free b (λ word. word)
          ∙ write-other_index words.settled region.Free s.block b (bit_or (words.settled region.Free s.block) s.dead) apart;
      other_dead = λ b within apart. left_alone region.Dead b (λ word. word)
          ∙ write-other_index (write words.settled region.Free s.block (bit_or (words.settled region.Free s.block) s.dead))
          region.Dead s.block b 0 apart;
    }

    none_dead : settled region.Dead s.block ≡ 0
    none_dead = left_alone region.Dead s.block (λ word. word)
        ∙ write-same (write words.settled region.Free s.block (bit_or (words.settled region.Free s.block) s.dead)) region.Dead s.block 0

    -- a mutator's own word is as it was
    own_kept : (q : ℕ) (r : Region) (i : ℕ) → IsOwnWord layout state q r i → settled r i ≡ words.settled r i
    own_kept q r i own = ap (λ (b : Bool). if b then 0 else bits_put r i) not_here ∙ by r i own
      where
        by : (r : Region) (i : ℕ) → IsOwnWord layout state q r i → bits_put r i ≡ words.settled r i
        by _ _ (own_register a b c) = refl
        by _ _ (own_structure c at) = refl
        by _ _ (own_array c at) = refl
        by _ _ (own_pair t k at one has) = refl
        by _ _ (own_element c a k at has_it has) = refl

        not_here : has_at r i s.zeroed ≡ false
        not_here = elim (cases_Bool (has_at r i s.zeroed)) [
          | inl has ↦ (let (x, at) = has_at-word r i s.zeroed has in
              absurd (own_settled layout shapes heap part state words named refs q r i own me x
              (unsettles_zeroed (part me).sweeping s r i x is ungiven at)))
          | inr none ↦ none
        ]

    own_after : (q : ℕ) (r : Region) (i : ℕ) → IsOwnWord layout state q r i → IsOwnWord layout after q r i
    own_after q _ _ (own_register a b c) = own_register a b c
    own_after q _ _ (own_structure c at) = own_structure c at
    own_after q _ _ (own_array c at) = own_array c at
    own_after q _ _ (own_pair t k at one has) = own_pair t k at one has
    own_after q _ _ (own_element c a k at has_it has) = own_element c a k at
        (ap (λ (x : CellState). x.array) (swept_cell-live (block_of_cell c == s.block) (state.cells c) (refs.claimed q c at)) ∙ has_it) has

    -- who else sweeps, sweeps another block
    other_block : (p : ℕ) (t : Sweeping) → p ≢ me → (part p).sweeping ≡ Some t → t.block ≢ s.block
    other_block p t apart is_too same = apart (sym (named.once p s.block (record { sweeping = t; is = is_too; of_block = same }))
        ∙ named.once me s.block (record { sweeping = s; is = is; of_block = refl }))

    -- the words that others have differ
    still_unsettled : (p : ℕ) (r : Region) (i x : ℕ) → has_at r i s.zeroed ≡ false → Unsettles (part p) r i x →
        Unsettles (put_at part me w p) r i x
    still_unsettled = put_at_elim (λ p u. (r : Region) (i x : ℕ) → has_at r i s.zeroed ≡ false → Unsettles (part p) r i x →
        Unsettles u r i x) part me w
        (λ r i x none un. absurd (old r i x none (unsettled_cases (part me).sweeping r i x un))) (λ p apart r i x none un. un)
      where
        old : (r : Region) (i x : ℕ) → has_at r i s.zeroed ≡ false → (t : Sweeping) × ((part me).sweeping ≡ Some t) ×
            (((t.given ≡ false) × Contains t.zeroed (owed_word r i x))
            ⊎ ((t.given ≡ true) × (owed_word region.Dead t.block 0 ≡ owed_word r i x))) → ⊥
        old r i x none (t, is_too, how) =
            let one : Some t ≡ Some s = sym is_too ∙ is in
            let same : t ≡ s = cc in
            elim how [
              | inl waits ↦ (let at = subst (λ (o : Sweeping). Contains o.zeroed (owed_word r i x)) same waits.1 in
                  let has = has_at-is r i x s.zeroed at in absurd (cc))
              | inr g ↦ absurd (let one = g.0 in let bad : true ≡ false = sym one ∙ ap (λ (o : Sweeping). o.given) same ∙ ungiven in cc)
            ]

    -- the word of the dead bits differs from now on
    dead_differs : (r : Region) (i : ℕ) → r ≡ region.Dead → i ≡ s.block → Unsettles (put_at part me w me) r i 0
    dead_differs r i region_is index_is =
        subst (λ (u : View). Unsettles u r i 0) (sym (put_here part me w))
        (subst (λ (o : Option Sweeping). Contains (unsettled o) (owed_word r i 0)) (sym later)
        (subst (λ (q : Region). Contains (owed_word region.Dead s.block 0 ∷ []) (owed_word q i 0)) (sym region_is)
        (subst (λ (j : ℕ). Contains (owed_word region.Dead s.block 0 ∷ []) (owed_word region.Dead j 0)) (sym index_is)
        (zero, omega arith, refl))))

    pub words_given : RunningWordsRead layout shapes given_heap (put_at part me w) after
    words_given = record {
      settled = settled;
      reads = ReadsAs-swept layout shapes words.settled settled state s.block others_same zeroed_words bits_given none_dead
          words.reads refs;
      same = λ r i read unowed swept. elim (cases_Bool (has_at r i s.zeroed)) [
        | inl has ↦
            let was = was_dead r i has in
            write-other_region heap region.Free r s.block i (bit_or (heap region.Free s.block) s.dead)
            (ne_eqb (tag r) (tag region.Free) (λ same. let one = tag-injective r region.Free same in
            absurd (subst (λ (q : Region). IsDeadWord layout s.block s.dead q i) one was.0)))
            ∙ was.1 ∙ sym (ap (λ (b : Bool). if b then 0 else bits_put r i) has)
        | inr none ↦ unzeroed r i read unowed swept none ∙ sym (ap (λ (b : Bool). if b then 0 else bits_put r i) none)
      ];
      owed = all_owed (λ p r i x. settled r i ≡ x) (λ p r i x o. own_kept p r i (words.owns p r i x o) ∙ words.owed p r i x o);
      owns = all_owed (λ p r i x. IsOwnWord layout after p r i) (λ p r i x o. own_after p r i (words.owns p r i x o));
      known = all_known (λ p r i x. settled r i ≡ x) (λ p r i x o. own_kept p r i (owns_known p r i x o) ∙ words.known p r i x o);
      given = put_at_elim (λ p u. (t : Sweeping) → u.sweeping ≡ Some t → t.given ≡ true → settled region.Dead t.block ≡ 0)
          part me w
          (λ t is_too g. let one : Some gave ≡ Some t = sym later ∙ is_too in let same : gave ≡ t = cc in
          ap (settled region.Dead) (sym (ap (λ (o : Sweeping). o.block) same)) ∙ none_dead)
          (λ p apart t is_too g. left_alone region.Dead t.block (λ word. word)
          ∙ write-other_index (write words.settled region.Free s.block (bit_or (words.settled region.Free s.block) s.dead))
          region.Dead s.block t.block 0 (other_block p t apart is_too) ∙ words.given p t is_too g);
    }
      where
        -- a word that isn't one of the two of the block
        plain_word : (r : Region) (i : ℕ) → is_read r ≡ true →
            ((p x : ℕ) → Owes (put_at part me w p) r i x → ⊥) → ((p x : ℕ) → Unsettles (put_at part me w p) r i x → ⊥) →
            has_at r i s.zeroed ≡ false → heap r i ≡ words.settled r i
        plain_word r i read unowed swept none = words.same r i read (λ p x o. unowed p x (owed_back p r i x o))
            (λ p x un. swept p x (still_unsettled p r i x none un))

        unzeroed : (r : Region) (i : ℕ) → is_read r ≡ true →
            ((p x : ℕ) → Owes (put_at part me w p) r i x → ⊥) → ((p x : ℕ) → Unsettles (put_at part me w p) r i x → ⊥) →
            has_at r i s.zeroed ≡ false → given_heap r i ≡ bits_put r i
        unzeroed r i read unowed swept none = elim (cases_Bool ((tag r == tag region.Dead) && (i == s.block))) [
          | inl here ↦
              let parts = and_parts (tag r == tag region.Dead) (i == s.block) here in
              let region_is = tag-injective r region.Dead (eqb-true (tag r) (tag region.Dead) parts.0) in
              absurd (swept me 0 (dead_differs r i region_is (eqb-true i s.block parts.1)))
          | inr apart ↦ elim (cases_Bool ((tag r == tag region.Free) && (i == s.block))) [
            | inl here ↦
                let parts = and_parts (tag r == tag region.Free) (i == s.block) here in
                let region_is = tag-injective r region.Free (eqb-true (tag r) (tag region.Free) parts.0) in
                let index_is = eqb-true i s.block parts.1 in
                let word = sym (ap (λ (q : Region). heap q i) region_is ∙ ap (heap region.Free) index_is)
                ∙ plain_word r i read unowed swept none
                ∙ ap (λ (q : Region). words.settled q i) region_is ∙ ap (words.settled region.Free) index_is in
                ap (λ (b : Bool). if b then bit_or (heap region.Free s.block) s.dead else heap r i) here
                ∙ ap (λ (x : ℕ). bit_or x s.dead) word
                ∙ sym (ap (λ (b : Bool). if b then 0 else write words.settled region.Free s.block
                (bit_or (words.settled region.Free s.block) s.dead) r i) apart
                ∙ ap (λ (b : Bool). if b then bit_or (words.settled region.Free s.block) s.dead else words.settled r i) here)
            | inr other ↦
                ap (λ (b : Bool). if b then bit_or (heap region.Free s.block) s.dead else heap r i) other
                ∙ plain_word r i read unowed swept none
                ∙ sym (ap (λ (b : Bool). if b then 0 else write words.settled region.Free s.block
                (bit_or (words.settled region.Free s.block) s.dead) r i) apart
                ∙ ap (λ (b : Bool). if b then bit_or (words.settled region.Free s.block) s.dead else words.settled r i) other)
          ]
        ]

    -- nothing of the block is dead any more
    none_is_dead : HasDead layout after s.block → ⊥
    none_is_dead (dead_cell cell within at is_dead_now) = absurd (gone (block_of_cell cell == s.block) (state.cells cell)
        (eq-eqb (block_of_cell cell) s.block at) is_dead_now)
      where
        gone : (b : Bool) (held : CellState) → b ≡ true → (swept_cell b held).status ≡ dead → ⊥
        gone true held sure now = by (is_dead held.status) refl now
          where
            by : (d : Bool) → is_dead held.status ≡ d → (if d then blank_cell free else held).status ≡ dead → ⊥
            by true e now = absurd (cc)
            by false e now = absurd (let also = ap is_dead now in cc)
        gone false held sure now = absurd (cc)
    none_is_dead (dead_array array within at is_dead_now) = absurd (gone (block_of_array layout array == s.block) (state.arrays array)
        (eq-eqb (block_of_array layout array) s.block at) is_dead_now)
      where
        gone : (b : Bool) (status : Status) → b ≡ true → swept_status b status ≡ dead → ⊥
        gone true status sure now = by (is_dead status) refl now
          where
            by : (d : Bool) → is_dead status ≡ d → (if d then free else status) ≡ dead → ⊥
            by true e now = absurd (cc)
            by false e now = absurd (let also = ap is_dead now in cc)
        gone false status sure now = absurd (cc)

    mine_given : (b : ℕ) → Sweeps w b → Sweeps (part me) b
    mine_given b t =
        let one : Some gave ≡ Some t.sweeping = sym later ∙ t.is in
        let same : gave ≡ t.sweeping = cc in
        record { sweeping = s; is = is; of_block = ap (λ (o : Sweeping). o.block) same ∙ t.of_block }

    pub named_given : SweepsAreNamed layout given_heap (put_at part me w) after
    named_given = record {
      taken = each_put (λ p u. (b : ℕ) → Sweeps u b → IsTaken given_heap b) part me w
          (λ b t. named.taken me b (mine_given b t)) named.taken;
      begun = each_put (λ p u. (b : ℕ) → Sweeps u b → 0 < running_cycle given_heap) part me w
          (λ b t. named.begun me b (mine_given b t)) named.begun;
      active = each_put (λ p u. (b : ℕ) → Sweeps u b → (p < layout.mutators) × (u.left ≡ false)) part me w
          (λ b t. let was = named.active me b (mine_given b t) in (was.0, same_left ∙ was.1)) named.active;
      owner = named.owner;
      once = each_put (λ p u. (b : ℕ) → Sweeps u b → named.owner b ≡ p) part me w (λ b t. named.once me b (mine_given b t))
          named.once;
      named = λ b within taken has.
          let (p, t) = named.named b within taken (had_dead layout state after b (HasNoNewDead-sweep layout state s.block) has) in (
            p,
            put_at_elim (λ p u. IsSweeping (part p) b → IsSweeping u b) part me w
                (λ t. absurd (let one : Some t.sweeping ≡ Some s = sym t.is ∙ is in let same : t.sweeping ≡ s = cc in
                none_is_dead (subst (HasDead layout after) (sym t.of_block ∙ ap (λ (o : Sweeping). o.block) same) has)))
                (λ p apart t. t) p t,
          );
      stands = put_at_elim (λ p u. (t : Sweeping) → u.sweeping ≡ Some t → SweepStands layout given_heap t) part me w
          (λ t is_too. let one : Some gave ≡ Some t = sym later ∙ is_too in let same : gave ≡ t = cc in
          subst (SweepStands layout given_heap) same (record {
            within = stood.within;
            dead = λ waits. absurd (cc);
            zeroed = λ waits. absurd (cc);
          }))
          (λ p apart t is_too. let was = named.stands p t is_too in record {
            within = was.within;
            dead = was.dead;
            zeroed = λ waits r i x has. let z = was.zeroed waits r i x has in (
              z.0,
              write-other_region heap region.Free r s.block i (bit_or (heap region.Free s.block) s.dead)
                  (ne_eqb (tag r) (tag region.Free) (λ same. let one_is = tag-injective r region.Free same in
                  absurd (subst (λ (q : Region). IsDeadWord layout t.block t.dead q i) one_is z.0))) ∙ z.1,
            );
          });
      saw = all_saw given_heap (λ b taken. taken) (λ b within. inl refl) (λ b. refl);
    }

  -- the word of the dead bits becomes 0, and the sweep is over
  module _ (s : Sweeping) (is : (part me).sweeping ≡ Some s) (gave : s.given ≡ true) (later : w.sweeping ≡ None) where
    abbrev finished : Heap
    finished = write heap region.Dead s.block 0

    over : {X : Type 0} (t : Sweeping) → w.sweeping ≡ Some t → X
    over t is_too = absurd (let other = sym later ∙ is_too in cc)

    -- it alone had the word of its block's dead bits differ
    back : (p : ℕ) (r : Region) (i x : ℕ) → ((tag r == tag region.Dead) && (i == s.block)) ≡ false → Unsettles (part p) r i x →
        Unsettles (put_at part me w p) r i x
    back = put_at_elim (λ p u. (r : Region) (i x : ℕ) → ((tag r == tag region.Dead) && (i == s.block)) ≡ false →
        Unsettles (part p) r i x → Unsettles u r i x) part me w
        (λ r i x apart un. absurd (old r i x apart (unsettled_cases (part me).sweeping r i x un))) (λ p other r i x apart un. un)
      where
        old : (r : Region) (i x : ℕ) → ((tag r == tag region.Dead) && (i == s.block)) ≡ false →
            (t : Sweeping) × ((part me).sweeping ≡ Some t) × (((t.given ≡ false) × Contains t.zeroed (owed_word r i x))
            ⊎ ((t.given ≡ true) × (owed_word region.Dead t.block 0 ≡ owed_word r i x))) → ⊥
        old r i x apart (t, is_too, how) =
            let one : Some t ≡ Some s = sym is_too ∙ is in
            let same : t ≡ s = cc in
            elim how [
              | inl waits ↦ absurd (let w = waits.0 in let bad : false ≡ true = sym w ∙ ap (λ (o : Sweeping). o.given) same ∙ gave in cc)
              | inr g ↦
                  let region_is : region.Dead ≡ r = ap (λ (o : Owed). o.region) g.1 in
                  let index_is : s.block ≡ i = sym (ap (λ (o : Sweeping). o.block) same) ∙ ap (λ (o : Owed). o.index) g.1 in
                  let here : ((tag r == tag region.Dead) && (i == s.block)) ≡ true =
                  ap (λ (b : Bool). b && (i == s.block)) (eq-eqb (tag r) (tag region.Dead) (ap tag (sym region_is)))
                  ∙ eq-eqb i s.block (sym index_is) in
                  absurd (cc)
            ]

    pub words_finished : RunningWordsRead layout shapes finished (put_at part me w) state
    words_finished = record {
      settled = words.settled;
      reads = words.reads;
      same = λ r i read free swept. elim (cases_Bool ((tag r == tag region.Dead) && (i == s.block))) [
        | inl here ↦
            let parts = and_parts (tag r == tag region.Dead) (i == s.block) here in
            let region_is = tag-injective r region.Dead (eqb-true (tag r) (tag region.Dead) parts.0) in
            let index_is = eqb-true i s.block parts.1 in
            ap (λ (b : Bool). if b then 0 else heap r i) here
            ∙ sym (ap (λ (q : Region). words.settled q i) region_is ∙ ap (words.settled region.Dead) index_is
            ∙ words.given me s is gave)
        | inr apart ↦ ap (λ (b : Bool). if b then 0 else heap r i) apart
            ∙ words.same r i read (λ p x o. free p x (owed_back p r i x o)) (λ p x un. swept p x (back p r i x apart un))
      ];
      owed = all_owed (λ p r i x. words.settled r i ≡ x) words.owed;
      owns = all_owed (λ p r i x. IsOwnWord layout state p r i) words.owns;
      known = all_known (λ p r i x. words.settled r i ≡ x) words.known;
      given = each_put (λ p u. (t : Sweeping) → u.sweeping ≡ Some t → t.given ≡ true → words.settled region.Dead t.block ≡ 0)
          part me w (λ t is_too g. over t is_too) words.given;
    }

    dead_else : (b : ℕ) → b ≢ s.block → finished region.Dead b ≡ heap region.Dead b
    dead_else b apart = write-other_index heap region.Dead s.block b 0 apart

    taken_here : IsTaken finished s.block
    taken_here = named.taken me s.block (record { sweeping = s; is = is; of_block = refl })

    pub named_finished : SweepsAreNamed layout finished (put_at part me w) state
    named_finished = record {
      taken = each_put (λ p u. (b : ℕ) → Sweeps u b → IsTaken finished b) part me w (λ b t. over t.sweeping t.is) named.taken;
      begun = each_put (λ p u. (b : ℕ) → Sweeps u b → 0 < running_cycle finished) part me w (λ b t. over t.sweeping t.is)
          named.begun;
      active = each_put (λ p u. (b : ℕ) → Sweeps u b → (p < layout.mutators) × (u.left ≡ false)) part me w
          (λ b t. over t.sweeping t.is) named.active;
      owner = named.owner;
      once = each_put (λ p u. (b : ℕ) → Sweeps u b → named.owner b ≡ p) part me w (λ b t. over t.sweeping t.is) named.once;
      named = λ b within taken has. let (p, t) = named.named b within taken has in (
        p,
        put_at_elim (λ p u. IsSweeping (part p) b → IsSweeping u b) part me w
            (λ t. absurd (let one : Some t.sweeping ≡ Some s = sym t.is ∙ is in let same : t.sweeping ≡ s = cc in
            let waits = t.ungiven in let bad : false ≡ true = sym waits ∙ ap (λ (o : Sweeping). o.given) same ∙ gave in cc))
            (λ p apart t. t) p t,
      );
      stands = put_at_elim (λ p u. (t : Sweeping) → u.sweeping ≡ Some t → SweepStands layout finished t) part me w
          (λ t is_too. over t is_too)
          (λ p apart t is_too. let was = named.stands p t is_too in record {
            within = was.within;
            dead = λ waits. dead_else t.block (λ same. apart
                (sym (named.once p s.block (record { sweeping = t; is = is_too; of_block = same }))
                ∙ named.once me s.block (record { sweeping = s; is = is; of_block = refl }))) ∙ was.dead waits;
            zeroed = λ waits r i x has. let z = was.zeroed waits r i x has in (
              z.0,
              write-other_region heap region.Dead r s.block i 0
                  (ne_eqb (tag r) (tag region.Dead) (λ same. let one_is = tag-injective r region.Dead same in
                  absurd (subst (λ (q : Region). IsDeadWord layout t.block t.dead q i) one_is z.0))) ∙ z.1,
            );
          });
      saw = all_saw finished (λ b taken. taken) (λ b within. elim (cases_eq b s.block) [
        | inl same ↦ inr (subst (IsTaken finished) (sym same) taken_here)
        | inr apart ↦ inl (dead_else b apart)
      ]) (λ b. refl);
    }
