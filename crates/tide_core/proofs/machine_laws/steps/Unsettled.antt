-- Which words a sweep has differ from what the store has there: none of what is live, spent or free.
use Rattle.std.proofs.Common.{ℕ, ◌≡◌, ◌≢◌, ◌%◌, ◌<◌, ◌⊎◌, refl, sym, ◌∙◌, ap, subst, arith, Bool, true, false, [], ◌∷◌, inl, inr, Option, Some, None}
use Rattle.std.proofs.lemmas.Bool.{cases_Bool, and_parts, eqb-true}
use Rattle.std.proofs.lemmas.Nat.Bits.{bit_at-lt}
use Rattle.std.specs.Int.{bit_at}
use Rattle.std.specs.Prelude.{Contains, ◌==◌, ◌&&◌, if◌then◌else◌}
use Rattle.tide_words.specs.tide_block.Places.{bit_of}
use Rattle.tide_words.proofs.tide_layout.Places.{tag-injective}
use Rattle.tide_words.proofs.tide_layout.SlotPlaces.{index_of_slot-alone, index_of_element-alone}
use Rattle.tide_words.specs.tide_layout.Region.{tag}
use Rattle.tide_words.specs.tide_layout.Slots.{HasElement, HasSlot, index_of_element, index_of_slot}
use Rattle.tide_words.specs.tide_layout.declared.region.Region.{Region}
use Rattle.tide_words.specs.tide_layout.declared.region.Region.TheVariants as region
use Rattle.tide_core.proofs.machine_laws.steps.Frames.{each_put}
use Rattle.tide_core.proofs.machine_laws.steps.Lists.{nothing_in, in_one}
use Rattle.tide_core.specs.machine.DeadWords.{IsOfDead}
use Rattle.tide_core.specs.machine.Owed.{IsOwnWord, Unsettles, owed_word, unsettled, own_register, own_structure, own_array, own_pair, own_element}
use Rattle.tide_core.specs.declared.machine.view.Owed.{Owed}
use Rattle.tide_core.specs.declared.machine.view.Sweeping.{Sweeping}
use Rattle.tide_core.specs.declared.machine.view.View.{View}
use Rattle.tide_core.specs.machine.points.SettledWords.{RunningWordsRead}
use Rattle.tide_core.specs.machine.points.Sweeps.{SweepStands, SweepsAreNamed}
use Rattle.tide_model.proofs.ReferenceLaws.{put_at_elim}
use Rattle.tide_model.specs.Layout.{Layout, array_count, block_of_array, block_of_cell, cell_count}
use Rattle.tide_model.specs.Numbers.{put_at}
use Rattle.tide_model.specs.References.{RefsAreLive}
use Rattle.tide_model.specs.Refused.{ShapeLists}
use Rattle.tide_model.specs.State.{State, Status, dead, is_dead, live, spent}
use Rattle.tide_sweep.proofs.StatusLaws.{bits_are_dead, dead_from_test}
use Rattle.tide_sweep.specs.Zeroed.{IsArrayIn, IsCellIn, IsDeadWord, is_zeroed_region}
use Rattle.tide_words.proofs.heap_laws.Frames.{is_read}
use Rattle.tide_words.proofs.heap_laws.ReadingLaws.{block_of_array-below, block_of_cell-below}
use Rattle.tide_words.specs.heap.Heap.{Heap, write}
use Rattle.tide_words.specs.heap.Reading.{status_by}

-- what is live isn't dead
pub live_is_not_dead : (status : Status) → status ≡ live → status ≢ dead
live_is_not_dead status alive gone = (let both : live ≡ dead = sym alive ∙ gone in absurd (cc))

-- a word that a sweep has differ is one that it zeroed, or the one of the dead bits that it gave
pub unsettled_cases : (o : Option Sweeping) (at : Region) (index word : ℕ) → Contains (unsettled o) (owed_word at index word) →
    (s : Sweeping) × (o ≡ Some s) × (((s.given ≡ false) × Contains s.zeroed (owed_word at index word))
    ⊎ ((s.given ≡ true) × (owed_word region.Dead s.block 0 ≡ owed_word at index word)))
unsettled_cases None at index word is = absurd (nothing_in (owed_word at index word) is)
unsettled_cases (Some s) at index word is = (s, refl, by_given s.given refl is)
  where
    by_given : (given : Bool) → s.given ≡ given →
        Contains (if given then owed_word region.Dead s.block 0 ∷ [] else s.zeroed) (owed_word at index word) →
        ((s.given ≡ false) × Contains s.zeroed (owed_word at index word))
        ⊎ ((s.given ≡ true) × (owed_word region.Dead s.block 0 ≡ owed_word at index word))
    by_given true e here = inr (e, in_one (owed_word region.Dead s.block 0) (owed_word at index word) here)
    by_given false e here = inl (e, here)

-- a sweep that goes on has the same words differ
pub unsettles_same : (u v : View) → v.sweeping ≡ u.sweeping → (at : Region) (index word : ℕ) → Unsettles u at index word →
    Unsettles v at index word
unsettles_same u v same at index word =
    subst (λ (o : Option Sweeping). Contains (unsettled o) (owed_word at index word)) (sym same)

-- so it is of all views, where one of them keeps its sweep
pub unsettles_put : (part : ℕ → View) (me : ℕ) (w : View) → w.sweeping ≡ (part me).sweeping → (at : Region) (index : ℕ) →
    ((p word : ℕ) → Unsettles (put_at part me w p) at index word → ⊥) → (p word : ℕ) → Unsettles (part p) at index word → ⊥
unsettles_put part me w same at index none p word is = none p word (put_at_elim
    (λ q u. Unsettles (part q) at index word → Unsettles u at index word) part me w
    (unsettles_same (part me) w same at index word) (λ q apart i. i) p is)

-- no dead word is of another region
pub dead_word_region : (layout : Layout) (block bits : ℕ) (at : Region) (index : ℕ) → is_zeroed_region at ≡ false →
    IsDeadWord layout block bits at index → ⊥
dead_word_region layout block bits region.Structure index isnt is = absurd (cc)
dead_word_region layout block bits region.Array index isnt is = absurd (cc)
dead_word_region layout block bits region.Claim index isnt is = absurd (cc)
dead_word_region layout block bits region.Group index isnt is = absurd (cc)
dead_word_region layout block bits region.Slots index isnt is = absurd (cc)
dead_word_region layout block bits region.Elements index isnt is = absurd (cc)
dead_word_region layout block bits region.Period index isnt is = is
dead_word_region layout block bits region.Phase index isnt is = is
dead_word_region layout block bits region.Base index isnt is = is
dead_word_region layout block bits region.Active index isnt is = is
dead_word_region layout block bits region.Call index isnt is = is
dead_word_region layout block bits region.Stopped index isnt is = is
dead_word_region layout block bits region.Registers index isnt is = is
dead_word_region layout block bits region.Strong index isnt is = is
dead_word_region layout block bits region.Weak index isnt is = is
dead_word_region layout block bits region.Colour index isnt is = is
dead_word_region layout block bits region.Free index isnt is = is
dead_word_region layout block bits region.Dead index isnt is = is
dead_word_region layout block bits region.GreyShared index isnt is = is
dead_word_region layout block bits region.GreyMutator index isnt is = is
dead_word_region layout block bits region.GreyRace index isnt is = is
dead_word_region layout block bits region.Swept index isnt is = is

-- a dead word is one that is read
dead_word_read : (layout : Layout) (block bits : ℕ) (at : Region) (index : ℕ) → IsDeadWord layout block bits at index →
    is_read at ≡ true
dead_word_read layout block bits region.Structure index is = refl
dead_word_read layout block bits region.Array index is = refl
dead_word_read layout block bits region.Claim index is = refl
dead_word_read layout block bits region.Group index is = refl
dead_word_read layout block bits region.Slots index is = refl
dead_word_read layout block bits region.Elements index is = refl
dead_word_read layout block bits region.Period index is = absurd is
dead_word_read layout block bits region.Phase index is = absurd is
dead_word_read layout block bits region.Base index is = absurd is
dead_word_read layout block bits region.Active index is = absurd is
dead_word_read layout block bits region.Call index is = absurd is
dead_word_read layout block bits region.Stopped index is = absurd is
dead_word_read layout block bits region.Registers index is = absurd is
dead_word_read layout block bits region.Strong index is = absurd is
dead_word_read layout block bits region.Weak index is = absurd is
dead_word_read layout block bits region.Colour index is = absurd is
dead_word_read layout block bits region.Free index is = absurd is
dead_word_read layout block bits region.Dead index is = absurd is
dead_word_read layout block bits region.GreyShared index is = absurd is
dead_word_read layout block bits region.GreyMutator index is = absurd is
dead_word_read layout block bits region.GreyRace index is = absurd is
dead_word_read layout block bits region.Swept index is = absurd is

-- and so is each word that a sweep has differ
pub unsettled_read : (layout : Layout) (heap : Heap) (v : View) (at : Region) (index word : ℕ) →
    ((s : Sweeping) → v.sweeping ≡ Some s → SweepStands layout heap s) → Unsettles v at index word → is_read at ≡ true
unsettled_read layout heap v at index word stands un = of_case (unsettled_cases v.sweeping at index word un)
  where
    of_case : (s : Sweeping) × (v.sweeping ≡ Some s) × (((s.given ≡ false) × Contains s.zeroed (owed_word at index word))
        ⊎ ((s.given ≡ true) × (owed_word region.Dead s.block 0 ≡ owed_word at index word))) → is_read at ≡ true
    of_case (s, is, inl (waits, zero)) =
        dead_word_read layout s.block s.dead at index ((stands s is).zeroed waits at index word zero).0
    of_case (s, is, inr (gave, same)) =
        subst (λ (r : Region). is_read r ≡ true) (ap (λ (o : Owed). o.region) same) refl

-- no participant owes the word of a block's dead bits
pub own_is_not_dead : (layout : Layout) (state : State) (p : ℕ) (at : Region) (index : ℕ) → IsOwnWord layout state p at index →
    tag at ≢ tag region.Dead
own_is_not_dead layout state p _ _ (own_register r a b) is = absurd (omega (arith, is))
own_is_not_dead layout state p _ _ (own_structure x claimed) is = absurd (omega (arith, is))
own_is_not_dead layout state p _ _ (own_array x claimed) is = absurd (omega (arith, is))
own_is_not_dead layout state p _ _ (own_pair x k claimed one has) is = absurd (omega (arith, is))
own_is_not_dead layout state p _ _ (own_element x a k claimed at has) is = absurd (omega (arith, is))

module _ (layout : Layout) (shapes : ShapeLists) (heap : Heap) (part : ℕ → View) (state : State)
    (words : RunningWordsRead layout shapes heap part state) (named : SweepsAreNamed layout heap part state) where
  -- two sweeps of one block are one
  one_sweeps : (p q : ℕ) (s t : Sweeping) → (part p).sweeping ≡ Some s → (part q).sweeping ≡ Some t → s.block ≡ t.block →
      s ≡ t
  one_sweeps p q s t is other same =
      let mine = named.once p s.block (record { sweeping = s; is = is; of_block = refl }) in
      let also = named.once q s.block (record { sweeping = t; is = other; of_block = sym same }) in
      let who : p ≡ q = sym mine ∙ also in
      let both : Some s ≡ Some t = sym is ∙ ap (λ (r : ℕ). (part r).sweeping) who ∙ other in
      cc

  -- until a sweep gives the bits of its block, the store has what the word of its dead bits says
  pub dead_settled : (p : ℕ) (s : Sweeping) → (part p).sweeping ≡ Some s → s.given ≡ false →
      words.settled region.Dead s.block ≡ s.dead
  dead_settled p s is ungiven = sym (words.same region.Dead s.block refl (λ q word owes.
      own_is_not_dead layout state q region.Dead s.block (words.owns q region.Dead s.block word owes) refl)
      (λ q word un. none q word (unsettled_cases (part q).sweeping region.Dead s.block word un)))
      ∙ (named.stands p s is).dead ungiven
    where
      none : (q word : ℕ) → (t : Sweeping) × ((part q).sweeping ≡ Some t) ×
          (((t.given ≡ false) × Contains t.zeroed (owed_word region.Dead s.block word))
          ⊎ ((t.given ≡ true) × (owed_word region.Dead t.block 0 ≡ owed_word region.Dead s.block word))) → ⊥
      none q word (t, other, inl (waits, zero)) = ((named.stands q t other).zeroed waits region.Dead s.block word zero).0
      none q word (t, other, inr (gave, same)) =
          let at : t.block ≡ s.block = ap (λ (o : Owed). o.index) same in
          let one = one_sweeps q p t s other is at in
          absurd (let bad : true ≡ false = sym gave ∙ ap (λ (x : Sweeping). x.given) one ∙ ungiven in cc)

  -- what has its bit there is dead
  pub cell_is_dead : (p : ℕ) (s : Sweeping) → (part p).sweeping ≡ Some s → s.given ≡ false → (cell : ℕ) →
      cell < cell_count layout → IsCellIn s.block s.dead cell → (state.cells cell).status ≡ dead
  cell_is_dead p s is ungiven cell within (at_block, set) =
      let bit : bit_at (words.settled region.Dead (block_of_cell cell)) (cell % 64) ≡ 1 =
      ap (λ (n : ℕ). bit_at (words.settled region.Dead n) (bit_of cell)) at_block
      ∙ ap (λ (n : ℕ). bit_at n (bit_of cell)) (dead_settled p s is ungiven) ∙ set in
      (words.reads.parts.cells cell within).status
      ∙ bits_are_dead (bit_at (words.settled region.Free (block_of_cell cell)) (cell % 64))
      (bit_at (words.settled region.Dead (block_of_cell cell)) (cell % 64)) live
      (bit_at-lt (words.settled region.Free (block_of_cell cell)) (cell % 64))
      (words.reads.parts.apart (block_of_cell cell) (cell % 64) (block_of_cell-below layout cell within) (omega arith)) bit

  -- so is an array, whether some live cell has it or not
  pub array_is_dead : (p : ℕ) (s : Sweeping) → (part p).sweeping ≡ Some s → s.given ≡ false → (array : ℕ) →
      array < array_count layout → IsArrayIn layout s.block s.dead array → state.arrays array ≡ dead
  array_is_dead p s is ungiven array within (at_block, set) = elim (cases_Bool (is_dead (state.arrays array))) [
    | inl is_one ↦ dead_from_test (state.arrays array) is_one
    | inr isnt ↦ words.reads.parts.arrays.unnamed array within
        (λ named_one. let also = ap is_dead (words.reads.parts.arrays.named array within named_one ∙ by live) in absurd (cc))
        ∙ by spent
  ]
    where
      bit : bit_at (words.settled region.Dead (block_of_array layout array)) (array % 64) ≡ 1
      bit = ap (λ (n : ℕ). bit_at (words.settled region.Dead n) (bit_of array)) at_block
          ∙ ap (λ (n : ℕ). bit_at n (bit_of array)) (dead_settled p s is ungiven) ∙ set

      by : (otherwise : Status) → status_by (words.settled region.Free (block_of_array layout array))
          (words.settled region.Dead (block_of_array layout array)) (array % 64) otherwise ≡ dead
      by otherwise = bits_are_dead (bit_at (words.settled region.Free (block_of_array layout array)) (array % 64))
          (bit_at (words.settled region.Dead (block_of_array layout array)) (array % 64)) otherwise
          (bit_at-lt (words.settled region.Free (block_of_array layout array)) (array % 64))
          (words.reads.parts.apart (block_of_array layout array) (array % 64) (block_of_array-below layout array within)
          (omega arith)) bit

  -- what a word that differs is of
  pub unsettled_word : (p : ℕ) (at : Region) (index word : ℕ) → Unsettles (part p) at index word →
      (s : Sweeping) × ((part p).sweeping ≡ Some s) ×
      (((s.given ≡ false) × IsDeadWord layout s.block s.dead at index × (heap at index ≡ 0))
      ⊎ ((s.given ≡ true) × (region.Dead ≡ at) × (s.block ≡ index)))
  unsettled_word p at index word un = of_case (unsettled_cases (part p).sweeping at index word un)
    where
      of_case : (s : Sweeping) × ((part p).sweeping ≡ Some s) × (((s.given ≡ false) × Contains s.zeroed (owed_word at index word))
          ⊎ ((s.given ≡ true) × (owed_word region.Dead s.block 0 ≡ owed_word at index word))) →
          (s : Sweeping) × ((part p).sweeping ≡ Some s) ×
          (((s.given ≡ false) × IsDeadWord layout s.block s.dead at index × (heap at index ≡ 0))
          ⊎ ((s.given ≡ true) × (region.Dead ≡ at) × (s.block ≡ index)))
      of_case (s, is, inl (waits, zero)) =
          (let z = (named.stands p s is).zeroed waits at index word zero in (s, is, inl (waits, z.0, z.1)))
      of_case (s, is, inr (gave, same)) =
          (s, is, inr (gave, ap (λ (o : Owed). o.region) same, ap (λ (o : Owed). o.index) same))

  -- so it is of what is dead
  dead_of_word : (p : ℕ) (s : Sweeping) → (part p).sweeping ≡ Some s → s.given ≡ false → (at : Region) (index : ℕ) →
      IsDeadWord layout s.block s.dead at index → IsOfDead layout state at index
  dead_of_word p s is waits region.Structure cell w = cell_is_dead p s is waits cell w.0 w.1
  dead_of_word p s is waits region.Array cell w = cell_is_dead p s is waits cell w.0 w.1
  dead_of_word p s is waits region.Claim cell w = cell_is_dead p s is waits cell w.0 w.1
  dead_of_word p s is waits region.Group cell w = cell_is_dead p s is waits cell w.0 w.1
  dead_of_word p s is waits region.Slots index (cell, k, has, at, in_block) =
      (cell, k, has, at, cell_is_dead p s is waits cell has.cell_within in_block)
  dead_of_word p s is waits region.Elements index (array, k, has, at, in_block) =
      (array, k, has, at, array_is_dead p s is waits array has.array_within in_block)
  dead_of_word p s is waits region.Period index w = absurd w
  dead_of_word p s is waits region.Phase index w = absurd w
  dead_of_word p s is waits region.Base index w = absurd w
  dead_of_word p s is waits region.Active index w = absurd w
  dead_of_word p s is waits region.Call index w = absurd w
  dead_of_word p s is waits region.Stopped index w = absurd w
  dead_of_word p s is waits region.Registers index w = absurd w
  dead_of_word p s is waits region.Strong index w = absurd w
  dead_of_word p s is waits region.Weak index w = absurd w
  dead_of_word p s is waits region.Colour index w = absurd w
  dead_of_word p s is waits region.Free index w = absurd w
  dead_of_word p s is waits region.Dead index w = absurd w
  dead_of_word p s is waits region.GreyShared index w = absurd w
  dead_of_word p s is waits region.GreyMutator index w = absurd w
  dead_of_word p s is waits region.GreyRace index w = absurd w
  dead_of_word p s is waits region.Swept index w = absurd w

  pub of_dead : (p : ℕ) (at : Region) (index word : ℕ) → Unsettles (part p) at index word → IsOfDead layout state at index
  of_dead p at index word un = of_case (unsettled_word p at index word un)
    where
      of_case : (s : Sweeping) × ((part p).sweeping ≡ Some s) ×
          (((s.given ≡ false) × IsDeadWord layout s.block s.dead at index × (heap at index ≡ 0))
          ⊎ ((s.given ≡ true) × (region.Dead ≡ at) × (s.block ≡ index))) → IsOfDead layout state at index
      of_case (s, is, inl (waits, is_dead, zero)) = dead_of_word p s is waits at index is_dead
      of_case (s, is, inr (gave, same, block)) = subst (λ (r : Region). IsOfDead layout state r index) same tt

  -- words of other regions are settled, so far as sweeps go
  pub settled_region : (at : Region) → is_zeroed_region at ≡ false → tag at ≢ tag region.Dead → (index p word : ℕ) →
      Unsettles (part p) at index word → ⊥
  settled_region at other no_dead index p word un = elim (unsettled_word p at index word un).2 [
    | inl (waits, is_dead, zero) ↦ dead_word_region layout
        (unsettled_word p at index word un).0.block (unsettled_word p at index word un).0.dead at index other is_dead
    | inr (gave, same, block) ↦ no_dead (ap tag (sym same))
  ]

  -- so are those of a cell that isn't dead
  pub settled_structure : (cell : ℕ) → (state.cells cell).status ≢ dead → (p word : ℕ) →
      Unsettles (part p) region.Structure cell word → ⊥
  settled_structure cell alive p word un = of_word (unsettled_word p region.Structure cell word un)
    where
      of_word : (s : Sweeping) × ((part p).sweeping ≡ Some s) ×
          (((s.given ≡ false) × IsDeadWord layout s.block s.dead region.Structure cell × (heap region.Structure cell ≡ 0))
          ⊎ ((s.given ≡ true) × (region.Dead ≡ region.Structure) × (s.block ≡ cell))) → ⊥
      of_word (s, is, inl (waits, is_dead, zero)) = alive (cell_is_dead p s is waits cell is_dead.0 is_dead.1)
      of_word (s, is, inr (gave, same, block)) = absurd (let t = ap tag same in omega (arith, t))

  pub settled_array : (cell : ℕ) → (state.cells cell).status ≢ dead → (p word : ℕ) →
      Unsettles (part p) region.Array cell word → ⊥
  settled_array cell alive p word un = of_word (unsettled_word p region.Array cell word un)
    where
      of_word : (s : Sweeping) × ((part p).sweeping ≡ Some s) ×
          (((s.given ≡ false) × IsDeadWord layout s.block s.dead region.Array cell × (heap region.Array cell ≡ 0))
          ⊎ ((s.given ≡ true) × (region.Dead ≡ region.Array) × (s.block ≡ cell))) → ⊥
      of_word (s, is, inl (waits, is_dead, zero)) = alive (cell_is_dead p s is waits cell is_dead.0 is_dead.1)
      of_word (s, is, inr (gave, same, block)) = absurd (let t = ap tag same in omega (arith, t))

  pub settled_claim : (cell : ℕ) → (state.cells cell).status ≢ dead → (p word : ℕ) →
      Unsettles (part p) region.Claim cell word → ⊥
  settled_claim cell alive p word un = of_word (unsettled_word p region.Claim cell word un)
    where
      of_word : (s : Sweeping) × ((part p).sweeping ≡ Some s) ×
          (((s.given ≡ false) × IsDeadWord layout s.block s.dead region.Claim cell × (heap region.Claim cell ≡ 0))
          ⊎ ((s.given ≡ true) × (region.Dead ≡ region.Claim) × (s.block ≡ cell))) → ⊥
      of_word (s, is, inl (waits, is_dead, zero)) = alive (cell_is_dead p s is waits cell is_dead.0 is_dead.1)
      of_word (s, is, inr (gave, same, block)) = absurd (let t = ap tag same in omega (arith, t))

  pub settled_group : (cell : ℕ) → (state.cells cell).status ≢ dead → (p word : ℕ) →
      Unsettles (part p) region.Group cell word → ⊥
  settled_group cell alive p word un = of_word (unsettled_word p region.Group cell word un)
    where
      of_word : (s : Sweeping) × ((part p).sweeping ≡ Some s) ×
          (((s.given ≡ false) × IsDeadWord layout s.block s.dead region.Group cell × (heap region.Group cell ≡ 0))
          ⊎ ((s.given ≡ true) × (region.Dead ≡ region.Group) × (s.block ≡ cell))) → ⊥
      of_word (s, is, inl (waits, is_dead, zero)) = alive (cell_is_dead p s is waits cell is_dead.0 is_dead.1)
      of_word (s, is, inr (gave, same, block)) = absurd (let t = ap tag same in omega (arith, t))

  pub settled_slot : (cell slot : ℕ) → HasSlot layout cell slot → (state.cells cell).status ≢ dead → (p word : ℕ) →
      Unsettles (part p) region.Slots (index_of_slot layout cell slot) word → ⊥
  settled_slot cell slot has alive p word un = of_word (unsettled_word p region.Slots (index_of_slot layout cell slot) word un)
    where
      of_word : (s : Sweeping) × ((part p).sweeping ≡ Some s) ×
          (((s.given ≡ false) × IsDeadWord layout s.block s.dead region.Slots (index_of_slot layout cell slot)
          × (heap region.Slots (index_of_slot layout cell slot) ≡ 0))
          ⊎ ((s.given ≡ true) × (region.Dead ≡ region.Slots) × (s.block ≡ index_of_slot layout cell slot))) → ⊥
      of_word (s, is, inl (waits, (c, k, has_it, at, in_block), zero)) =
          let same = sym (index_of_slot-alone layout c cell k slot has_it.slot_within has.slot_within (sym at)).0 in
          alive (cell_is_dead p s is waits cell has.cell_within (subst (IsCellIn s.block s.dead) same in_block))
      of_word (s, is, inr (gave, same, block)) = absurd (let t = ap tag same in omega (arith, t))

  -- and those of an array that isn't dead
  pub settled_element : (array place : ℕ) → HasElement layout array place → state.arrays array ≢ dead → (p word : ℕ) →
      Unsettles (part p) region.Elements (index_of_element layout array place) word → ⊥
  settled_element array place has alive p word un =
      of_word (unsettled_word p region.Elements (index_of_element layout array place) word un)
    where
      of_word : (s : Sweeping) × ((part p).sweeping ≡ Some s) ×
          (((s.given ≡ false) × IsDeadWord layout s.block s.dead region.Elements (index_of_element layout array place)
          × (heap region.Elements (index_of_element layout array place) ≡ 0))
          ⊎ ((s.given ≡ true) × (region.Dead ≡ region.Elements) × (s.block ≡ index_of_element layout array place))) → ⊥
      of_word (s, is, inl (waits, (a, k, has_it, at, in_block), zero)) =
          let same = sym (index_of_element-alone layout a array k place has_it.element_within has.element_within (sym at)).0 in
          alive (array_is_dead p s is waits array has.array_within (subst (IsArrayIn layout s.block s.dead) same in_block))
      of_word (s, is, inr (gave, same, block)) = absurd (let t = ap tag same in omega (arith, t))

  -- a mutator's own word is settled, so far as sweeps go
  pub own_settled : RefsAreLive state → (q : ℕ) (at : Region) (index : ℕ) → IsOwnWord layout state q at index → (p word : ℕ) →
      Unsettles (part p) at index word → ⊥
  own_settled refs q _ _ (own_register r a b) p word un =
      settled_region region.Registers refl (λ t. omega (arith, t)) _ p word un
  own_settled refs q _ _ (own_structure c claimed) p word un =
      settled_structure c (λ is. let alive = refs.claimed q c claimed in absurd (cc)) p word un
  own_settled refs q _ _ (own_array c claimed) p word un =
      settled_array c (λ is. let alive = refs.claimed q c claimed in absurd (cc)) p word un
  own_settled refs q _ _ (own_pair t k claimed one has) p word un =
      settled_slot t k has (λ is. let alive = refs.claimed q t claimed in absurd (cc)) p word un
  own_settled refs q _ _ (own_element c a k claimed is has) p word un =
      settled_element a k has (λ gone. let alive = refs.arrays_are_live c a (refs.claimed q c claimed) is in absurd (cc)) p word un

-- a word that is written leaves all that differ, where it is none of them
pub unsettled_write : (heap : Heap) (part : ℕ → View) (at : Region) (index word : ℕ) →
    ((p other : ℕ) → Unsettles (part p) at index other → ⊥) → (p : ℕ) (r : Region) (i other : ℕ) →
    Unsettles (part p) r i other → write heap at index word r i ≡ heap r i
unsettled_write heap part at index word none p r i other un = elim (cases_Bool ((tag r == tag at) && (i == index))) [
  | inl here ↦
      let parts = and_parts (tag r == tag at) (i == index) here in
      let region_is = tag-injective r at (eqb-true (tag r) (tag at) parts.0) in
      let index_is = eqb-true i index parts.1 in
      absurd (none p other (subst (λ (q : Region). Unsettles (part p) q index other) region_is
      (subst (λ (j : ℕ). Unsettles (part p) r j other) index_is un)))
  | inr apart ↦ ap (λ (b : Bool). if b then word else heap r i) apart
]

-- what a view gave stays given, where one of them keeps its sweep
pub given_put : (settled : Heap) (part : ℕ → View) (me : ℕ) (w : View) → w.sweeping ≡ (part me).sweeping →
    ((p : ℕ) (s : Sweeping) → (part p).sweeping ≡ Some s → s.given ≡ true → settled region.Dead s.block ≡ 0) →
    (p : ℕ) (s : Sweeping) → (put_at part me w p).sweeping ≡ Some s → s.given ≡ true → settled region.Dead s.block ≡ 0
given_put settled part me w same given = each_put (λ p u. (s : Sweeping) → u.sweeping ≡ Some s → s.given ≡ true →
    settled region.Dead s.block ≡ 0) part me w (λ s is. given me s (sym same ∙ is)) given
