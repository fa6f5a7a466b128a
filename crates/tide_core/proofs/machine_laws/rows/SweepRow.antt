-- A mutator sweeps a block in a running part, step by step; and steps near to these, which are not allowed.
use Rattle.std.proofs.Common.{ℕ, ◌≡◌, ◌<◌, ◌≤◌, ◌∙◌, refl, sym, ap, subst, arith, Bool, true, false, List, [], ◌∷◌, inl, inr, None, Some}
use Rattle.std.proofs.lemmas.Bool.{cases_eq, ne_eqb}
use Rattle.std.proofs.lemmas.Nat.Bits.{bit_at-pow_other}
use Rattle.std.specs.Int.{bit_at}
use Rattle.std.specs.Prelude.{◌-◌, ◌^◌, ◌%◌, ◌/◌, ◌++◌, ◌↔◌, ◌==◌, Contains, length, take}
use Rattle.tide_words.specs.tide_layout.Slots.{HasSlot, index_of_slot}
use Rattle.tide_words.specs.tide_layout.declared.region.Region.{Region}
use Rattle.tide_words.specs.tide_layout.declared.region.Region.TheVariants as region
use Rattle.tide_core.proofs.machine_laws.steps.Lists.{in_one, is_in_one, nothing_in}
use Rattle.tide_core.specs.machine.Frozen.{newcomer}
use Rattle.tide_core.specs.machine.Kind.{ClaimBlock, Finish, GiveBits, LoadDead, StoreRegister, StoreStopped, ZeroWord}
use Rattle.tide_core.specs.machine.Machine.{IsAllowed, stepped}
use Rattle.tide_core.specs.machine.Owed.{owed_word}
use Rattle.tide_core.specs.machine.World.{World}
use Rattle.tide_core.specs.declared.machine.view.Owed.{Owed}
use Rattle.tide_core.specs.declared.machine.view.Sweeping.{Sweeping}
use Rattle.tide_core.specs.declared.machine.view.View.{View}
use Rattle.tide_core.specs.machine.kinds.Sweep.{IsSweeping}
use Rattle.tide_core.specs.machine.points.Sweeps.{ClearedAreClean, IsTaken, SweptAreTold, TakenAreOwed}
use Rattle.tide_model.proofs.ReferenceLaws.{put_at_elim}
use Rattle.tide_model.specs.Cycle.{dead_cell}
use Rattle.tide_model.specs.History.{one_later, plain}
use Rattle.tide_model.specs.Numbers.{put_at}
use Rattle.tide_model.specs.Refused.{no_shapes}
use Rattle.tide_model.specs.Room.{DeadIsTaken}
use Rattle.tide_model.specs.Rows.{small}
use Rattle.tide_model.specs.Since.{WasTaken}
use Rattle.tide_model.specs.declared.entry.Entry.TheVariants.{Begin, Call, End, Open, Pause, Sweep, Taken}
use Rattle.tide_model.specs.declared.entry.Event.{Event}
use Rattle.tide_model.specs.declared.op.Op.TheVariants.{Alloc, Drop, Move}
use Rattle.tide_model.specs.declared.op.Reply.TheVariants.{Born, Done}
use Rattle.tide_sweep.specs.Clearing.{IsCleared}
use Rattle.tide_sweep.specs.Zeroed.{IsDeadWord}
use Rattle.tide_sweep.specs.declared.port.Cleared.{Cleared}
use Rattle.tide_sweep.specs.declared.port.Took.{Took}
use Rattle.tide_sweep.specs.declared.port.Took.TheVariants.{Clean, Mine}
use Rattle.tide_words.proofs.heap_laws.HeapLaws.{write-other_index}
use Rattle.tide_words.specs.heap.EmptyHeap.{empty_heap}
use Rattle.tide_words.specs.heap.Heap.{Heap, write}

-- cell 0 was born and dropped, the first cycle has freed it, and the second part is open
abbrev until_open : List Event
until_open = plain (Open 1 16) ∷ plain (Call 0 (Alloc 0 0) (Born 0)) ∷ plain (Call 0 (Drop 0) Done)
    ∷ plain (Begin 1 true) ∷ plain (Pause 0) ∷ plain (End 1 (0 ∷ [])) ∷ plain (Open 2 16) ∷ []

abbrev words : Heap
words = write (write (write (write empty_heap region.Phase 0 2) region.Period 0 2) region.Free 0 (2 ^ 64 - 2)) region.Dead 0 1

abbrev mutator : View
mutator = record (newcomer 0) { runs = true; cycle = 1; begun = 2; ticket = 2; run = 16; seen = until_open }

abbrev idle : World
idle = record { heap = words; part = put_at newcomer 0 mutator; log = until_open }

-- it loads the dead bits, and claims the block
may_load : IsAllowed small no_shapes idle 0 (LoadDead 0)
may_load = record {
  runner = record { is_mutator = omega arith; runs = refl };
  rests = refl;
  within = omega arith;
}

abbrev loaded : World
loaded = stepped small no_shapes idle 0 (LoadDead 0)

may_claim : IsAllowed small no_shapes loaded 0 (ClaimBlock 0 0 1)
may_claim = record {
  runner = record { is_mutator = omega arith; runs = refl };
  rests = refl;
  stays = refl;
  between = record { owed = refl; duty = refl; growth = refl; sweeping = refl; calls = refl };
  within = omega arith;
  of_last = refl;
  lower = omega arith;
  saw = record { block = 0; word = 1; swept = None };
  is_saw = refl;
  of_block = refl;
  stands = λ is. (
    refl,
    record {
      is_idle = refl;
      has_dead = dead_cell 0 (omega arith) refl refl;
      is_first = λ was. omega (arith, was);
    },
  );
}

abbrev claimed : World
claimed = stepped small no_shapes loaded 0 (ClaimBlock 0 0 1)

-- it makes the six words of the cell 0, in any order
abbrev its_sweep : List Owed → Sweeping
its_sweep zeroed = record { block = 0; dead = 1; given = false; zeroed = zeroed }

may_zero : (w : World) (zeroed : List Owed) → (w.part 0).runs ≡ true → (w.part 0).sweeping ≡ Some (its_sweep zeroed) →
    (at : Region) (index : ℕ) → IsDeadWord small 0 1 at index → IsAllowed small no_shapes w 0 (ZeroWord at index)
may_zero w zeroed runs is at index word = record {
  runner = record { is_mutator = omega arith; runs = runs };
  block = 0;
  sweeps = record { sweeping = its_sweep zeroed; is = is; of_block = refl; ungiven = refl };
  word = word;
}

may_zero_structure : IsAllowed small no_shapes claimed 0 (ZeroWord region.Structure 0)
may_zero_structure = may_zero claimed [] refl refl region.Structure 0 (omega arith, (refl, refl))

abbrev one_zeroed : World
one_zeroed = stepped small no_shapes claimed 0 (ZeroWord region.Structure 0)

abbrev two_zeroed : World
two_zeroed = stepped small no_shapes one_zeroed 0 (ZeroWord region.Array 0)

abbrev three_zeroed : World
three_zeroed = stepped small no_shapes two_zeroed 0 (ZeroWord region.Claim 0)

abbrev four_zeroed : World
four_zeroed = stepped small no_shapes three_zeroed 0 (ZeroWord region.Group 0)

abbrev five_zeroed : World
five_zeroed = stepped small no_shapes four_zeroed 0 (ZeroWord region.Slots (index_of_slot small 0 0))

abbrev all_zeroed : World
all_zeroed = stepped small no_shapes five_zeroed 0 (ZeroWord region.Slots (index_of_slot small 0 1))

abbrev these : List Owed
these = owed_word region.Slots (index_of_slot small 0 1) 0 ∷ owed_word region.Slots (index_of_slot small 0 0) 0
    ∷ owed_word region.Group 0 0 ∷ owed_word region.Claim 0 0 ∷ owed_word region.Array 0 0 ∷ owed_word region.Structure 0 0 ∷ []

may_zero_last : IsAllowed small no_shapes five_zeroed 0 (ZeroWord region.Slots (index_of_slot small 0 1))
may_zero_last = may_zero five_zeroed _ refl refl region.Slots (index_of_slot small 0 1)
    (0, 1, record { cell_within = omega arith; slot_within = omega arith }, refl, (refl, refl))

-- of block 0 with the bits 1 no other cell is dead, and no array
first_alone : (cell : ℕ) → cell / 64 ≡ 0 → bit_at 1 (cell % 64) ≡ 1 → 0 ≡ cell
first_alone cell of_block bit = elim (cases_eq (cell % 64) 0) [
  | inl first ↦ omega (arith, of_block, first)
  | inr other ↦ absurd (let none = bit_at-pow_other 0 (cell % 64) other in omega (arith, bit, none))
]

all_are_zeroed : (at : Region) (index : ℕ) → IsDeadWord small 0 1 at index → Contains these (owed_word at index 0)
all_are_zeroed region.Structure cell word =
    subst (λ (c : ℕ). Contains these (owed_word region.Structure c 0)) (first_alone cell word.1.0 word.1.1) (5, omega arith, refl)
all_are_zeroed region.Array cell word =
    subst (λ (c : ℕ). Contains these (owed_word region.Array c 0)) (first_alone cell word.1.0 word.1.1) (4, omega arith, refl)
all_are_zeroed region.Claim cell word =
    subst (λ (c : ℕ). Contains these (owed_word region.Claim c 0)) (first_alone cell word.1.0 word.1.1) (3, omega arith, refl)
all_are_zeroed region.Group cell word =
    subst (λ (c : ℕ). Contains these (owed_word region.Group c 0)) (first_alone cell word.1.0 word.1.1) (2, omega arith, refl)
all_are_zeroed region.Slots index word =
    let (cell, slot, has, at, in_block) = word in
    let first = first_alone cell in_block.0 in_block.1 in
    subst (λ (i : ℕ). Contains these (owed_word region.Slots i 0))
    (ap (λ (c : ℕ). index_of_slot small c slot) first ∙ at) (one_of_two slot (subst (λ (c : ℕ). HasSlot small c slot) (sym first) has))
  where
    one_of_two : (slot : ℕ) → HasSlot small 0 slot → Contains these (owed_word region.Slots (index_of_slot small 0 slot) 0)
    one_of_two slot has = elim (cases_eq slot 0) [
      | inl is ↦ subst (λ (s : ℕ). Contains these (owed_word region.Slots (index_of_slot small 0 s) 0)) (sym is) (1, omega arith, refl)
      | inr isnt ↦ (let few = has.slot_within in let is : 1 ≡ slot = omega (arith, few, isnt) in
          subst (λ (s : ℕ). Contains these (owed_word region.Slots (index_of_slot small 0 s) 0)) is (0, omega arith, refl))
    ]
all_are_zeroed region.Elements index word =
    let (array, place, has, at, in_block) = word in let of_block = in_block.0 in absurd (omega (arith, of_block))
all_are_zeroed _ index word = absurd word

-- then it gives the bits, and makes the dead word 0
may_give : IsAllowed small no_shapes all_zeroed 0 (GiveBits 0 1)
may_give = record {
  runner = record { is_mutator = omega arith; runs = refl };
  sweeps = record { sweeping = its_sweep these; is = refl; of_block = refl; ungiven = refl };
  are_dead = refl;
  all = all_are_zeroed;
  stands = (refl, dead_cell 0 (omega arith) refl refl);
}

abbrev given : World
given = stepped small no_shapes all_zeroed 0 (GiveBits 0 1)

may_finish : IsAllowed small no_shapes given 0 (Finish 0)
may_finish = record {
  runner = record { is_mutator = omega arith; runs = refl };
  sweeping = record (its_sweep these) { given = true };
  is = refl;
  of_block = refl;
  given = refl;
}

abbrev finished : World
finished = stepped small no_shapes given 0 (Finish 0)

-- the cell is free, its block was taken and swept, and neither is a call of the mutator
swept : (finished.heap region.Free 0 ≡ 2 ^ 64 - 1) × (finished.heap region.Dead 0 ≡ 0) × (finished.heap region.Swept 0 ≡ 1)
    × (finished.log ≡ until_open ++ plain (Taken 0) ∷ plain (Sweep 0) ∷ []) × ((finished.part 0).mine ≡ [])
    × ((finished.part 0).sweeping ≡ None)
swept = (refl, refl, refl, refl, refl, refl)

-- a block claimed that was claimed already, while a cycle marks, by one who saw nothing dead, or who has retired
claimed-twice : IsAllowed small no_shapes finished 0 (ClaimBlock 0 1 1) → ⊥
claimed-twice may = (let less = may.lower in omega (arith, less))

claimed-marking : IsAllowed small no_shapes (record loaded { part = put_at newcomer 0 (record (loaded.part 0) { marks = true }) }) 0
    (ClaimBlock 0 0 1) → ⊥
claimed-marking may = (let rests = may.rests in absurd (cc))

claimed-unseen : IsAllowed small no_shapes idle 0 (ClaimBlock 0 0 1) → ⊥
claimed-unseen may = (let is = may.is_saw in absurd (cc))

claimed-left : IsAllowed small no_shapes (record loaded { part = put_at newcomer 0 (record (loaded.part 0) { left = true }) }) 0
    (ClaimBlock 0 0 1) → ⊥
claimed-left may = (let stays = may.stays in absurd (cc))

-- a word of a cell that isn't dead made 0, or a colour
zeroed-live : IsAllowed small no_shapes claimed 0 (ZeroWord region.Structure 1) → ⊥
zeroed-live may = bit_of_first may.sweeps may.word
  where
    bit_of_first : (s : IsSweeping (claimed.part 0) may.block) → IsDeadWord small may.block s.sweeping.dead region.Structure 1 → ⊥
    bit_of_first s word =
        let is = s.is in
        let same : its_sweep [] ≡ s.sweeping = cc in
        let bit = ap (λ (x : Sweeping). bit_at x.dead 1) same ∙ word.1.1 in
        omega (arith, bit)

zeroed-colour : IsAllowed small no_shapes claimed 0 (ZeroWord region.Colour 0) → ⊥
zeroed-colour may = may.word

-- the bits given before each word is 0, and the dead word made 0 before
given-early : IsAllowed small no_shapes claimed 0 (GiveBits 0 1) → ⊥
given-early may =
    let is = may.sweeps.is in
    let same : its_sweep [] ≡ may.sweeps.sweeping = cc in
    let (place, below, at) = may.all region.Structure 0 (omega arith, (refl, refl)) in
    let none = ap (λ (s : Sweeping). length s.zeroed) same in
    omega (arith, below, none)

finished-early : IsAllowed small no_shapes all_zeroed 0 (Finish 0) → ⊥
finished-early may =
    let is = may.is in
    let same : its_sweep these ≡ may.sweeping = cc in
    let gave = ap (λ (s : Sweeping). s.given) same ∙ may.given in
    absurd (cc)

-- a call, or a stop, before the sweep is finished
call-sweeping : IsAllowed small no_shapes given 0 (StoreRegister 1 0 (Some (Move 1 0))) → ⊥
call-sweeping may = (let none = may.0.between.sweeping in absurd (cc))

stop-sweeping : IsAllowed small no_shapes given 0 (StoreStopped 2) → ⊥
stop-sweeping may = (let none = may.rests.between.sweeping in absurd (cc))

-- the words tell that the block was taken, where an entry does
claimed-told : SweptAreTold small claimed.heap claimed.log
claimed-told idle some block within = elim (cases_eq block 0) [
  | inl first ↦ subst (λ (b : ℕ). IsTaken claimed.heap b ↔ WasTaken claimed.log b) (sym first)
      ((λ is. omega arith), (λ was. (refl, refl)))
  | inr apart ↦ (
    (λ is. absurd (let word = is.1 in let other = write-other_index loaded.heap region.Swept 0 block 1 apart in
        omega (arith, word, other))),
    (λ was. absurd (untaken (0 == block) (ne_eqb 0 block (λ same. apart (sym same))) was)),
  )
]
  where
    untaken : (b : Bool) → b ≡ false →
        6 < one_later (one_later (one_later (one_later (one_later (one_later (one_later (one_later 0 b) false) false) false) false)
        false) false) false → ⊥
    untaken true is was = absurd (cc)
    untaken false is was = omega (arith, was)

told-untaken : SweptAreTold small claimed.heap until_open → ⊥
told-untaken point = (let was = (point refl (omega arith) 0 (omega arith)).0 (refl, refl) in omega (arith, was))

taken-untold : SweptAreTold small words claimed.log → ⊥
taken-untold point = (let is = (point refl (omega arith) 0 (omega arith)).1 (omega arith) in let word = is.1 in omega (arith, word))

-- its sweep is owed by the one that took it, and by nobody else
claimed-owed : TakenAreOwed claimed.part claimed.log
claimed-owed block = elim (cases_eq block 0) [
  | inl first ↦ inr (0, record { sweeping = its_sweep []; is = refl; of_block = sym first; ungiven = refl })
  | inr apart ↦ inl (untaken (0 == block) (ne_eqb 0 block (λ same. apart (sym same))))
]
  where
    untaken : (b : Bool) → b ≡ false → one_later 0 b ≤ 0
    untaken true is = absurd (cc)
    untaken false is = omega arith

taken-unowed : TakenAreOwed newcomer claimed.log → ⊥
taken-unowed point = elim (point 0) [
  | inl swept ↦ omega (arith, swept)
  | inr owes ↦ (let (p, s) = owes in let is = s.is in absurd (cc))
]

-- what a view's cleared blocks have to be
abbrev SaysCleared : ℕ → View → Type 0
SaysCleared p v = (one : Cleared) → Contains v.cleared one → IsCleared small claimed.log one

-- a block that is cleared with this answer, at this moment
abbrev block_0 : ℕ → Took → Cleared
block_0 moment took = record { block = 0; moment = moment; took = took }

-- from the claim on the block is cleared, as one that the claimant took, and not before
claimed-cleared : ClearedAreClean small claimed.part claimed.log
claimed-cleared = put_at_elim SaysCleared loaded.part 0 (claimed.part 0) here
    (λ p apart. put_at_elim SaysCleared idle.part 0 (loaded.part 0) (none 0 (loaded.part 0) refl)
    (λ q other. put_at_elim SaysCleared newcomer 0 mutator (none 0 mutator refl) (λ r last. none r (newcomer r) refl) q) p)
  where
    none : (p : ℕ) (v : View) → v.cleared ≡ [] → SaysCleared p v
    none p v is one has = absurd (nothing_in one (subst (λ (l : List Cleared). Contains l one) is has))

    here : SaysCleared 0 (claimed.part 0)
    here one has = subst (IsCleared small claimed.log) (in_one (block_0 8 Mine) one has) (record {
      within = omega arith;
      taken = λ later early late.
          let now : 8 ≡ later = omega (arith, early, late) in
          subst (λ (m : ℕ). DeadIsTaken small (take m claimed.log) 0) now whole;
      told = (loaded.log, refl);
    })
      where
        whole : DeadIsTaken small claimed.log 0
        whole dead = omega arith

-- what one mutator alone says to be cleared
abbrev says : Cleared → ℕ → View
says one = put_at newcomer 0 (record (newcomer 0) { cleared = one ∷ [] })

-- not before the claim, however it is said
cleared-early : (took : Took) → ClearedAreClean small (says (block_0 7 took)) claimed.log → ⊥
cleared-early took point =
    let clear = point 0 (block_0 7 took) (is_in_one (block_0 7 took)) in
    let was = clear.taken 7 (omega arith) (omega arith) (dead_cell 0 (omega arith) refl refl) in
    omega (arith, was)

-- nor as one of which nothing was dead: a cell is dead there until the bits are given
cleared-not-clean : ClearedAreClean small (says (block_0 8 Clean)) claimed.log → ⊥
cleared-not-clean point =
    (point 0 (block_0 8 Clean) (is_in_one (block_0 8 Clean))).told (dead_cell 0 (omega arith) refl refl)
