-- Worlds that have the points on the store itself, its arrays, its tables and its sweeps, and near ones that break
-- each.
use Rattle.std.proofs.Common.{ℕ, ◌≡◌, ◌<◌, ◌≤◌, ◌⊎◌, ◌==◌, refl, sym, ◌∙◌, ap, subst, arith, Bool, true, false, List, [], ◌∷◌, Some, inl, inr, ◌+◌}
use Rattle.std.proofs.lemmas.Bool.{cases_eq, ne_eqb}
use Rattle.std.specs.Prelude.{if◌then◌else◌}
use Rattle.tide_words.specs.tide_layout.declared.region.Region.TheVariants as region
use Rattle.tide_core.proofs.machine_laws.rows.BusyRow.{busy, busy_has_the_wave}
use Rattle.tide_core.specs.machine.Frozen.{newcomer}
use Rattle.tide_core.specs.declared.machine.view.Saw.{Saw}
use Rattle.tide_core.specs.declared.machine.view.Sweeping.{Sweeping}
use Rattle.tide_core.specs.declared.machine.view.View.{View}
use Rattle.tide_core.specs.machine.points.Arrays.{ArraysStand, ArrayStands}
use Rattle.tide_core.specs.machine.points.Growths.{RunningGrowthIsOwed}
use Rattle.tide_core.specs.machine.points.Marks.{SpanIsLive}
use Rattle.tide_core.specs.machine.points.Seen.{WhoLeftIsInactive}
use Rattle.tide_core.specs.machine.points.Sweeps.{IsTaken, SawStands, SweepStands, Sweeps, SweepsAreNamed, SweptAreBelow}
use Rattle.tide_core.specs.machine.points.Tables.{TablesAreBare}
use Rattle.tide_model.proofs.ReferenceLaws.{put_at_elim}
use Rattle.tide_model.specs.Cycle.{dead_cell}
use Rattle.tide_model.specs.Graph.{in_register}
use Rattle.tide_model.specs.History.{plain, state_after}
use Rattle.tide_model.specs.Lawful.{IsLawful}
use Rattle.tide_model.specs.Numbers.{put_at}
use Rattle.tide_model.specs.References.{RefsAreLive, IsLive}
use Rattle.tide_model.specs.Refused.{no_shapes, is_table}
use Rattle.tide_model.specs.Rows.{small}
use Rattle.tide_model.specs.State.{State, CellState, empty_state, blank_cell, live, dead}
use Rattle.tide_model.specs.declared.entry.Entry.TheVariants.{Begin, End, Open, Call}
use Rattle.tide_model.specs.declared.entry.Event.{Event}
use Rattle.tide_model.specs.declared.op.Op.TheVariants.{Alloc, Collect}
use Rattle.tide_model.specs.declared.op.Reply.TheVariants.{Born, Asked}
use Rattle.tide_model.specs.declared.val.Val.TheVariants.{Cell}
use Rattle.tide_words.specs.heap.EmptyHeap.{empty_heap}
use Rattle.tide_words.specs.heap.Heap.{Heap, write}
use Rattle.tide_words.specs.marking.Colours.{HasColours}
use Rattle.tide_words.specs.marking.Marking.{NoLaterColours}

-- the history has a call of a mutator that the layout lacks
lawful-stranger : IsLawful small no_shapes (plain (Open 1 16) ∷ plain (Call 3 Collect Asked) ∷ []) → ⊥
lawful-stranger point = (let is = (point 1 (plain (Call 3 Collect Asked)) refl).is_mutator in omega (arith, is))

-- a register names a cell that is free
refs-free : RefsAreLive (record empty_state { registers = λ who register. Cell 5 }) → ⊥
refs-free point = (let alive = point.in_registers 0 0 5 refl refl in absurd (cc))

-- the cycle's number is one for which no colour has a word
few-too_many : HasColours (write empty_heap region.Phase 0 9223372036854775808) → ⊥
few-too_many point = omega (arith, point)

-- a colour word is of a later cycle
colours-later : NoLaterColours small (write (write empty_heap region.Phase 0 3) region.Colour 0 8) → ⊥
colours-later point = (let few = point 0 (omega arith) in omega (arith, few))

-- a cell stood in a register while the cycle marked, and is dead
abbrev ended_early : List Event
ended_early = plain (Begin 1 true) ∷ plain (Call 0 (Alloc 0 0) (Born 0)) ∷ plain (End 1 (0 ∷ [])) ∷ []

span-dead : SpanIsLive small (write empty_heap region.Phase 0 3) ended_early → ⊥
span-dead point =
    (let alive = point.roots refl 0 (2, omega arith, omega arith, in_register 0 0 refl refl) in absurd (cc))

-- a cell with one property, which names itself, and whose array is one that is live
abbrev with_property : CellState
with_property = record (blank_cell live) { keys = 0 ∷ []; properties = λ place. Cell 0; array = Some 0 }

abbrev has_property : State
has_property = record empty_state {
  cells = put_at empty_state.cells 0 with_property;
  arrays = put_at empty_state.arrays 0 live;
}

-- the structure's word doesn't tell the property, and nobody grows the cell
grows-unowed : RunningGrowthIsOwed small (write empty_heap region.Phase 0 3) newcomer has_property → ⊥
grows-unowed point = (let (p, g) = point.beyond refl 0 0 0 (refl, omega arith, refl) (omega arith) in g.grows)

-- the new array is stored, and the structure isn't yet: it stands, as far as the structure tells
arrays-stored : ArraysStand small (write empty_heap region.Array 0 1) has_property
arrays-stored = record { stand = first_stands; bare = λ cell alive none. refl }
  where
    first_stands : (cell array : ℕ) → IsLive has_property cell → write empty_heap region.Array 0 1 region.Array cell
        ≡ array + 1 → ArrayStands small (write empty_heap region.Array 0 1) has_property cell array
    first_stands cell array alive is = elim (cases_eq cell 0) [
      | inl same ↦ (let named = ap {B = ℕ} (λ (c : ℕ). if c == 0 then 1 else 0) same in
          let first : array ≡ 0 = omega (arith, named, is) in record {
            own = inl (
              ap (put_at empty_state.arrays 0 live) first,
              ap (λ (c : ℕ). (put_at empty_state.cells 0 with_property c).array) same ∙ ap Some (sym first),
            );
            few = omega arith;
            room = λ place below. absurd (omega (arith, below));
            named = λ place below. absurd (omega (arith, below));
          })
      | inr apart ↦ (let none = ap {B = ℕ} (λ (b : Bool). if b then 1 else 0) (ne_eqb cell 0 apart) in
          absurd (omega (arith, none, is)))
    ]

-- that array is free
arrays-free : ArraysStand small (write empty_heap region.Array 0 1)
    (record has_property { arrays = empty_state.arrays }) → ⊥
arrays-free point = elim (point.stand 0 0 refl refl).own [
  | inl mine ↦ (let is = mine.0 in absurd (cc))
  | inr is ↦ absurd (cc)
]

-- the structure tells a property that the cell lacks
abbrev told_one : Heap
told_one = write (write empty_heap region.Array 0 1) region.Structure 0 2

arrays-told_more : ArraysStand small told_one
    (record has_property { cells = put_at empty_state.cells 0 (blank_cell live) }) → ⊥
arrays-told_more point = (let few = (point.stand 0 0 refl refl).few in omega (arith, few))

-- it tells one of a cell whose word names no array
arrays-bare : ArraysStand small (write empty_heap region.Structure 0 2) has_property → ⊥
arrays-bare point = (let none = point.bare 0 refl refl in omega (arith, none))

-- it tells one whose element isn't stored
arrays-unstored : ArraysStand small told_one has_property → ⊥
arrays-unstored point = (let word = (point.stand 0 0 refl refl).named 0 (omega arith) in omega (arith, word))

-- a table as it was born, and one with a key
abbrev with_table : CellState → State
with_table held = record empty_state { cells = put_at empty_state.cells 64 held }

bare-born : TablesAreBare small (with_table (blank_cell live))
bare-born = put_at_elim (λ cell (held : CellState). is_table small cell ≡ true → held.keys ≡ []) empty_state.cells 64
    (blank_cell live) (λ is. refl) (λ cell apart is. refl)

bare-keyed : TablesAreBare small (with_table (record (blank_cell live) { keys = 3 ∷ [] })) → ⊥
bare-keyed point = (let none = point 64 refl in absurd (cc))

-- the first cycle has ended, and the sweep of block 0 was taken since; or it marks still
abbrev taken_block : Heap
taken_block = write (write empty_heap region.Phase 0 2) region.Swept 0 1

swept-ended : SweptAreBelow small taken_block
swept-ended = record { last = λ block within. by (block == 0); ended = λ marks. absurd (cc) }
  where
    by : (b : Bool) → ◌≤◌ (if b then 1 else 0) 1
    by true = omega arith
    by false = omega arith

swept-too_early : SweptAreBelow small (write taken_block region.Phase 0 3) → ⊥
swept-too_early point = (let few = point.ended refl 0 (omega arith) in omega (arith, few))

-- a cell of the block is dead, and one view sweeps it
abbrev one_dead : State
one_dead = record empty_state { cells = put_at empty_state.cells 5 (blank_cell dead) }

abbrev of_block_0 : Sweeping
of_block_0 = record { block = 0; dead = 0; given = false; zeroed = [] }

abbrev sweeper : ℕ → View
sweeper p = record (newcomer p) { sweeping = Some of_block_0 }

its_block : (block : ℕ) → Sweeps (sweeper 0) block → block ≡ 0
its_block block s = (let is = s.is in let of_block = s.of_block in
    let same : of_block_0 ≡ s.sweeping = cc in sym of_block ∙ sym (ap (λ (x : Sweeping). x.block) same))

nobody_sweeps : {X : Type 0} (p block : ℕ) → Sweeps (newcomer p) block → X
nobody_sweeps p block s = (let is = s.is in absurd (cc))

sweeps-by_one : SweepsAreNamed small taken_block (put_at newcomer 0 (sweeper 0)) one_dead
sweeps-by_one = record {
  taken = put_at_elim (λ p u. (block : ℕ) → Sweeps u block → IsTaken taken_block block) newcomer 0 (sweeper 0)
      (λ block s. subst (IsTaken taken_block) (sym (its_block block s)) (refl, refl))
      (λ p apart block s. nobody_sweeps p block s);
  begun = λ p block s. omega arith;
  active = put_at_elim (λ p u. (block : ℕ) → Sweeps u block → (p < small.mutators) × (u.left ≡ false)) newcomer 0 (sweeper 0)
      (λ block s. (omega arith, refl)) (λ p apart block s. nobody_sweeps p block s);
  owner = λ block. 0;
  once = put_at_elim (λ p u. (block : ℕ) → Sweeps u block → 0 ≡ p) newcomer 0 (sweeper 0) (λ block s. refl)
      (λ p apart block s. nobody_sweeps p block s);
  named = λ block within taken has. (
    0,
    record {
      sweeping = of_block_0;
      is = refl;
      of_block = first block taken;
      ungiven = refl;
    },
  );
  stands = put_at_elim (λ p u. (s : Sweeping) → u.sweeping ≡ Some s → SweepStands small taken_block s) newcomer 0 (sweeper 0)
      (λ s is. let same : of_block_0 ≡ s = cc in subst (SweepStands small taken_block) same (record {
        within = omega arith;
        dead = λ waits. refl;
        zeroed = λ waits at index word has. absurd (let below = has.1 in omega (arith, below));
      })) (λ p apart s is. absurd (cc));
  saw = put_at_elim (λ p u. (saw : Saw) → u.saw ≡ Some saw → SawStands small taken_block saw) newcomer 0 (sweeper 0)
      (λ saw is. absurd (cc)) (λ p apart saw is. absurd (cc));
}
  where
    first : (block : ℕ) → IsTaken taken_block block → 0 ≡ block
    first block taken = elim (cases_eq block 0) [
      | inl same ↦ sym same
      | inr apart ↦ (let none = ap {B = ℕ} (λ (b : Bool). if b then 1 else 0) (ne_eqb block 0 apart) in let is =
          taken.1 in
          absurd (omega (arith, none, is)))
    ]

-- nobody does, or two do
sweeps-by_none : SweepsAreNamed small taken_block newcomer one_dead → ⊥
sweeps-by_none point =
    (let (p, s) = point.named 0 (omega arith) (refl, refl) (dead_cell 5 (omega arith) refl refl) in
    nobody_sweeps p 0 (record { sweeping = s.sweeping; is = s.is; of_block = s.of_block }))

sweeps-by_two : SweepsAreNamed small taken_block sweeper one_dead → ⊥
sweeps-by_two point =
    let one = point.once 0 0 (record { sweeping = of_block_0; is = refl; of_block = refl }) in
    let other = point.once 1 0 (record { sweeping = of_block_0; is = refl; of_block = refl }) in
    omega (arith, one, other)

-- in the busy world the mutator is active; it hasn't left
left-not : WhoLeftIsInactive busy.part (state_after small busy.log)
left-not = busy_has_the_wave.left

left-too_early : WhoLeftIsInactive (put_at newcomer 0 (record (newcomer 0) { left = true }))
    (state_after small busy.log) → ⊥
left-too_early point = (let is = point 0 in absurd (cc))
