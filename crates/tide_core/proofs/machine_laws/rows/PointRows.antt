-- Worlds near to one that has the wave, each of which breaks one of its points.
use Rattle.std.proofs.Common.{ℕ, refl, arith, true, false, List, [], ◌∷◌, Some, inl, inr}
use Rattle.tide_words.specs.tide_layout.declared.region.Region.TheVariants as region
use Rattle.tide_core.proofs.machine_laws.Scheduling.{all_schedules}
use Rattle.tide_core.specs.wave.FrozenWave.{OldIsMarked}
use Rattle.tide_core.proofs.machine_laws.steps.MarkedLives.{retained_is_live}
use Rattle.tide_core.proofs.machine_laws.rows.BusyRow.{busy, opened, came_opened, limits}
use Rattle.tide_core.proofs.machine_laws.steps.Lists.{is_in_one, nothing_in}
use Rattle.tide_core.specs.machine.Frozen.{newcomer}
use Rattle.tide_core.specs.machine.Owed.{owed_word, Owes, Unsettles}
use Rattle.tide_core.specs.machine.Scanning.{scan_of, slot}
use Rattle.tide_core.specs.machine.Schedule.{running}
use Rattle.tide_core.specs.declared.machine.view.Duty.TheVariants as duty
use Rattle.tide_core.specs.declared.machine.view.Growth.TheVariants as growth
use Rattle.tide_core.specs.declared.machine.view.Scan.{Scan}
use Rattle.tide_core.specs.declared.machine.view.View.{View}
use Rattle.tide_core.specs.machine.points.Births.{RunningBornIsMarked}
use Rattle.tide_core.specs.machine.points.Growths.{GrowthsAreRight}
use Rattle.tide_core.specs.machine.points.Holders.{RunningGreyIsHeld, RestsWhereIdle}
use Rattle.tide_core.specs.machine.points.Links.{RunningBlackPointsToMarked}
use Rattle.tide_core.specs.machine.points.Marks.{RunningMarkedIsRetained, RunningBlackIsCounted}
use Rattle.tide_core.specs.machine.points.Scans.{HandsAreLive, held, ScansAreRight, TargetsAreRight}
use Rattle.tide_core.specs.machine.points.Seen.{IsKnown, NumbersRead, CallsAreTold, HasPartAlone, ParkedIsEmpty}
use Rattle.tide_core.specs.machine.points.SettledWords.{RunningWordsRead, OwnIsKept}
use Rattle.tide_core.specs.machine.points.Stops.{StopsAreTold}
use Rattle.tide_model.proofs.ReferenceLaws.{put_at_elim}
use Rattle.tide_model.specs.History.{plain, state_after}
use Rattle.tide_model.specs.Numbers.{put_at}
use Rattle.tide_model.specs.Refused.{no_shapes}
use Rattle.tide_model.specs.Rows.{small}
use Rattle.tide_model.specs.declared.entry.Entry.TheVariants.{Begin, End, Open, Call}
use Rattle.tide_model.specs.declared.entry.Event.{Event}
use Rattle.tide_model.specs.declared.op.Op.TheVariants.{Alloc, Put}
use Rattle.tide_model.specs.declared.op.Reply.TheVariants.{Born, Done}
use Rattle.tide_words.specs.heap.EmptyHeap.{empty_heap}
use Rattle.tide_words.specs.heap.Heap.{Heap, write}

-- one participant with this view, and nobody else
abbrev alone : View → ℕ → View
alone v = put_at newcomer 0 v

-- the mutator of the busy world
abbrev mutator : View
mutator = busy.part 0

-- the history has calls of a mutator that it doesn't know of
known-less : IsKnown busy.log (alone (record mutator { mine = [] })) → ⊥
known-less point = (let own = point.own 0 in absurd (cc))

-- the word of the period tells a part that wasn't opened
numbers-later : NumbersRead (write busy.heap region.Period 0 2) busy.part busy.log → ⊥
numbers-later point = (let periods = point.periods in absurd (omega (arith, periods)))

-- the word of the phase tells a cycle that didn't begin
numbers-other_cycle : NumbersRead (write busy.heap region.Phase 0 5) busy.part busy.log → ⊥
numbers-other_cycle point = (let cycles = point.cycles in absurd (omega (arith, cycles)))

-- a participant began in a part that wasn't opened yet
numbers-begun_early : NumbersRead busy.heap (alone (record (newcomer 0) { begun = 2 })) busy.log → ⊥
numbers-begun_early point = (let few = point.begun 0 in absurd (omega (arith, few)))

-- a call word tells a call too many
calls-more : CallsAreTold small (write busy.heap region.Call 0 3) busy.part → ⊥
calls-more point = (let word = point 0 (omega arith) in absurd (omega (arith, word)))

-- a Stopped word tells a part in which its participant hasn't stopped
stops-early : StopsAreTold small (write busy.heap region.Stopped 0 1) busy.part → ⊥
stops-early point = (let word = point 0 (inl (omega arith)) in absurd (omega (arith, word)))

-- or lacks the one in which it has
stops-untold : StopsAreTold small busy.heap (alone (record mutator { stopped = 1 })) → ⊥
stops-untold point = (let word = point 0 (inl (omega arith)) in absurd (omega (arith, word)))

-- a cycle begins in the midst of a part
alone-begins : HasPartAlone (plain (Open 1 16) ∷ plain (Begin 1 true) ∷ []) → ⊥
alone-begins point = (let is = point (plain (Begin 1 true)) (is_in_one (plain (Begin 1 true))) in absurd (cc))

-- a mutator has stopped, and owes its barrier
parked-owes : ParkedIsEmpty (alone (record mutator { runs = false })) → ⊥
parked-owes point = (let none = point.duty 0 refl in absurd (cc))

-- or its call word lacks its last call
parked-untold : ParkedIsEmpty (alone (record mutator { runs = false; duty = duty.Nothing })) → ⊥
parked-untold point = (let all = point.calls 0 refl in absurd (omega (arith, all)))

-- a register's word isn't stored, and nobody owes it
words-unpaid : RunningWordsRead small no_shapes (write busy.heap region.Registers 0 0) (alone mutator)
    (state_after small busy.log) → ⊥
words-unpaid point =
    let word = (point.reads.roots.registers 0 0 (omega arith) (omega arith)).is_word in
    let same = point.same region.Registers 0 refl nobody none in
    absurd (omega (arith, word, same))
  where
    none : (p word : ℕ) → Unsettles (alone mutator p) region.Registers 0 word → ⊥
    none p word = put_at_elim (λ p u. Unsettles u region.Registers 0 word → ⊥) newcomer 0 mutator
        (nothing_in (owed_word region.Registers 0 word)) (λ p apart. nothing_in (owed_word region.Registers 0 word)) p

    nobody : (p word : ℕ) → Owes (alone mutator p) region.Registers 0 word → ⊥
    nobody p word = put_at_elim (λ p u. Owes u region.Registers 0 word → ⊥) newcomer 0 mutator
        (nothing_in (owed_word region.Registers 0 word)) (λ p apart. nothing_in (owed_word region.Registers 0 word)) p

-- a mutator knows a word that stands no more
kept-changed : OwnIsKept small busy.heap (alone (record mutator { known = owed_word region.Registers 0 6 ∷ [] }))
    busy.log → ⊥
kept-changed point =
    (let word = point.known 0 region.Registers 0 6 (is_in_one (owed_word region.Registers 0 6)) in
    absurd (omega (arith, word)))

-- a grey cell has its bit in two grey words
held-twice : RunningGreyIsHeld small (write busy.heap region.GreyShared 0 1) busy.part → ⊥
held-twice point = (let once = point.held 0 (omega arith) in absurd (omega (arith, once)))

-- or in none
held-by_none : RunningGreyIsHeld small (write busy.heap region.GreyMutator 0 0) newcomer → ⊥
held-by_none point = (let once = point.held 0 (omega arith) in absurd (omega (arith, once)))

-- no cycle marks, and a visitor holds a cell
rests-holding : RestsWhereIdle (write busy.heap region.Phase 0 2) (alone (record (newcomer 0) { held = 0 ∷ [] })) → ⊥
rests-holding point = (let none = point.held refl 0 in absurd (cc))

-- a visitor holds a cell that is free
hands-free : HandsAreLive small (alone (record (newcomer 0) { held = 5 ∷ [] })) busy.log → ⊥
hands-free point = (let alive = point.cells 0 5 (held (is_in_one 5)) in absurd (cc))

-- a scan has read an element, and no structure
abbrev hasty : Scan
hasty = record (scan_of 0) { elements = 0 ∷ [] }

scans-hasty : ScansAreRight small busy.heap (alone (record (newcomer 0) { scan = Some hasty })) busy.log → ⊥
scans-hasty point = (let none = (point.knows 0 hasty refl).unread refl in absurd (cc))

-- a scan is about to mark a cell over a colour word that it hasn't, and the cell isn't marked
abbrev aiming : Scan
aiming = record (scan_of 0) { target = Some record { cell = 1; word = 1 } }

targets-missed : TargetsAreRight small busy.heap (alone (record (newcomer 0) { scan = Some aiming })) → ⊥
targets-missed point = elim (point.right 0 aiming (record { cell = 1; word = 1 }) refl refl).1 [
  | inl word ↦ omega (arith, word)
  | inr marked ↦ absurd (cc)
]

-- a growth of an array of a cell that isn't claimed
growths-unclaimed : GrowthsAreRight busy.heap (alone (record (newcomer 0) { growth = growth.Filling 0 0 0 2 }))
    (state_after small busy.log) → ⊥
growths-unclaimed point = (let claimed = (point.knows 0).0.claimed in absurd (nothing_in 0 claimed))

-- two cells are born, then a cycle begins, and the first one, which is black, gets the other, which is white
abbrev linked_late : List Event
linked_late = plain (Call 0 (Alloc 0 0) (Born 0)) ∷ plain (Call 0 (Alloc 1 0) (Born 1)) ∷ plain (Begin 1 true) ∷ plain
    (Open 1 16)
    ∷ plain (Call 0 (Put 0 0 1) Done) ∷ []

abbrev one_black : Heap
one_black = write (write empty_heap region.Phase 0 3) region.Colour 0 4

-- nobody owes the barrier
black-unexcused : RunningBlackPointsToMarked small one_black newcomer linked_late → ⊥
black-unexcused point = elim (point.excused 0 (slot 0) 1 (refl, refl) refl refl).excuse [
  | inl owes ↦
      owes
  | inr scans ↦ scans
]

-- no visit was counted
counted-less : RunningBlackIsCounted small one_black newcomer linked_late → ⊥
counted-less point = (let few = point.counted refl in absurd (omega (arith, few)))

-- a cell is black that was never born
retained-never : RunningMarkedIsRetained small (write opened.heap region.Colour 5 4) newcomer opened.log → ⊥
retained-never point =
    let wave = all_schedules small no_shapes limits refl running opened came_opened in
    let alive = retained_is_live small no_shapes opened.heap opened.log wave.lawful wave.span refl 5
    (point.marked refl 5 (omega arith) refl) in
    absurd (cc)

-- a cell was born, and lives when a cycle ends: it is old
abbrev grown_old : List Event
grown_old = plain (Call 0 (Alloc 0 0) (Born 0)) ∷ plain (Begin 1 true) ∷ plain (End 1 []) ∷ []

-- but it isn't marked
old-unmarked : OldIsMarked small empty_heap grown_old → ⊥
old-unmarked point = (let marked = point.old (λ marks. absurd (cc)) 0 (omega arith) refl in absurd (cc))

-- no cycle marks, and a young cell is marked
old-young_marked : OldIsMarked small (write empty_heap region.Colour 0 4) (plain (Call 0 (Alloc 0 0) (Born 0)) ∷ []) → ⊥
old-young_marked point = (let old = point.rests refl 0 (omega arith) refl in absurd (cc))

-- colours count from a cycle on that hasn't begun
old-later_base : OldIsMarked small (write (write empty_heap region.Phase 0 3) region.Base 0 2) (plain (Begin 1 true) ∷ []) → ⊥
old-later_base point = (let base = point.base in absurd (omega (arith, base)))

-- they count from a cycle on that was an Eden one
old-eden_base : OldIsMarked small (write (write empty_heap region.Phase 0 5) region.Base 0 2)
    (plain (Begin 1 true) ∷ plain (End 1 []) ∷ plain (Begin 2 false) ∷ []) → ⊥
old-eden_base point = (let base = point.base in absurd (omega (arith, base)))

-- a full cycle began, and colours of the one before it count
old-earlier_base : OldIsMarked small (write empty_heap region.Phase 0 5)
    (plain (Begin 1 true) ∷ plain (End 1 []) ∷ plain (Begin 2 true) ∷ []) → ⊥
old-earlier_base point = (let base = point.base in absurd (omega (arith, base)))

-- a cell was born in the cycle, it is white, and nobody owes its colour
abbrev born_white : List Event
born_white = plain (Begin 1 true) ∷ plain (Open 1 16) ∷ plain (Call 0 (Alloc 0 0) (Born 0)) ∷ []

born-white : RunningBornIsMarked small (write (write empty_heap region.Phase 0 3) region.Colour 0 5) newcomer born_white
    → ⊥
born-white point = elim (point.born refl 0 (omega arith) refl) [ inl marked ↦ absurd (cc) | inr owes ↦ owes.1 ]
