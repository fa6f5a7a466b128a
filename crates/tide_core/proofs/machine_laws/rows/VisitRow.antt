-- A visitor's steps are allowed: of two cells the first holds the second. A cycle begins, a pause makes the first grey,
-- and in the part that is opened then a visitor takes its grey word, makes it black, reads its structure, its array and
-- its slots, reads the structure again, makes the second cell grey, gives it back, and stops.
use Rattle.std.proofs.Common.{◌+◌, ap, ◌∙◌, sym, subst, ℕ, zero, suc, ◌≡◌, ◌<◌, ◌==◌, refl, arith, Bool, true, false, [], ◌∷◌, ◌++◌, Some, None, inl, inr}
use Rattle.std.proofs.lemmas.Bool.{cases_Bool, cases_eq, ne_eqb}
use Rattle.std.proofs.lemmas.Nat.Bits.{bit_at-zero, bit_at-pow_other}
use Rattle.std.specs.Int.{bit_at}
use Rattle.std.specs.Prelude.{if◌then◌else◌, not, Contains, ◌*◌}
use Rattle.tide_core.specs.wave.Entered.{CycleHasBegun, HasPaused, with_begin, with_open}
use Rattle.tide_cycle.proofs.BeginLaws
use Rattle.tide_cycle.proofs.ScatterLaws
use Rattle.tide_cycle.specs.Frames.{LeftByBegin}
use Rattle.tide_words.specs.tide_layout.Limits.{IsWithinLimits}
use Rattle.tide_words.specs.tide_layout.Slots.{index_of_slot, words_before_cell}
use Rattle.tide_words.specs.tide_layout.declared.region.Region.TheVariants as region
use Rattle.tide_core.proofs.machine_laws.Scheduling.{all_schedules}
use Rattle.tide_core.proofs.machine_laws.rows.BusyRow.{limits, no_phase}
use Rattle.tide_core.proofs.machine_laws.steps.Frames.{put_else}
use Rattle.tide_core.proofs.machine_laws.steps.Lists.{is_in_one}
use Rattle.tide_core.specs.machine.Frozen.{first_world}
use Rattle.tide_core.specs.machine.Groups.{has_law}
use Rattle.tide_core.specs.machine.Kind.{Ticket, Join, Activate, TakeFree, StoreRegister, StoreBorn, StoreCall, StoreLink, LoadColour, StoreStopped, SwapGrey, Blacken, LoadStructure, LoadArray, LoadSlot, LoadAgain, LoadTarget, Mark, Publish, Kind}
use Rattle.tide_core.specs.machine.Machine.{stepped, IsAllowed}
use Rattle.tide_core.specs.machine.RunningWave.{RunningWave}
use Rattle.tide_core.specs.machine.Schedule.{Comes, running, frozen, at_first, steps, enters, opens, begins, pauses, freezes}
use Rattle.tide_core.specs.machine.World.{World}
use Rattle.tide_core.specs.declared.machine.view.View.{View}
use Rattle.tide_model.proofs.NumberLaws.{count_where-same}
use Rattle.tide_model.proofs.PeriodTests.{IsSwept-tested}
use Rattle.tide_model.specs.Graph.{IsRetained, graph_of, is_root, is_further, in_register}
use Rattle.tide_model.specs.History.{plain}
use Rattle.tide_model.specs.Layout.{Layout}
use Rattle.tide_model.specs.Numbers.{is_among}
use Rattle.tide_model.specs.Prefix.{prefix_refl}
use Rattle.tide_model.specs.Refused.{no_shapes, ShapeLists}
use Rattle.tide_model.specs.Rows.{small}
use Rattle.tide_model.specs.State.{State}
use Rattle.tide_model.specs.References.{IsLive}
use Rattle.tide_model.specs.declared.entry.Entry.TheVariants.{Pause}
use Rattle.tide_model.specs.declared.op.Op.TheVariants.{Alloc, Put}
use Rattle.tide_model.specs.declared.val.Val.TheVariants.{Cell}
use Rattle.tide_words.proofs.form_laws.FormLaws.{same_from_val_word}
use Rattle.tide_words.proofs.heap_laws.HeapLaws.{write-other_region, write-other_index}
use Rattle.tide_words.proofs.heap_laws.ReadingLaws.{tags-apart}
use Rattle.tide_words.proofs.marking_laws.ColourLaws.{is_black-other, is_marked-other}
use Rattle.tide_words.proofs.marking_laws.MarkingLaws.{Marking-greyed, stays_marked}
use Rattle.tide_words.specs.heap.Heap.{write, Heap}
use Rattle.tide_words.specs.heap.Written.{IsBitPut}
use Rattle.tide_words.specs.marking.Colours.{is_grey, is_black, coloured, IsMarkedWithin}
use Rattle.tide_words.specs.marking.GreyWords.{is_grey_region}
use Rattle.tide_words.specs.marking.Marking.{Marking}
use Rattle.tide_words.specs.declared.forms.colours.Colour.TheVariants.{Grey}

-- a layout with one visitor, whose number is 16
abbrev pub visited : Layout
visited = record small { visitors = 1 }

pub few : IsWithinLimits visited
few = record {
  five_cell_classes = limits.five_cell_classes;
  five_array_classes = limits.five_array_classes;
  few_blocks = limits.few_blocks;
  few_registers = limits.few_registers;
  few_strong = limits.few_strong;
  few_weak = limits.few_weak;
  few_mutators = limits.few_mutators;
  few_visitors = omega arith;
}

-- the worlds in which the machine comes to run
abbrev Runs : World → Type 0
Runs w = Comes visited no_shapes has_law running w

-- a part of 16 calls is opened while no cycle marks, and the mutator begins
abbrev opened : World
opened = record first_world { heap = write first_world.heap region.Period 0 1; log = with_open [] 16 }

came_opened : Runs opened
came_opened = opens first_world 16 at_first (λ marks some. absurd (cc))

abbrev joined : World
joined = stepped visited no_shapes opened 0 (Join record {
  seen = opened.log;
  told = opened.log;
  period = 1;
  run = 16;
  marks = false;
  cycle = 0;
  base = 1;
})

came_joined : Runs joined
came_joined = steps opened 0 (Join record {
  seen = opened.log;
  told = opened.log;
  period = 1;
  run = 16;
  marks = false;
  cycle = 0;
  base = 1;
}) came_opened (omega arith) refl record {
  rests = refl;
  later = omega arith;
  period = refl;
  marks = refl;
  cycle = refl;
  based = refl;
  told = prefix_refl opened.log;
  longer = record { rest = opened.log; joins = refl };
  own = refl;
}

abbrev activated : World
activated = stepped visited no_shapes joined 0 Activate

came_activated : Runs activated
came_activated = steps joined 0 Activate came_joined (omega arith) refl record {
  rests = refl;
  stays = refl;
  later = omega arith;
  of_part = refl;
  marks = refl;
  cycle = refl;
  based = refl;
}

-- two cells are born, and are white
abbrev taken : World
taken = stepped visited no_shapes activated 0 (TakeFree 0 0 (Some (Alloc 0 0)))

came_taken : Runs taken
came_taken = steps activated 0 (TakeFree 0 0 (Some (Alloc 0 0))) came_activated (omega arith) refl (
  record { is_mutator = omega arith; runs = refl },
  tt,
  omega arith,
  omega arith,
  (λ set. record {
    runner = record { is_mutator = omega arith; runs = refl };
    between = record { owed = refl; duty = refl; growth = refl; sweeping = refl; calls = refl };
    stands = record {
      is_mutator = omega arith;
      is_active = refl;
      fits = (omega arith, omega arith);
      answers = (refl, record { of_class = record { from = omega arith; below = omega arith }; is_free = refl });
      room = λ class is. absurd (cc);
    };
  }),
)

abbrev registered : World
registered = stepped visited no_shapes taken 0 (StoreRegister 0 2 None)

came_registered : Runs registered
came_registered = steps taken 0 (StoreRegister 0 2 None) came_taken (omega arith) refl (
  record { is_mutator = omega arith; runs = refl },
  (0, omega arith, refl),
)

abbrev coloured_white : World
coloured_white = stepped visited no_shapes registered 0 (StoreBorn 0 1)

came_coloured_white : Runs coloured_white
came_coloured_white = steps registered 0 (StoreBorn 0 1) came_registered (omega arith) refl record {
  runner = record { is_mutator = omega arith; runs = refl };
  owed = refl;
  is_word = refl;
}

abbrev told : World
told = stepped visited no_shapes coloured_white 0 (StoreCall 1 None)

came_told : Runs told
came_told = steps coloured_white 0 (StoreCall 1 None) came_coloured_white (omega arith) refl (
  record { is_mutator = omega arith; runs = refl },
  refl,
)

abbrev taken_too : World
taken_too = stepped visited no_shapes told 0 (TakeFree 0 1 (Some (Alloc 1 0)))

came_taken_too : Runs taken_too
came_taken_too = steps told 0 (TakeFree 0 1 (Some (Alloc 1 0))) came_told (omega arith) refl (
  record { is_mutator = omega arith; runs = refl },
  tt,
  omega arith,
  omega arith,
  (λ set. record {
    runner = record { is_mutator = omega arith; runs = refl };
    between = record { owed = refl; duty = refl; growth = refl; sweeping = refl; calls = refl };
    stands = record {
      is_mutator = omega arith;
      is_active = refl;
      fits = (omega arith, omega arith);
      answers = (refl, record { of_class = record { from = omega arith; below = omega arith }; is_free = refl });
      room = λ class is. absurd (cc);
    };
  }),
)

abbrev registered_too : World
registered_too = stepped visited no_shapes taken_too 0 (StoreRegister 1 6 None)

came_registered_too : Runs registered_too
came_registered_too = steps taken_too 0 (StoreRegister 1 6 None) came_taken_too (omega arith) refl (
  record { is_mutator = omega arith; runs = refl },
  (0, omega arith, refl),
)

abbrev white_too : World
white_too = stepped visited no_shapes registered_too 0 (StoreBorn 1 1)

came_white_too : Runs white_too
came_white_too = steps registered_too 0 (StoreBorn 1 1) came_registered_too (omega arith) refl record {
  runner = record { is_mutator = omega arith; runs = refl };
  owed = refl;
  is_word = refl;
}

abbrev told_too : World
told_too = stepped visited no_shapes white_too 0 (StoreCall 2 None)

came_told_too : Runs told_too
came_told_too = steps white_too 0 (StoreCall 2 None) came_white_too (omega arith) refl (
  record { is_mutator = omega arith; runs = refl },
  refl,
)

-- the first holds the second
abbrev linked : World
linked = stepped visited no_shapes told_too 0 (StoreLink 0 0 6 (Some (Put 0 0 1)))

came_linked : Runs linked
came_linked = steps told_too 0 (StoreLink 0 0 6 (Some (Put 0 0 1))) came_told_too (omega arith) refl (
  refl,
  omega arith,
  refl,
  refl,
  record {
    runner = record { is_mutator = omega arith; runs = refl };
    between = record { owed = refl; duty = refl; growth = refl; sweeping = refl; calls = refl };
    stands = record {
      is_mutator = omega arith;
      is_active = refl;
      fits = (omega arith, omega arith);
      answers = refl;
      room = λ class is. absurd (cc);
    };
  },
)

-- its barrier finds it white
abbrev looked : World
looked = stepped visited no_shapes linked 0 (LoadColour 0)

came_looked : Runs looked
came_looked = steps linked 0 (LoadColour 0) came_linked (omega arith) refl record {
  runner = record { is_mutator = omega arith; runs = refl };
  owed = refl;
  grown = λ none. none;
}

abbrev told_all : World
told_all = stepped visited no_shapes looked 0 (StoreCall 3 None)

came_told_all : Runs told_all
came_told_all = steps looked 0 (StoreCall 3 None) came_looked (omega arith) refl (
  record { is_mutator = omega arith; runs = refl },
  refl,
)

abbrev stopped : World
stopped = stepped visited no_shapes told_all 0 (StoreStopped 1)

came_stopped : Runs stopped
came_stopped = steps told_all 0 (StoreStopped 1) came_told_all (omega arith) refl record {
  party = inl (omega arith);
  runs = refl;
  rests = record {
    held = refl;
    scan = refl;
    between = record { owed = refl; duty = refl; growth = refl; sweeping = refl; calls = refl };
  };
  of_part = refl;
}

-- then nobody runs, and a cycle begins
nobody_runs : (p : ℕ) → (stopped.part p).runs ≡ false
nobody_runs zero = refl
nobody_runs (suc p) = ap (λ (v : View). v.runs) (
    other told_all (StoreStopped 1) ∙
    other looked (StoreCall 3 None) ∙
    other linked (LoadColour 0) ∙
    other told_too (StoreLink 0 0 6 (Some (Put 0 0 1))) ∙
    other white_too (StoreCall 2 None) ∙
    other registered_too (StoreBorn 1 1) ∙
    other taken_too (StoreRegister 1 6 None) ∙
    other told (TakeFree 0 1 (Some (Alloc 1 0))) ∙
    other coloured_white (StoreCall 1 None) ∙
    other registered (StoreBorn 0 1) ∙
    other taken (StoreRegister 0 2 None) ∙
    other activated (TakeFree 0 0 (Some (Alloc 0 0))) ∙
    other joined (Activate) ∙
    other opened (Join record {
      seen = opened.log;
      told = opened.log;
      period = 1;
      run = 16;
      marks = false;
      cycle = 0;
      base = 1;
    }))
  where
    other : (w : World) (kind : Kind) → (stepped visited no_shapes w 0 kind).part (suc p) ≡ w.part (suc p)
    other w kind = put_else w.part 0 (suc p) _ (λ e. omega (arith, e))

abbrev before : Heap
before = stopped.heap

abbrev begun : World
begun = record stopped { heap = write before region.Phase 0 3; log = with_begin stopped.log true }

begins_here : CycleHasBegun visited true before begun.heap
begins_here = record {
  others = same;
  base = refl;
  cycle = refl;
  marks = refl;
  unmarked = BeginLaws.begun-unmarked visited true before begun.heap same refl refl;
  marking = λ shapes state. BeginLaws.Marking-begun visited true before begun.heap same refl refl
      (λ _ block below. record { shared = refl; mutator = refl; race = refl }) shapes state (omega arith);
}
  where
    same : LeftByBegin visited true before begun.heap
    same at kept index within = write-other_region before region.Phase at 0 index 3 (no_phase true at kept)

came_begun : Comes visited no_shapes has_law (frozen 0) begun
came_begun = enters stopped 0 0 begun.heap begun.log (freezes stopped came_stopped nobody_runs)
    (begins true begun.heap refl (IsSwept-tested visited stopped.log refl) begins_here)

-- a pause makes the first cell grey, with its bit in the shared word
abbrev old : Heap
old = begun.heap

abbrev greyed : Heap
greyed = coloured old 0 Grey

abbrev paused : World
paused = record begun { heap = write greyed region.GreyShared 0 1; log = begun.log ++ plain (Pause 0) ∷ [] }

-- the first cell's bit alone is put
puts_bit : IsBitPut visited greyed paused.heap region.GreyShared 0 0 1
puts_bit = record {
  others = λ at apart index within. write-other_region greyed region.GreyShared at 0 index 1 apart;
  other_words = λ at within apart. write-other_index greyed region.GreyShared 0 at 1 apart;
  bits = λ other below. elim (cases_eq other 0) [
    | inl same ↦ subst (λ (k : ℕ). bit_at 1 k ≡ (if k == 0 then 1 else bit_at 0 k)) (sym same) refl
    | inr apart ↦ bit_at-pow_other 0 other apart ∙ sym (bit_at-zero other)
        ∙ sym (ap {B = ℕ} (λ (b : Bool). if b then 1 else bit_at 0 other) (ne_eqb other 0 apart))
  ];
}

-- whatever state the words read as, the first cell is live in it, and a register's
first_alive : (shapes : ShapeLists) (state : State) → Marking visited shapes old state [] → IsLive state 0
first_alive shapes state marking = (marking.reads.parts.cells 0 (omega arith)).status ∙ refl

first_reached : (shapes : ShapeLists) (state : State) → Marking visited shapes old state [] →
    IsRetained (graph_of state) (IsMarkedWithin visited old) 0
first_reached shapes state marking = is_root 0 (in_register 0 0
    (elim (cases_Bool (state.active 0)) [
      | inl is ↦ is
      | inr isnt ↦
          let word = marking.reads.roots.active 0 (omega arith) in
          let none = ap {B = ℕ} (λ (b : Bool). if b then 1 else 0) isnt in
          let one : old region.Active 0 ≡ 1 = refl in
          absurd (omega (arith, word, none, one))
    ])
    (same_from_val_word (state.registers 0 0) (Cell 0)
    (marking.reads.roots.registers 0 0 (omega arith) (omega arith)).is_word))

pauses_here : HasPaused visited old paused.heap 0
pauses_here = record {
  others = λ at no_grey apart index within.
      write-other_region greyed region.GreyShared at 0 index 1
      (tags-apart (λ r. not (is_grey_region r)) region.GreyShared at refl (ap not no_grey))
      ∙ write-other_region old region.Colour at 0 index 6 apart;
  stays_marked = λ cell within marked. stays_marked old 0 cell (omega arith) marked;
  stays_black = λ cell within black. same_black cell ∙ black;
  blackened = ap (λ (n : ℕ). n) (count_where-same (is_black paused.heap) (is_black old) 128 (λ n below. same_black n))
      ∙ omega arith;
  marking = λ shapes state marking. ScatterLaws.Marking-shared visited greyed paused.heap 0 (omega arith) puts_bit
      shapes state []
      (Marking-greyed visited shapes old state [] 0 refl (omega arith) refl (first_alive shapes state marking) marking);
  reached = λ shapes state marking cell within marked. elim (cases_eq cell 0) [
    | inl same ↦ subst (IsRetained (graph_of state) (IsMarkedWithin visited old)) (sym same) (first_reached shapes state marking)
    | inr apart ↦ is_further cell (within, sym (is_marked-other old 0 cell Grey apart) ∙ marked)
  ];
}
  where
    same_black : (cell : ℕ) → is_black paused.heap cell ≡ is_black old cell
    same_black cell = elim (cases_eq cell 0) [
      | inl same ↦ subst (λ (c : ℕ). is_black paused.heap c ≡ is_black old c) (sym same) refl
      | inr apart ↦ is_black-other old 0 cell Grey apart
    ]

came_paused : Comes visited no_shapes has_law (frozen 0) paused
came_paused = enters begun 0 0 paused.heap paused.log came_begun (pauses paused.heap 0 refl pauses_here)

-- the next part is opened, with a grey cell for the visitor, which begins
abbrev opened_again : World
opened_again = record paused { heap = write paused.heap region.Period 0 2; log = with_open paused.log 16 }

came_opened_again : Runs opened_again
came_opened_again = opens paused 16 came_paused (λ marks some. (omega arith, (0, omega arith, refl)))

abbrev ticket : Ticket
ticket = record { seen = opened_again.log; told = opened_again.log; period = 2; run = 16; marks = true; cycle = 1; base = 1 }

abbrev visitor_joined : World
visitor_joined = stepped visited no_shapes opened_again 16 (Join ticket)

came_visitor_joined : Runs visitor_joined
came_visitor_joined = steps opened_again 16 (Join ticket) came_opened_again (omega arith) refl record {
  rests = refl;
  later = omega arith;
  period = refl;
  marks = refl;
  cycle = refl;
  based = refl;
  told = prefix_refl opened_again.log;
  longer = record { rest = opened_again.log; joins = refl };
  own = refl;
}

abbrev visitor_begun : World
visitor_begun = stepped visited no_shapes visitor_joined 16 Activate

came_visitor_begun : Runs visitor_begun
came_visitor_begun = steps visitor_joined 16 Activate came_visitor_joined (omega arith) refl record {
  rests = refl;
  stays = refl;
  later = omega arith;
  of_part = refl;
  marks = refl;
  cycle = refl;
  based = refl;
}

-- it takes the grey word, and makes the cell black
abbrev swapped : World
swapped = stepped visited no_shapes visitor_begun 16 (SwapGrey region.GreyShared 0)

swapped_may : IsAllowed visited no_shapes visitor_begun 16 (SwapGrey region.GreyShared 0)
swapped_may = record {
  runner = record { is_visitor = omega arith; within = omega arith; runs = refl; marks = refl; idle = refl };
  is_grey = inl refl;
  within = omega arith;
}

came_swapped : Runs swapped
came_swapped = steps visitor_begun 16 (SwapGrey region.GreyShared 0) came_visitor_begun (omega arith) refl swapped_may

abbrev blackened : World
blackened = stepped visited no_shapes swapped 16 (Blacken 0 1)

blackened_may : IsAllowed visited no_shapes swapped 16 (Blacken 0 1)
blackened_may = record {
  runner = record { is_visitor = omega arith; within = omega arith; runs = refl; marks = refl; idle = refl };
  has = is_in_one 0;
  scans_not = refl;
  few = omega arith;
  in_cycle = refl;
}

came_blackened : Runs blackened
came_blackened = steps swapped 16 (Blacken 0 1) came_swapped (omega arith) refl blackened_may

-- it reads the structure, the array and both slots
abbrev structured : World
structured = stepped visited no_shapes blackened 16 (LoadStructure 0)

structured_may : IsAllowed visited no_shapes blackened 16 (LoadStructure 0)
structured_may = record {
  runner = record { is_visitor = omega arith; within = omega arith; runs = refl; marks = refl; idle = refl };
  scan = _;
  is = refl;
  of_cell = refl;
  first = refl;
  goes_on = refl;
  once = refl;
}

came_structured : Runs structured
came_structured = steps blackened 16 (LoadStructure 0) came_blackened (omega arith) refl structured_may

abbrev arrayed : World
arrayed = stepped visited no_shapes structured 16 (LoadArray 0)

arrayed_may : IsAllowed visited no_shapes structured 16 (LoadArray 0)
arrayed_may = record {
  runner = record { is_visitor = omega arith; within = omega arith; runs = refl; marks = refl; idle = refl };
  scan = _;
  is = refl;
  of_cell = refl;
  read = λ none. absurd (cc);
  array = refl;
  goes_on = refl;
  once = refl;
}

came_arrayed : Runs arrayed
came_arrayed = steps structured 16 (LoadArray 0) came_structured (omega arith) refl arrayed_may

abbrev slotted : World
slotted = stepped visited no_shapes arrayed 16 (LoadSlot 0 0)

slotted_may : IsAllowed visited no_shapes arrayed 16 (LoadSlot 0 0)
slotted_may = record {
  runner = record { is_visitor = omega arith; within = omega arith; runs = refl; marks = refl; idle = refl };
  scan = _;
  is = refl;
  of_cell = refl;
  within = omega arith;
  goes_on = refl;
  once = refl;
}

came_slotted : Runs slotted
came_slotted = steps arrayed 16 (LoadSlot 0 0) came_arrayed (omega arith) refl slotted_may

abbrev slotted_too : World
slotted_too = stepped visited no_shapes slotted 16 (LoadSlot 0 1)

slotted_too_may : IsAllowed visited no_shapes slotted 16 (LoadSlot 0 1)
slotted_too_may = record {
  runner = record { is_visitor = omega arith; within = omega arith; runs = refl; marks = refl; idle = refl };
  scan = _;
  is = refl;
  of_cell = refl;
  within = omega arith;
  goes_on = refl;
  once = refl;
}

came_slotted_too : Runs slotted_too
came_slotted_too = steps slotted 16 (LoadSlot 0 1) came_slotted (omega arith) refl slotted_too_may

-- it reads the structure again, with the same word
abbrev agreed : World
agreed = stepped visited no_shapes slotted_too 16 (LoadAgain 0)

both : (slot : ℕ) → slot < 2 → is_among (1 ∷ 0 ∷ []) slot ≡ true
both zero below = refl
both (suc zero) below = refl
both (suc (suc slot)) below = absurd (omega (arith, below))

agreed_may : IsAllowed visited no_shapes slotted_too 16 (LoadAgain 0)
agreed_may = record {
  runner = record { is_visitor = omega arith; within = omega arith; runs = refl; marks = refl; idle = refl };
  scan = _;
  is = refl;
  of_cell = refl;
  first = 0;
  was_read = refl;
  whole = refl;
  array = λ none. absurd (cc);
  slots = both;
  elements = λ place below. absurd (omega (arith, below));
  goes_on = refl;
  once = refl;
}

came_agreed : Runs agreed
came_agreed = steps slotted_too 16 (LoadAgain 0) came_slotted_too (omega arith) refl agreed_may

-- it finds the second cell white, and makes it grey
abbrev targeted : World
targeted = stepped visited no_shapes agreed 16 (LoadTarget 1)

targeted_may : IsAllowed visited no_shapes agreed 16 (LoadTarget 1)
unfolding index_of_slot words_before_cell
targeted_may = record {
  runner = record { is_visitor = omega arith; within = omega arith; runs = refl; marks = refl; idle = refl };
  scan = _;
  is = refl;
  agreed = refl;
  has = is_in_one 1;
}

came_targeted : Runs targeted
came_targeted = steps agreed 16 (LoadTarget 1) came_agreed (omega arith) refl targeted_may

abbrev marked : World
marked = stepped visited no_shapes targeted 16 (Mark 1 1 1)

marked_may : IsAllowed visited no_shapes targeted 16 (Mark 1 1 1)
unfolding index_of_slot words_before_cell
marked_may = record {
  runner = record { is_visitor = omega arith; within = omega arith; runs = refl; marks = refl; idle = refl };
  scan = _;
  is = refl;
  agreed = refl;
  has = is_in_one 1;
  target = refl;
  white = refl;
  in_cycle = refl;
}

came_marked : Runs marked
came_marked = steps targeted 16 (Mark 1 1 1) came_targeted (omega arith) refl marked_may

-- the wave holds there
pub marked_has_the_wave : RunningWave visited no_shapes marked
marked_has_the_wave = all_schedules visited no_shapes few refl running marked came_marked

-- the first cell is black, the second grey and held, and the scan is over
pub marked_is : (is_black marked.heap 0 ≡ true) × (is_grey marked.heap 1 ≡ true) × ((marked.part 16).held ≡ 1 ∷ [])
    × ((marked.part 16).scan ≡ None) × ((marked.part 16).visits ≡ 1) × (marked.heap region.GreyShared 0 ≡ 0)
unfolding index_of_slot words_before_cell
marked_is = (refl, refl, refl, refl, refl, refl)

-- it gives the second cell back to the shared word, and stops
abbrev published : World
published = stepped visited no_shapes marked 16 (Publish 0 2)

published_may : IsAllowed visited no_shapes marked 16 (Publish 0 2)
unfolding index_of_slot words_before_cell
published_may = record {
  runner = record { is_visitor = omega arith; within = omega arith; runs = refl; marks = refl; idle = refl };
  within = omega arith;
  held = λ k below bit. elim (cases_eq k 1) [
    | inl same ↦ subst (λ (c : ℕ). Contains (1 ∷ []) (64 * 0 + c)) (sym same) (is_in_one 1)
    | inr apart ↦ (let clear = bit_at-pow_other 1 k apart in absurd (omega (arith, clear, bit)))
  ];
}

came_published : Runs published
came_published = steps marked 16 (Publish 0 2) came_marked (omega arith) refl published_may

abbrev pub visitor_stopped : World
visitor_stopped = stepped visited no_shapes published 16 (StoreStopped 2)

stopped_may : IsAllowed visited no_shapes published 16 (StoreStopped 2)
unfolding index_of_slot words_before_cell
stopped_may = record {
  party = inr (omega arith, omega arith);
  runs = refl;
  rests = record {
    held = refl;
    scan = refl;
    between = record { owed = refl; duty = refl; growth = refl; sweeping = refl; calls = refl };
  };
  of_part = refl;
}

pub came_visitor_stopped : Runs visitor_stopped
came_visitor_stopped = steps published 16 (StoreStopped 2) came_published (omega arith) refl stopped_may

-- the second cell's bit stands in the shared word, and the visitor holds nothing
pub visitor_stopped_is : (visitor_stopped.heap region.GreyShared 0 ≡ 2) × ((visitor_stopped.part 16).held ≡ [])
    × (visitor_stopped.heap region.Stopped 1 ≡ 2)
unfolding index_of_slot words_before_cell
visitor_stopped_is = (refl, refl, refl)
