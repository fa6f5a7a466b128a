-- A world that isn't idle: while a cycle marks a mutator takes a cell, links it, makes it grey by its barrier, and
-- links it again. The wave holds there, with a grey cell in a grey word and a barrier that is owed.
use Rattle.std.proofs.Common.{ap, ◌∙◌, Bool, false, inl, ℕ, zero, suc, ◌≡◌, ◌≤◌, refl, arith, true, [], ◌∷◌, Some, None}
use Rattle.std.specs.Prelude.{◌==◌}
use Rattle.tide_core.specs.wave.Entered.{CycleHasBegun, with_begin, with_open}
use Rattle.tide_cycle.proofs.BeginLaws
use Rattle.tide_cycle.specs.Frames.{LeftByBegin, is_begun_region}
use Rattle.tide_words.specs.tide_layout.Region.{tag}
use Rattle.tide_words.specs.tide_layout.declared.region.Region.{Region}
use Rattle.tide_words.specs.tide_layout.Limits.{IsWithinLimits}
use Rattle.tide_words.specs.tide_layout.declared.region.Region.TheVariants as region
use Rattle.tide_core.proofs.machine_laws.Scheduling.{all_schedules}
use Rattle.tide_core.proofs.machine_laws.steps.Frames.{put_else}
use Rattle.tide_core.specs.machine.Frozen.{first_world, FrozenMachine}
use Rattle.tide_core.specs.machine.Groups.{has_law}
use Rattle.tide_core.specs.machine.Kind.{Ticket, Join, Activate, TakeFree, StoreRegister, StoreBorn, StoreCall, StoreLink, LoadColour, Regrey, PushBit, StoreStopped, Kind}
use Rattle.tide_core.specs.machine.Machine.{stepped}
use Rattle.tide_core.specs.machine.RunningWave.{RunningWave}
use Rattle.tide_core.specs.machine.Schedule.{Comes, running, frozen, at_first, steps, enters, opens, begins, freezes}
use Rattle.tide_core.specs.machine.World.{World}
use Rattle.tide_core.specs.declared.machine.view.Duty.TheVariants as duty
use Rattle.tide_core.specs.declared.machine.view.View.{View}
use Rattle.tide_model.proofs.PeriodTests.{IsSwept-tested}
use Rattle.tide_model.specs.History.{plain}
use Rattle.tide_model.specs.Layout.{blocks_of}
use Rattle.tide_model.specs.Prefix.{prefix_refl}
use Rattle.tide_model.specs.Refused.{no_shapes}
use Rattle.tide_model.specs.Rows.{small}
use Rattle.tide_model.specs.declared.entry.Entry.TheVariants.{Begin, Open, Call}
use Rattle.tide_model.specs.declared.op.Op.TheVariants.{Alloc, Put}
use Rattle.tide_model.specs.declared.op.Reply.TheVariants.{Born, Done}
use Rattle.tide_words.proofs.heap_laws.HeapLaws.{write-other_region}
use Rattle.tide_words.specs.heap.EmptyHeap.{empty_heap}
use Rattle.tide_words.specs.heap.Heap.{write}
use Rattle.tide_words.specs.marking.Colours.{is_marking, is_grey}

pub limits : IsWithinLimits small
limits = record {
  five_cell_classes = refl;
  five_array_classes = refl;
  few_blocks = few;
  few_registers = omega arith;
  few_strong = omega arith;
  few_weak = omega arith;
  few_mutators = omega arith;
  few_visitors = omega arith;
}
  where
    few : (class : ℕ) → blocks_of small class ≤ 262144
    few zero = omega arith
    few (suc zero) = omega arith
    few (suc (suc zero)) = omega arith
    few (suc (suc (suc zero))) = omega arith
    few (suc (suc (suc (suc zero)))) = omega arith
    few (suc (suc (suc (suc (suc zero))))) = omega arith
    few (suc (suc (suc (suc (suc (suc zero)))))) = omega arith
    few (suc (suc (suc (suc (suc (suc (suc zero))))))) = omega arith
    few (suc (suc (suc (suc (suc (suc (suc (suc zero)))))))) = omega arith
    few (suc (suc (suc (suc (suc (suc (suc (suc (suc zero))))))))) = omega arith
    few (suc (suc (suc (suc (suc (suc (suc (suc (suc (suc n)))))))))) = omega arith

-- a region that no beginning changes is another than the phase's
pub no_phase : (full : Bool) (at : Region) → is_begun_region full at ≡ false → (tag at == tag region.Phase) ≡ false
no_phase full region.Phase is = absurd (cc)
no_phase full _ is = refl

-- a cycle begins before any part
abbrev begun : World
begun = record first_world { heap = write empty_heap region.Phase 0 3; log = with_begin [] true }

begins_first : CycleHasBegun small true empty_heap (write empty_heap region.Phase 0 3)
begins_first = record {
  others = same;
  base = refl;
  cycle = omega arith;
  marks = refl;
  unmarked = BeginLaws.begun-unmarked small true empty_heap (write empty_heap region.Phase 0 3) same refl refl;
  marking = λ shapes state. BeginLaws.Marking-begun small true empty_heap (write empty_heap region.Phase 0 3) same refl refl
      (λ _ block below. record { shared = refl; mutator = refl; race = refl }) shapes state (omega arith);
}
  where
    same : LeftByBegin small true empty_heap (write empty_heap region.Phase 0 3)
    same at kept index within = write-other_region empty_heap region.Phase at 0 index 3 (no_phase true at kept)

came_begun : Comes small no_shapes has_law (frozen 0) begun
came_begun = enters first_world 0 0 (write empty_heap region.Phase 0 3) (with_begin [] true) at_first
    (begins true (write empty_heap region.Phase 0 3) refl (IsSwept-tested small [] refl) begins_first)

-- a part of 16 calls is opened
abbrev pub opened : World
opened = record begun { heap = write begun.heap region.Period 0 1; log = with_open begun.log 16 }

pub came_opened : Comes small no_shapes has_law running opened
came_opened = opens begun 16 came_begun (λ marks none. absurd (omega (arith, none)))

-- its ticket
abbrev ticket : Ticket
ticket = record { seen = opened.log; told = opened.log; period = 1; run = 16; marks = true; cycle = 1; base = 1 }

abbrev joined : World
joined = stepped small no_shapes opened 0 (Join ticket)

came_joined : Comes small no_shapes has_law running joined
came_joined = steps opened 0 (Join ticket) came_opened (omega arith) refl record {
  rests = refl;
  later = omega arith;
  period = refl;
  marks = refl;
  cycle = refl;
  based = refl;
  told = prefix_refl opened.log;
  longer = record { rest = opened.log; joins = refl };
  own = refl;
}

abbrev activated : World
activated = stepped small no_shapes joined 0 Activate

came_activated : Comes small no_shapes has_law running activated
came_activated = steps joined 0 Activate came_joined (omega arith) refl record {
  rests = refl;
  stays = refl;
  later = omega arith;
  of_part = refl;
  marks = refl;
  cycle = refl;
  based = refl;
}

-- a cell is taken while the cycle marks
abbrev pub taken : World
taken = stepped small no_shapes activated 0 (TakeFree 0 0 (Some (Alloc 0 0)))

came_taken : Comes small no_shapes has_law running taken
came_taken = steps activated 0 (TakeFree 0 0 (Some (Alloc 0 0))) came_activated (omega arith) refl (
  record { is_mutator = omega arith; runs = refl },
  tt,
  omega arith,
  omega arith,
  (λ set. record {
    runner = record { is_mutator = omega arith; runs = refl };
    between = record { owed = refl; duty = refl; growth = refl; sweeping = refl; calls = refl };
    stands = record {
      is_mutator = omega arith;
      is_active = refl;
      fits = (omega arith, omega arith);
      answers = (refl, record { of_class = record { from = omega arith; below = omega arith }; is_free = refl });
      room = λ class is. absurd (cc);
    };
  }),
)

-- its register, its colour and the call word are stored
abbrev registered : World
registered = stepped small no_shapes taken 0 (StoreRegister 0 2 None)

came_registered : Comes small no_shapes has_law running registered
came_registered = steps taken 0 (StoreRegister 0 2 None) came_taken (omega arith) refl (
  record { is_mutator = omega arith; runs = refl },
  (0, omega arith, refl),
)

abbrev coloured_black : World
coloured_black = stepped small no_shapes registered 0 (StoreBorn 0 4)

came_coloured : Comes small no_shapes has_law running coloured_black
came_coloured = steps registered 0 (StoreBorn 0 4) came_registered (omega arith) refl record {
  runner = record { is_mutator = omega arith; runs = refl };
  owed = refl;
  is_word = refl;
}

abbrev told : World
told = stepped small no_shapes coloured_black 0 (StoreCall 1 None)

came_told : Comes small no_shapes has_law running told
came_told = steps coloured_black 0 (StoreCall 1 None) came_coloured (omega arith) refl (
  record { is_mutator = omega arith; runs = refl },
  refl,
)

-- the cell holds itself, and the barrier is owed
abbrev pub linked : World
linked = stepped small no_shapes told 0 (StoreLink 0 0 2 (Some (Put 0 0 0)))

came_linked : Comes small no_shapes has_law running linked
came_linked = steps told 0 (StoreLink 0 0 2 (Some (Put 0 0 0))) came_told (omega arith) refl (
  refl,
  omega arith,
  refl,
  refl,
  record {
    runner = record { is_mutator = omega arith; runs = refl };
    between = record { owed = refl; duty = refl; growth = refl; sweeping = refl; calls = refl };
    stands = record {
      is_mutator = omega arith;
      is_active = refl;
      fits = (omega arith, omega arith);
      answers = refl;
      room = λ class is. absurd (cc);
    };
  },
)

-- which finds the cell black, makes it grey, and sets its bit
abbrev pub loaded : World
loaded = stepped small no_shapes linked 0 (LoadColour 0)

came_loaded : Comes small no_shapes has_law running loaded
came_loaded = steps linked 0 (LoadColour 0) came_linked (omega arith) refl record {
  runner = record { is_mutator = omega arith; runs = refl };
  owed = refl;
  grown = λ none. none;
}

abbrev regreyed : World
regreyed = stepped small no_shapes loaded 0 (Regrey 0 4 1)

came_regreyed : Comes small no_shapes has_law running regreyed
came_regreyed = steps loaded 0 (Regrey 0 4 1) came_loaded (omega arith) refl record {
  runner = record { is_mutator = omega arith; runs = refl };
  owed = refl;
  black = refl;
  within = omega arith;
  in_cycle = refl;
  grown = λ none. none;
}

abbrev pushed : World
pushed = stepped small no_shapes regreyed 0 (PushBit 0)

came_pushed : Comes small no_shapes has_law running pushed
came_pushed = steps regreyed 0 (PushBit 0) came_regreyed (omega arith) refl record {
  runner = record { is_mutator = omega arith; runs = refl };
  owed = refl;
}

abbrev told_again : World
told_again = stepped small no_shapes pushed 0 (StoreCall 2 None)

came_told_again : Comes small no_shapes has_law running told_again
came_told_again = steps pushed 0 (StoreCall 2 None) came_pushed (omega arith) refl (
  record { is_mutator = omega arith; runs = refl },
  refl,
)

-- and links it again
abbrev pub busy : World
busy = stepped small no_shapes told_again 0 (StoreLink 0 1 2 (Some (Put 0 1 0)))

pub came_busy : Comes small no_shapes has_law running busy
came_busy = steps told_again 0 (StoreLink 0 1 2 (Some (Put 0 1 0))) came_told_again (omega arith) refl (
  refl,
  omega arith,
  refl,
  refl,
  record {
    runner = record { is_mutator = omega arith; runs = refl };
    between = record { owed = refl; duty = refl; growth = refl; sweeping = refl; calls = refl };
    stands = record {
      is_mutator = omega arith;
      is_active = refl;
      fits = (omega arith, omega arith);
      answers = refl;
      room = λ class is. absurd (cc);
    };
  },
)

-- the wave holds there
pub busy_has_the_wave : RunningWave small no_shapes busy
busy_has_the_wave = all_schedules small no_shapes limits refl running busy came_busy

-- a cycle marks, the cell is grey, its bit is set, and the barrier on it is owed
pub busy_is : (is_marking busy.heap ≡ true) × (is_grey busy.heap 0 ≡ true) × (busy.heap region.GreyMutator 0 ≡ 1)
    × ((busy.part 0).duty ≡ duty.Barrier 0)
busy_is = (refl, refl, refl, refl)

-- its history: what the collector entered, and the mutator's calls
pub busy_log : busy.log ≡ plain (Begin 1 true) ∷ plain (Open 1 16) ∷ plain (Call 0 (Alloc 0 0) (Born 0))
    ∷ plain (Call 0 (Put 0 0 0) Done) ∷ plain (Call 0 (Put 0 1 0) Done) ∷ []
busy_log = refl

-- the barrier finds the cell grey, and nothing more is owed; the call word tells the call, and the mutator stops
abbrev paid : World
paid = stepped small no_shapes busy 0 (LoadColour 0)

came_paid : Comes small no_shapes has_law running paid
came_paid = steps busy 0 (LoadColour 0) came_busy (omega arith) refl record {
  runner = record { is_mutator = omega arith; runs = refl };
  owed = refl;
  grown = λ none. none;
}

abbrev told_all : World
told_all = stepped small no_shapes paid 0 (StoreCall 3 None)

came_told_all : Comes small no_shapes has_law running told_all
came_told_all = steps paid 0 (StoreCall 3 None) came_paid (omega arith) refl (
  record { is_mutator = omega arith; runs = refl },
  refl,
)

abbrev pub stopped : World
stopped = stepped small no_shapes told_all 0 (StoreStopped 1)

pub came_stopped : Comes small no_shapes has_law running stopped
came_stopped = steps told_all 0 (StoreStopped 1) came_told_all (omega arith) refl record {
  party = inl (omega arith);
  runs = refl;
  rests = record {
    held = refl;
    scan = refl;
    between = record {
      owed = refl;
      duty = refl;
      growth = refl;
      sweeping = refl;
      calls =
          refl;
    };
  };
  of_part = refl;
}

-- then nobody runs, and the heap is frozen with the grey cell in its word
nobody_runs : (p : ℕ) → (stopped.part p).runs ≡ false
nobody_runs zero = refl
nobody_runs (suc p) = ap (λ (v : View). v.runs) (
    other told_all (StoreStopped 1) ∙
    other paid (StoreCall 3 None) ∙
    other busy (LoadColour 0) ∙
    other told_again (StoreLink 0 1 2 (Some (Put 0 1 0))) ∙
    other pushed (StoreCall 2 None) ∙
    other regreyed (PushBit 0) ∙
    other loaded (Regrey 0 4 1) ∙
    other linked (LoadColour 0) ∙
    other told (StoreLink 0 0 2 (Some (Put 0 0 0))) ∙
    other coloured_black (StoreCall 1 None) ∙
    other registered (StoreBorn 0 4) ∙
    other taken (StoreRegister 0 2 None) ∙
    other activated (TakeFree 0 0 (Some (Alloc 0 0))) ∙
    other joined (Activate) ∙
    other opened (Join ticket))
  where
    other : (w : World) (kind : Kind) → (stepped small no_shapes w 0 kind).part (suc p) ≡ w.part (suc p)
    other w kind = put_else w.part 0 (suc p) _ (λ e. omega (arith, e))

pub frozen_has_the_wave : FrozenMachine small no_shapes stopped 0
frozen_has_the_wave = all_schedules small no_shapes limits refl (frozen 0) stopped
    (freezes stopped came_stopped nobody_runs)

pub frozen_is : (stopped.heap region.GreyMutator 0 ≡ 1) × (stopped.heap region.Call 0 ≡ 3) ×
    (stopped.heap region.Stopped 0 ≡ 1)
frozen_is = (refl, refl, refl)
