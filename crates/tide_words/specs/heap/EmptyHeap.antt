-- The words of a store that holds nothing.
use Rattle.std.specs.Prelude.{◌-◌, ◌^◌}
use Rattle.tide_layout.specs.declared.region.Region.TheVariants.{Period, Phase, Base, Active, Call, Stopped, Registers, Strong, Weak, Colour, Structure, Array, Claim, Group, Slots, Elements, Free, Dead, GreyShared, GreyMutator, GreyRace, Swept}
use Rattle.tide_words.specs.heap.Heap.{Heap}

-- the empty heap: every mutator is active, colours count from cycle 1 on, and each cell and array of each block is free
abbrev pub empty_heap : Heap
empty_heap Period _ = 0
empty_heap Phase _ = 0
empty_heap Base _ = 1
empty_heap Active _ = 1
empty_heap Call _ = 0
empty_heap Stopped _ = 0
empty_heap Registers _ = 0
empty_heap Strong _ = 0
empty_heap Weak _ = 0
empty_heap Colour _ = 0
empty_heap Structure _ = 0
empty_heap Array _ = 0
empty_heap Claim _ = 0
empty_heap Group _ = 0
empty_heap Slots _ = 0
empty_heap Elements _ = 0
empty_heap Free _ = 2 ^ 64 - 1
empty_heap Dead _ = 0
empty_heap GreyShared _ = 0
empty_heap GreyMutator _ = 0
empty_heap GreyRace _ = 0
empty_heap Swept _ = 0
