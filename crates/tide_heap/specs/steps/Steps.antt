-- The kind of the machine that a call of a pass makes.
use Rattle.std.specs.Prelude.{ℕ, ◌-◌, nat_lt, if◌then◌else◌}
use Rattle.tide_core.specs.tide_layout.Region.{base_of}
use Rattle.tide_core.specs.tide_layout.declared.region.Region.{Region}
use Rattle.tide_core.specs.tide_layout.declared.region.Region.TheVariants.{Structure, Array, Claim, Group, Slots, Elements}
use Rattle.tide_core.specs.machine.Kind as kind
use Rattle.tide_core.specs.machine.Kind.{Kind}
use Rattle.tide_model.specs.Layout.{Layout}
use Rattle.tide_heap.specs.declared.steps.step.Step.{Step}
use Rattle.tide_heap.specs.declared.steps.step.Step.TheVariants as step

-- the region of the word at a place, where that is a word of a cell or of an array
abbrev pub region_at : Layout → ℕ → Region
region_at layout at =
    if nat_lt at (base_of layout Array) then Structure
    else if nat_lt at (base_of layout Claim) then Array
    else if nat_lt at (base_of layout Group) then Claim
    else if nat_lt at (base_of layout Slots) then Group
    else if nat_lt at (base_of layout Elements) then Slots
    else Elements

-- the word at a place is zeroed
abbrev pub zero_kind : Layout → ℕ → Kind
zero_kind layout at = kind.ZeroWord (region_at layout at) (at - base_of layout (region_at layout at))

-- the kind of a step, on a heap of a layout
abbrev pub kind_of : Layout → Step → Kind
kind_of layout (step.Retire made) = kind.Retire made
kind_of layout (step.LoadRegister register) = kind.LoadRegister register
kind_of layout (step.StoreRegister register word made) = kind.StoreRegister register word made
kind_of layout step.LoadCall = kind.LoadCall
kind_of layout (step.StoreCall word made) = kind.StoreCall word made
kind_of layout (step.LoadStrong handle made) = kind.LoadStrong handle made
kind_of layout (step.StoreStrong handle word made) = kind.StoreStrong handle word made
kind_of layout (step.LoadWeak handle made) = kind.LoadWeak handle made
kind_of layout (step.StoreWeak handle word made) = kind.StoreWeak handle word made
kind_of layout (step.LoadLink cell slot made) = kind.LoadLink cell slot made
kind_of layout (step.StoreLink cell slot word made) = kind.StoreLink cell slot word made
kind_of layout (step.LoadColour cell) = kind.LoadColour cell
kind_of layout (step.Regrey cell old cycle) = kind.Regrey cell old cycle
kind_of layout (step.PushBit cell) = kind.PushBit cell
kind_of layout (step.LoadFree block) = kind.LoadFree block
kind_of layout (step.TakeFree block k made) = kind.TakeFree block k made
kind_of layout (step.StoreBorn cell word) = kind.StoreBorn cell word
kind_of layout (step.LoadPair table place made) = kind.LoadPair table place made
kind_of layout (step.StorePair table place word made) = kind.StorePair table place word made
kind_of layout (step.StoreGroup cell word made) = kind.StoreGroup cell word made
kind_of layout (step.LoadClaim cell made) = kind.LoadClaim cell made
kind_of layout (step.TakeClaim cell holder made) = kind.TakeClaim cell holder made
kind_of layout (step.Release cell made) = kind.Release cell made
kind_of layout (step.LoadElement array place made) = kind.LoadElement array place made
kind_of layout (step.StoreElement array place word made) = kind.StoreElement array place word made
kind_of layout (step.TakeArray block k old next made) = kind.TakeArray block k old next made
kind_of layout (step.Nuke cell word) = kind.Nuke cell word
kind_of layout (step.LoadOwnArray cell) = kind.LoadOwnArray cell
kind_of layout (step.StoreArray cell array) = kind.StoreArray cell array
kind_of layout (step.LoadOwnStructure cell) = kind.LoadOwnStructure cell
kind_of layout (step.StoreStructure cell word made) = kind.StoreStructure cell word made
kind_of layout (step.SwapGrey grey block) = kind.SwapGrey grey block
kind_of layout (step.Blacken cell cycle) = kind.Blacken cell cycle
kind_of layout (step.LoadStructure cell) = kind.LoadStructure cell
kind_of layout (step.LoadArray cell) = kind.LoadArray cell
kind_of layout (step.LoadSlot cell slot) = kind.LoadSlot cell slot
kind_of layout (step.LoadElementOf array place) = kind.LoadElementOf array place
kind_of layout (step.LoadAgain cell) = kind.LoadAgain cell
kind_of layout (step.LoadTarget cell) = kind.LoadTarget cell
kind_of layout (step.Mark cell old cycle) = kind.Mark cell old cycle
kind_of layout (step.UnBlacken cell cycle) = kind.UnBlacken cell cycle
kind_of layout (step.PushRace cell) = kind.PushRace cell
kind_of layout (step.Publish block mask) = kind.Publish block mask
kind_of layout (step.LoadDead block) = kind.LoadDead block
kind_of layout (step.ClaimBlock block old cycle) = kind.ClaimBlock block old cycle
kind_of layout (step.ZeroWord at) = zero_kind layout at
kind_of layout (step.GiveBits block bits) = kind.GiveBits block bits
kind_of layout (step.Finish block) = kind.Finish block
