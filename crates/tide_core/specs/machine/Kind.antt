-- The kinds of step: which word each is on, and what it does to it.
use Rattle.std.specs.Prelude.{ℕ, ◌+◌, ◌-◌, Bool, List, ◌==◌, nat_lt, if◌then◌else◌, Option, bit_and, bit_or, None, Some}
use Rattle.tide_words.specs.tide_layout.Region.{index_of_register}
use Rattle.tide_words.specs.tide_layout.Slots.{index_of_slot, index_of_element}
use Rattle.tide_words.specs.tide_layout.declared.region.Region.{Region}
use Rattle.tide_core.specs.machine.Words.{all_but, bit_of}
use Rattle.tide_core.specs.machine.World.{first_visitor}
use Rattle.tide_core.specs.declared.machine.act.Act.{Act}
use Rattle.tide_core.specs.declared.machine.act.Act.TheVariants.{Load, Store, Swap, And, Or, Exchange}
use Rattle.tide_model.specs.Layout.{Layout, block_of_cell}
use Rattle.tide_model.specs.declared.entry.Event.{Event}
use Rattle.tide_model.specs.declared.op.Op.{Op}
use Rattle.tide_words.specs.declared.forms.colours.Colour.TheVariants.{Black, Grey}
use Rattle.tide_words.specs.forms.ColourWord.{colour_word}
use Rattle.tide_words.specs.forms.Reference.{array_word, claim_word}
use Rattle.tide_words.specs.tide_layout.declared.region.Region.TheVariants as region

-- What a participant knows of the open part with a ticket: the history, as far as it knew it or the ticket told, what
-- the ticket told of it, the part's number and how many calls each mutator has in it, whether a cycle marks, and which,
-- and from which cycle on colours count.
pub record Ticket : Type 0 where
  pub seen : List Event
  pub told : List Event
  pub period : ℕ
  pub run : ℕ
  pub marks : Bool
  pub cycle : ℕ
  pub base : ℕ

-- A kind of step, with the place that it is on. Where it may make a call, it has the call's operation: the call is made
-- if the word that the step finds answers it.
pub data Kind : Type 0 where
  -- a participant hands out its note, hears a ticket, begins, and stops; a mutator retires
  Split : Kind
  Join : Ticket → Kind
  Activate : Kind
  StoreStopped : ℕ → Kind
  Retire : Option Op → Kind
  -- a mutator's registers and its call word, and handles
  LoadRegister : ℕ → Kind
  StoreRegister : ℕ → ℕ → Option Op → Kind
  LoadCall : Kind
  StoreCall : ℕ → Option Op → Kind
  LoadStrong : ℕ → Option Op → Kind
  StoreStrong : ℕ → ℕ → Option Op → Kind
  LoadWeak : ℕ → Option Op → Kind
  StoreWeak : ℕ → ℕ → Option Op → Kind
  -- slots, the barrier, and allocation
  LoadLink : ℕ → ℕ → Option Op → Kind
  StoreLink : ℕ → ℕ → ℕ → Option Op → Kind
  LoadColour : ℕ → Kind
  Regrey : (cell old cycle : ℕ) → Kind
  PushBit : ℕ → Kind
  LoadFree : ℕ → Kind
  TakeFree : ℕ → ℕ → Option Op → Kind
  StoreBorn : ℕ → ℕ → Kind
  -- pairs, groups, claims and transitions
  LoadPair : ℕ → ℕ → Option Op → Kind
  StorePair : ℕ → ℕ → ℕ → Option Op → Kind
  StoreGroup : ℕ → ℕ → Option Op → Kind
  LoadClaim : ℕ → Option Op → Kind
  TakeClaim : ℕ → ℕ → Option Op → Kind
  Release : ℕ → Option Op → Kind
  LoadElement : ℕ → ℕ → Option Op → Kind
  StoreElement : ℕ → ℕ → ℕ → Option Op → Kind
  TakeArray : ℕ → ℕ → ℕ → ℕ → Option Op → Kind
  Nuke : ℕ → ℕ → Kind
  LoadOwnArray : ℕ → Kind
  StoreArray : ℕ → ℕ → Kind
  LoadOwnStructure : ℕ → Kind
  StoreStructure : ℕ → ℕ → Option Op → Kind
  -- a visitor's scan of a cell
  SwapGrey : Region → ℕ → Kind
  Blacken : (cell cycle : ℕ) → Kind
  LoadStructure : ℕ → Kind
  LoadArray : ℕ → Kind
  LoadSlot : ℕ → ℕ → Kind
  LoadElementOf : ℕ → ℕ → Kind
  LoadAgain : ℕ → Kind
  LoadTarget : ℕ → Kind
  Mark : (cell old cycle : ℕ) → Kind
  -- a raced cell, and cells that are given back
  UnBlacken : (cell cycle : ℕ) → Kind
  PushRace : ℕ → Kind
  Publish : ℕ → ℕ → Kind
  -- sweeping
  ClaimBlock : ℕ → ℕ → ℕ → Kind
  LoadDead : ℕ → Kind
  ZeroWord : Region → ℕ → Kind
  GiveBits : ℕ → ℕ → Kind
  Finish : ℕ → Kind

-- the region of the word that a step is on
abbrev pub region_of : Kind → Region
region_of Split = region.Period
region_of (Join ticket) = region.Period
region_of Activate = region.Period
region_of (StoreStopped period) = region.Stopped
region_of (Retire made) = region.Active
region_of (LoadRegister register) = region.Registers
region_of (StoreRegister register word made) = region.Registers
region_of LoadCall = region.Call
region_of (StoreCall word made) = region.Call
region_of (LoadStrong handle made) = region.Strong
region_of (StoreStrong handle word made) = region.Strong
region_of (LoadWeak handle made) = region.Weak
region_of (StoreWeak handle word made) = region.Weak
region_of (LoadLink cell slot made) = region.Slots
region_of (StoreLink cell slot word made) = region.Slots
region_of (LoadColour cell) = region.Colour
region_of (Regrey cell word cycle) = region.Colour
region_of (PushBit cell) = region.GreyMutator
region_of (LoadFree block) = region.Free
region_of (TakeFree block k made) = region.Free
region_of (StoreBorn cell word) = region.Colour
region_of (LoadPair table place made) = region.Slots
region_of (StorePair table place word made) = region.Slots
region_of (StoreGroup cell word made) = region.Group
region_of (LoadClaim cell made) = region.Claim
region_of (TakeClaim cell who made) = region.Claim
region_of (Release cell made) = region.Claim
region_of (LoadElement array place made) = region.Elements
region_of (StoreElement array place word made) = region.Elements
region_of (TakeArray block k old next made) = region.Free
region_of (Nuke cell word) = region.Structure
region_of (LoadOwnArray cell) = region.Array
region_of (StoreArray cell array) = region.Array
region_of (LoadOwnStructure cell) = region.Structure
region_of (StoreStructure cell word made) = region.Structure
region_of (SwapGrey grey block) = grey
region_of (Blacken cell cycle) = region.Colour
region_of (LoadStructure cell) = region.Structure
region_of (LoadArray cell) = region.Array
region_of (LoadSlot cell slot) = region.Slots
region_of (LoadElementOf array place) = region.Elements
region_of (LoadAgain cell) = region.Structure
region_of (LoadTarget cell) = region.Colour
region_of (Mark cell old cycle) = region.Colour
region_of (UnBlacken cell cycle) = region.Colour
region_of (PushRace cell) = region.GreyRace
region_of (Publish block mask) = region.GreyShared
region_of (ClaimBlock block old cycle) = region.Swept
region_of (LoadDead block) = region.Dead
region_of (ZeroWord at index) = at
region_of (GiveBits block bits) = region.Free
region_of (Finish block) = region.Dead

-- the place of a participant's word in Stopped: mutators come first, and then visitors
abbrev pub index_of_stopped : Layout → ℕ → ℕ
index_of_stopped layout who =
    if nat_lt who layout.mutators then who else layout.mutators + (who - first_visitor)

-- the index of the word there, where this participant steps
abbrev pub index_of : Layout → ℕ → Kind → ℕ
index_of layout who Split = 0
index_of layout who (Join ticket) = 0
index_of layout who Activate = 0
index_of layout who (StoreStopped period) = index_of_stopped layout who
index_of layout who (Retire made) = who
index_of layout who (LoadRegister register) = index_of_register layout who register
index_of layout who (StoreRegister register word made) = index_of_register layout who register
index_of layout who LoadCall = who
index_of layout who (StoreCall word made) = who
index_of layout who (LoadStrong handle made) = handle
index_of layout who (StoreStrong handle word made) = handle
index_of layout who (LoadWeak handle made) = handle
index_of layout who (StoreWeak handle word made) = handle
index_of layout who (LoadLink cell slot made) = index_of_slot layout cell slot
index_of layout who (StoreLink cell slot word made) = index_of_slot layout cell slot
index_of layout who (LoadColour cell) = cell
index_of layout who (Regrey cell word cycle) = cell
index_of layout who (PushBit cell) = block_of_cell cell
index_of layout who (LoadFree block) = block
index_of layout who (TakeFree block k made) = block
index_of layout who (StoreBorn cell word) = cell
index_of layout who (LoadPair table place made) = index_of_slot layout table place
index_of layout who (StorePair table place word made) = index_of_slot layout table place
index_of layout who (StoreGroup cell word made) = cell
index_of layout who (LoadClaim cell made) = cell
index_of layout who (TakeClaim cell holder made) = cell
index_of layout who (Release cell made) = cell
index_of layout who (LoadElement array place made) = index_of_element layout array place
index_of layout who (StoreElement array place word made) = index_of_element layout array place
index_of layout who (TakeArray block k old next made) = block
index_of layout who (Nuke cell word) = cell
index_of layout who (LoadOwnArray cell) = cell
index_of layout who (StoreArray cell array) = cell
index_of layout who (LoadOwnStructure cell) = cell
index_of layout who (StoreStructure cell word made) = cell
index_of layout who (SwapGrey grey block) = block
index_of layout who (Blacken cell cycle) = cell
index_of layout who (LoadStructure cell) = cell
index_of layout who (LoadArray cell) = cell
index_of layout who (LoadSlot cell slot) = index_of_slot layout cell slot
index_of layout who (LoadElementOf array place) = index_of_element layout array place
index_of layout who (LoadAgain cell) = cell
index_of layout who (LoadTarget cell) = cell
index_of layout who (Mark cell old cycle) = cell
index_of layout who (UnBlacken cell cycle) = cell
index_of layout who (PushRace cell) = block_of_cell cell
index_of layout who (Publish block mask) = block
index_of layout who (ClaimBlock block old cycle) = block
index_of layout who (LoadDead block) = block
index_of layout who (ZeroWord at index) = index
index_of layout who (GiveBits block bits) = block
index_of layout who (Finish block) = block

-- the operation on the word
abbrev pub act_of : Kind → Act
act_of Split = Load
act_of (Join ticket) = Load
act_of Activate = Load
act_of (StoreStopped period) = Store period
act_of (Retire made) = Store 0
act_of (LoadRegister register) = Load
act_of (StoreRegister register word made) = Store word
act_of LoadCall = Load
act_of (StoreCall word made) = Store word
act_of (LoadStrong handle made) = Load
act_of (StoreStrong handle word made) = Store word
act_of (LoadWeak handle made) = Load
act_of (StoreWeak handle word made) = Store word
act_of (LoadLink cell slot made) = Load
act_of (StoreLink cell slot word made) = Store word
act_of (LoadColour cell) = Load
act_of (Regrey cell word cycle) = Exchange word (colour_word cycle Grey)
act_of (PushBit cell) = Or (bit_of cell)
act_of (LoadFree block) = Load
act_of (TakeFree block k made) = And (all_but k)
act_of (StoreBorn cell word) = Store word
act_of (LoadPair table place made) = Load
act_of (StorePair table place word made) = Store word
act_of (StoreGroup cell word made) = Store word
act_of (LoadClaim cell made) = Load
act_of (TakeClaim cell who made) = Exchange (claim_word None) (claim_word (Some who))
act_of (Release cell made) = Store (claim_word None)
act_of (LoadElement array place made) = Load
act_of (StoreElement array place word made) = Store word
act_of (TakeArray block k old next made) = And (all_but k)
act_of (Nuke cell word) = Store word
act_of (LoadOwnArray cell) = Load
act_of (StoreArray cell array) = Store (array_word (Some array))
act_of (LoadOwnStructure cell) = Load
act_of (StoreStructure cell word made) = Store word
act_of (SwapGrey grey block) = Swap
act_of (Blacken cell cycle) = Store (colour_word cycle Black)
act_of (LoadStructure cell) = Load
act_of (LoadArray cell) = Load
act_of (LoadSlot cell slot) = Load
act_of (LoadElementOf array place) = Load
act_of (LoadAgain cell) = Load
act_of (LoadTarget cell) = Load
act_of (Mark cell old cycle) = Exchange old (colour_word cycle Grey)
act_of (UnBlacken cell cycle) = Exchange (colour_word cycle Black) (colour_word cycle Grey)
act_of (PushRace cell) = Or (bit_of cell)
act_of (Publish block mask) = Or mask
act_of (ClaimBlock block old cycle) = Exchange old cycle
act_of (LoadDead block) = Load
act_of (ZeroWord at index) = Store 0
act_of (GiveBits block bits) = Or bits
act_of (Finish block) = Store 0

-- what the word becomes
abbrev pub acted : Act → ℕ → ℕ
acted Load read = read
acted (Store word) read = word
acted Swap read = 0
acted (And mask) read = bit_and read mask
acted (Or mask) read = bit_or read mask
acted (Exchange old new) read = if read == old then new else read
