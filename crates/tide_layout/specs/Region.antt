-- The regions of a heap's words, and the place of each word.
use Rattle.std.specs.Prelude.{ℕ, ◌≤◌, ◌+◌, ◌*◌, ◌/◌, ◌⊎◌, List, [], ◌∷◌, sum, sum_by, take, Option, None, Some, unwrap_or}
use Rattle.tide_model.specs.Layout.{Layout, cell_count, array_count}
use Rattle.tide_layout.specs.declared.region.Region.{Region}
use Rattle.tide_layout.specs.declared.region.Region.TheVariants.{Period, Phase, Base, Active, Call, Stopped, Registers, Strong, Weak, Colour, Structure, Array, Claim, Group, Slots, Elements, Free, Dead, GreyShared, GreyMutator, GreyRace, Swept}
use Rattle.tide_layout.specs.Slots.{words_before_cell, words_before_array, index_of_slot, index_of_element}

-- all regions, in the order in which their words stand
abbrev pub regions : List Region
regions = Period ∷ Phase ∷ Base ∷ Active ∷ Call ∷ Stopped ∷ Registers ∷ Strong ∷ Weak ∷ Colour ∷ Structure ∷ Array ∷ Claim ∷ Group
    ∷ Slots ∷ Elements ∷ Free ∷ Dead ∷ GreyShared ∷ GreyMutator ∷ GreyRace ∷ Swept ∷ []

-- how many regions stand before this one
abbrev pub tag : Region → ℕ
tag Period = 0
tag Phase = 1
tag Base = 2
tag Active = 3
tag Call = 4
tag Stopped = 5
tag Registers = 6
tag Strong = 7
tag Weak = 8
tag Colour = 9
tag Structure = 10
tag Array = 11
tag Claim = 12
tag Group = 13
tag Slots = 14
tag Elements = 15
tag Free = 16
tag Dead = 17
tag GreyShared = 18
tag GreyMutator = 19
tag GreyRace = 20
tag Swept = 21

-- how many blocks of cells there are
abbrev pub cell_block_count : Layout → ℕ
cell_block_count layout = sum layout.cell_blocks

-- how many blocks there are: those of cells, and then those of arrays
abbrev pub block_count : Layout → ℕ
block_count layout = sum layout.cell_blocks + sum layout.array_blocks

-- how many words a region has
abbrev pub size_of : Layout → Region → ℕ
size_of layout Period = 1
size_of layout Phase = 1
size_of layout Base = 1
size_of layout Active = layout.mutators
size_of layout Call = layout.mutators
size_of layout Stopped = layout.mutators + layout.visitors
size_of layout Registers = layout.mutators * layout.registers
size_of layout Strong = layout.strong
size_of layout Weak = layout.weak
size_of layout Colour = cell_count layout
size_of layout Structure = cell_count layout
size_of layout Array = cell_count layout
size_of layout Claim = cell_count layout
size_of layout Group = cell_count layout
size_of layout Slots = words_before_cell layout (cell_count layout)
size_of layout Elements = words_before_array layout (array_count layout)
size_of layout Free = block_count layout
size_of layout Dead = block_count layout
size_of layout GreyShared = cell_block_count layout
size_of layout GreyMutator = cell_block_count layout
size_of layout GreyRace = cell_block_count layout
size_of layout Swept = block_count layout

-- the participant whose own a word is, mutators first and then visitors; the others are nobody's own
abbrev pub owner_of : Layout → Region → ℕ → Option ℕ
owner_of layout Active index = Some index
owner_of layout Call index = Some index
owner_of layout Stopped index = Some index
owner_of layout Registers index = Some (index / layout.registers)
owner_of layout _ index = None

-- how many participants have words of their own in a region
abbrev pub owners_in : Layout → Region → ℕ
owners_in layout Active = layout.mutators
owners_in layout Call = layout.mutators
owners_in layout Stopped = layout.mutators + layout.visitors
owners_in layout Registers = layout.mutators
owners_in layout _ = 0

-- how many words that say nothing lie behind the words of each participant in a region, and behind each region: 128
-- bytes, which is two lines of a processor's cache
abbrev pub gap : ℕ
gap = 16

-- how many words a region takes, with its gaps
abbrev pub room_of : Layout → Region → ℕ
room_of layout region = size_of layout region + gap * (owners_in layout region + 1)

-- where a region begins: after all regions before it
unfoldable pub base_of : Layout → Region → ℕ
base_of layout region = sum_by (room_of layout) (take (tag region) regions)

-- how many words there are, with those in the gaps
unfoldable pub word_count : Layout → ℕ
word_count layout = sum_by (room_of layout) regions

-- how many gaps lie before a word in its region: as many as there are participants before its owner
abbrev pub gaps_before : Layout → Region → ℕ → ℕ
gaps_before layout region index = unwrap_or (owner_of layout region index) 0

-- the place of a region's word
unfoldable pub place_in : Layout → Region → ℕ → ℕ
place_in layout region index = base_of layout region + index + gap * gaps_before layout region index

-- no 64 bytes hold the words of both places, wherever they begin
abbrev pub AreApart : ℕ → ℕ → Type 0
AreApart one other = (one + 8 ≤ other) ⊎ (other + 8 ≤ one)

-- the place of a cell's slot, or of a table's pair
abbrev pub place_of_slot : Layout → ℕ → ℕ → ℕ
place_of_slot layout cell slot = place_in layout Slots (index_of_slot layout cell slot)

-- the place of an array's element
abbrev pub place_of_element : Layout → ℕ → ℕ → ℕ
place_of_element layout array element = place_in layout Elements (index_of_element layout array element)

-- where among the words of all registers a mutator's register lies
abbrev pub index_of_register : Layout → ℕ → ℕ → ℕ
index_of_register layout mutator register = mutator * layout.registers + register
