-- What carrying out an action writes and answers, told by words alone.
use Rattle.std.specs.Prelude.{ℕ, ◌≡◌, ◌+◌, ◌%◌, ◌<◌, true, false, Option, None, Some}
use Rattle.tide_words.specs.tide_block.Bits.{IsSet}
use Rattle.tide_words.specs.tide_layout.declared.region.Region.TheVariants as region
use Rattle.tide_words.specs.tide_layout.Slots.{index_of_element, index_of_slot}
use Rattle.tide_model.specs.declared.op.Refusal.TheVariants.{ClaimsFull, Full, Held}
use Rattle.tide_model.specs.declared.op.Reply.{Reply}
use Rattle.tide_model.specs.declared.op.Reply.TheVariants.{Asked, Born, Done, Refused, Seen}
use Rattle.tide_model.specs.Layout.{IsBlockOf, Layout, array_count, block_of_array, block_of_cell, cell_count}
use Rattle.tide_words.specs.forms.PairWord.{pair_word}
use Rattle.tide_words.specs.forms.Reference.{claim_word}
use Rattle.tide_words.specs.forms.ValueWord.{val_word}
use Rattle.tide_words.specs.heap.Heap.{Heap}
use Rattle.tide_words.specs.heap.Reading.{IsValueOf, element_word, slot_word}
use Rattle.tide_words.specs.heap.Written.{IsWritten}
use Rattle.tide_call.specs.declared.action.Action.{Action}
use Rattle.tide_call.specs.declared.action.Action.TheVariants as action
use Rattle.tide_call.specs.CallWords.{Bears, Fills, IsUnwritten}
use Rattle.tide_call.specs.Grown.{IsGrown}
use Rattle.tide_call.specs.ShapeWord.{whole_word}

-- the cell is one of the class, and its free bit is set
pub record IsFreeCellIn (layout : Layout) (heap : Heap) (class cell : ℕ) : Type 0 where
  pub within : cell < cell_count layout
  pub of_class : IsBlockOf layout class (block_of_cell cell)
  pub free_bit : IsSet (heap region.Free (block_of_cell cell)) (cell % 64)

-- the array is one of the class, and its free bit is set
pub record IsFreeArrayIn (layout : Layout) (heap : Heap) (class array : ℕ) : Type 0 where
  pub within : array < array_count layout
  pub of_class : IsBlockOf layout class (block_of_array layout array)
  pub free_bit : IsSet (heap region.Free (block_of_array layout array)) (array % 64)

-- who carries out the action gives this reply, takes this array or none, and writes the words that give the new heap
abbrev pub ActionWords : Layout → Heap → ℕ → Action → Reply → Option ℕ → Heap → Type 0
ActionWords layout heap who (action.Refuse refusal) (Refused other) took new =
    (took ≡ None) × (other ≡ refusal) × IsUnwritten layout heap new
ActionWords layout heap who (action.Allocate dst class) (Born cell) took new =
    (took ≡ None) × IsFreeCellIn layout heap class cell × Bears layout heap who dst cell new
ActionWords layout heap who (action.Allocate dst class) (Refused (Full full)) took new =
    (took ≡ None) × (full ≡ class) × IsUnwritten layout heap new
ActionWords layout heap who (action.LoadSlot dst cell slot) (Seen value) took new =
    (took ≡ None) × IsValueOf value (slot_word layout heap cell slot) × Fills layout heap who dst value new
ActionWords layout heap who (action.StoreSlot cell slot value) Done took new =
    (took ≡ None) × IsWritten layout heap new region.Slots (index_of_slot layout cell slot) (val_word value)
ActionWords layout heap who (action.Fill dst value) Done took new = (took ≡ None) × Fills layout heap who dst value new
ActionWords layout heap who (action.Show dst table place value) (Seen seen) took new =
    (took ≡ None) × (seen ≡ value) × Fills layout heap who dst value new
ActionWords layout heap who (action.Claim cell full) (Refused (Held holder)) took new =
    (took ≡ None) × (heap region.Claim cell ≡ claim_word (Some holder)) × IsUnwritten layout heap new
ActionWords layout heap who (action.Claim cell full) (Refused ClaimsFull) took new =
    (took ≡ None) × (heap region.Claim cell ≡ claim_word None) × (full ≡ true) × IsUnwritten layout heap new
ActionWords layout heap who (action.Claim cell full) Done took new =
    (took ≡ None) × (heap region.Claim cell ≡ claim_word None) × (full ≡ false)
    × IsWritten layout heap new region.Claim cell (claim_word (Some who))
ActionWords layout heap who (action.Release cell) Done took new =
    (took ≡ None) × IsWritten layout heap new region.Claim cell (claim_word None)
ActionWords layout heap who (action.LoadElement dst array place) (Seen value) took new =
    (took ≡ None) × IsValueOf value (element_word layout heap array place) × Fills layout heap who dst value new
ActionWords layout heap who (action.StoreElement cell array place value) Done took new =
    (took ≡ None) × IsWritten layout heap new region.Elements (index_of_element layout array place) (val_word value)
ActionWords layout heap who (action.Append addition array value) Done took new =
    (took ≡ None) × ((stored : Heap)
    × IsWritten layout heap stored region.Elements (index_of_element layout array addition.count) (val_word value)
    × IsWritten layout stored new region.Structure addition.cell (whole_word addition.next (addition.count + 1)))
ActionWords layout heap who (action.Grow addition array class value) Done (Some taken) new =
    IsFreeArrayIn layout heap class taken
    × IsGrown layout heap new addition.cell taken array addition.count addition.next value
ActionWords layout heap who (action.Grow addition array class value) (Refused (Full full)) took new =
    (took ≡ None) × (full ≡ class) × IsUnwritten layout heap new
ActionWords layout heap who (action.StoreStrong at value) Done took new =
    (took ≡ None) × IsWritten layout heap new region.Strong at (val_word value)
ActionWords layout heap who (action.LoadStrong dst at) (Seen value) took new =
    (took ≡ None) × IsValueOf value (heap region.Strong at) × Fills layout heap who dst value new
ActionWords layout heap who (action.StoreWeak at value) Done took new =
    (took ≡ None) × IsWritten layout heap new region.Weak at (val_word value)
ActionWords layout heap who (action.LoadWeak dst at) (Seen value) took new =
    (took ≡ None) × IsValueOf value (heap region.Weak at) × Fills layout heap who dst value new
ActionWords layout heap who (action.StorePair table place key value) Done took new =
    (took ≡ None) × IsWritten layout heap new region.Slots (index_of_slot layout table place) (pair_word key value)
ActionWords layout heap who (action.ClearPair table place) Done took new =
    (took ≡ None) × IsWritten layout heap new region.Slots (index_of_slot layout table place) 0
ActionWords layout heap who (action.Join cell group) Done took new =
    (took ≡ None) × IsWritten layout heap new region.Group cell group
ActionWords layout heap who action.Ask Asked took new = (took ≡ None) × IsUnwritten layout heap new
ActionWords layout heap who action.Retire Done took new = (took ≡ None) × IsWritten layout heap new region.Active who 0
ActionWords layout heap who _ reply took new = ⊥
