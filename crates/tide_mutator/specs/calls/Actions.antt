-- The actions that are carried out.
use Rattle.std.specs.Prelude.{Bool, true, false}
use Rattle.tide_heap.specs.tide_call.declared.action.Action.{Action}
use Rattle.tide_heap.specs.tide_call.declared.action.Action.TheVariants as action

-- all but one that adds a property in an array that is still to be taken
abbrev pub is_acted : Action → Bool
is_acted (action.Refuse refusal) = true
is_acted (action.Allocate dst class) = true
is_acted (action.LoadSlot dst cell slot) = true
is_acted (action.StoreSlot cell slot value) = true
is_acted (action.Fill dst value) = true
is_acted (action.Claim cell full) = true
is_acted (action.Release cell) = true
is_acted (action.StoreStrong at value) = true
is_acted (action.LoadStrong dst at) = true
is_acted (action.StoreWeak at value) = true
is_acted (action.LoadWeak dst at) = true
is_acted (action.LoadElement dst array place) = true
is_acted (action.StoreElement cell array place value) = true
is_acted (action.Append addition array value) = true
is_acted (action.StorePair table place key value) = true
is_acted (action.ClearPair table place) = true
is_acted (action.Show dst table place value) = true
is_acted (action.Join cell group) = true
is_acted action.Ask = true
is_acted action.Retire = true
is_acted _ = false

-- of these the actions of handles, of pairs and of groups, and those to retire and to ask for a cycle
abbrev pub is_rest : Action → Bool
is_rest (action.StoreStrong at value) = true
is_rest (action.LoadStrong dst at) = true
is_rest (action.StoreWeak at value) = true
is_rest (action.LoadWeak dst at) = true
is_rest (action.StorePair table place key value) = true
is_rest (action.ClearPair table place) = true
is_rest (action.Show dst table place value) = true
is_rest (action.Join cell group) = true
is_rest action.Ask = true
is_rest action.Retire = true
is_rest _ = false
