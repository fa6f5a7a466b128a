-- An action that is no growth is carried out without one.
use Rattle.std.proofs.Common.{ℕ, ◌≡◌, refl, true, Option}
use Rattle.tide_mutator.specs.calls.Actions.{is_acted}
use Rattle.tide_heap.specs.tide_call.declared.action.Addition.{Addition}
use Rattle.tide_heap.specs.tide_call.declared.action.Action.{Action}
use Rattle.tide_heap.specs.tide_call.declared.action.Action.TheVariants as action
use Rattle.tide_model.specs.declared.val.Val.{Val}

pub acted_else : (does : Action) →
    ((addition : Addition) (array : Option ℕ) (class : ℕ) (value : Val) → does ≡ action.Grow addition array class value → ⊥) →
    is_acted does ≡ true
acted_else (action.Refuse refusal) other = refl
acted_else (action.Allocate dst class) other = refl
acted_else (action.LoadSlot dst cell slot) other = refl
acted_else (action.StoreSlot cell slot value) other = refl
acted_else (action.Fill dst value) other = refl
acted_else (action.Claim cell full) other = refl
acted_else (action.Release cell) other = refl
acted_else (action.StoreStrong at value) other = refl
acted_else (action.LoadStrong dst at) other = refl
acted_else (action.StoreWeak at value) other = refl
acted_else (action.LoadWeak dst at) other = refl
acted_else (action.LoadElement dst array place) other = refl
acted_else (action.StoreElement cell array place value) other = refl
acted_else (action.Append addition array value) other = refl
acted_else (action.Grow addition array class value) other = absurd (other addition array class value refl)
acted_else (action.StorePair table place key value) other = refl
acted_else (action.ClearPair table place) other = refl
acted_else (action.Show dst table place value) other = refl
acted_else (action.Join cell group) other = refl
acted_else action.Ask other = refl
acted_else action.Retire other = refl
