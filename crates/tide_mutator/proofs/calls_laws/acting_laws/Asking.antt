-- What an action is that is none of some others.
use Rattle.std.proofs.Common.{ℕ, ◌≡◌, refl, Bool, true}
use Rattle.tide_mutator.specs.calls.Actions.{is_acted, is_rest}
use Rattle.tide_heap.specs.tide_call.declared.action.Addition.{Addition}
use Rattle.tide_heap.specs.tide_call.declared.action.Action.{Action}
use Rattle.tide_heap.specs.tide_call.declared.action.Action.TheVariants as action
use Rattle.tide_model.specs.declared.op.Refusal.{Refusal}
use Rattle.tide_model.specs.declared.val.Val.{Val}

-- an action that is carried out and is none of these is one of the rest
pub rests_else : (does : Action) → is_acted does ≡ true → ((r : Refusal) → does ≡ action.Refuse r → ⊥) →
    ((dst class : ℕ) → does ≡ action.Allocate dst class → ⊥) →
    ((dst cell slot : ℕ) → does ≡ action.LoadSlot dst cell slot → ⊥) →
    ((cell slot : ℕ) (value : Val) → does ≡ action.StoreSlot cell slot value → ⊥) →
    ((dst : ℕ) (value : Val) → does ≡ action.Fill dst value → ⊥) →
    ((cell : ℕ) (full : Bool) → does ≡ action.Claim cell full → ⊥) →
    ((cell : ℕ) → does ≡ action.Release cell → ⊥) →
    ((dst array place : ℕ) → does ≡ action.LoadElement dst array place → ⊥) →
    ((cell array place : ℕ) (value : Val) → does ≡ action.StoreElement cell array place value → ⊥) →
    ((addition : Addition) (array : ℕ) (value : Val) → does ≡ action.Append addition array value → ⊥) → is_rest does ≡ true
rests_else (action.Refuse r) is a b c d e f g h i j = absurd (a r refl)
rests_else (action.Allocate dst class) is a b c d e f g h i j = absurd (b dst class refl)
rests_else (action.LoadSlot dst cell slot) is a b c d e f g h i j = absurd (c dst cell slot refl)
rests_else (action.StoreSlot cell slot value) is a b c d e f g h i j = absurd (d cell slot value refl)
rests_else (action.Fill dst value) is a b c d e f g h i j = absurd (e dst value refl)
rests_else (action.Claim cell full) is a b c d e f g h i j = absurd (f cell full refl)
rests_else (action.Release cell) is a b c d e f g h i j = absurd (g cell refl)
rests_else (action.LoadElement dst array place) is a b c d e f g h i j = absurd (h dst array place refl)
rests_else (action.StoreElement cell array place value) is a b c d e f g h i j = absurd (i cell array place value refl)
rests_else (action.Append addition array value) is a b c d e f g h i j = absurd (j addition array value refl)
rests_else (action.StoreStrong at value) is a b c d e f g h i j = refl
rests_else (action.LoadStrong dst at) is a b c d e f g h i j = refl
rests_else (action.StoreWeak at value) is a b c d e f g h i j = refl
rests_else (action.LoadWeak dst at) is a b c d e f g h i j = refl
rests_else (action.StorePair table place key value) is a b c d e f g h i j = refl
rests_else (action.ClearPair table place) is a b c d e f g h i j = refl
rests_else (action.Show dst table place value) is a b c d e f g h i j = refl
rests_else (action.Join cell group) is a b c d e f g h i j = refl
rests_else action.Retire is a b c d e f g h i j = refl
rests_else action.Ask is a b c d e f g h i j = refl
rests_else does is a b c d e f g h i j = absurd (cc)

-- an action of the rest that is none of these asks for a cycle
pub asks_else : (does : Action) → is_rest does ≡ true → ((at : ℕ) (value : Val) → does ≡ action.StoreStrong at value → ⊥) →
    ((dst at : ℕ) → does ≡ action.LoadStrong dst at → ⊥) →
    ((at : ℕ) (value : Val) → does ≡ action.StoreWeak at value → ⊥) →
    ((dst at : ℕ) → does ≡ action.LoadWeak dst at → ⊥) →
    ((table place key : ℕ) (value : Val) → does ≡ action.StorePair table place key value → ⊥) →
    ((table place : ℕ) → does ≡ action.ClearPair table place → ⊥) →
    ((dst table place : ℕ) (value : Val) → does ≡ action.Show dst table place value → ⊥) →
    ((cell group : ℕ) → does ≡ action.Join cell group → ⊥) →
    (does ≡ action.Retire → ⊥) → does ≡ action.Ask
asks_else action.Ask is a b c d e f g h i = refl
asks_else (action.StoreStrong at value) is a b c d e f g h i = absurd (a at value refl)
asks_else (action.LoadStrong dst at) is a b c d e f g h i = absurd (b dst at refl)
asks_else (action.StoreWeak at value) is a b c d e f g h i = absurd (c at value refl)
asks_else (action.LoadWeak dst at) is a b c d e f g h i = absurd (d dst at refl)
asks_else (action.StorePair table place key value) is a b c d e f g h i = absurd (e table place key value refl)
asks_else (action.ClearPair table place) is a b c d e f g h i = absurd (f table place refl)
asks_else (action.Show dst table place value) is a b c d e f g h i = absurd (g dst table place value refl)
asks_else (action.Join cell group) is a b c d e f g h i = absurd (h cell group refl)
asks_else action.Retire is a b c d e f g h i = absurd (i refl)
asks_else does is a b c d e f g h i = absurd (cc)
