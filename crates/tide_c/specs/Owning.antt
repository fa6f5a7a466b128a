-- What a handle owns.
use Rattle.std.specs.Prelude.{ℕ, zero, suc, ◌≡◌, Option, None, Some}
use Rattle.std.specs.Box.Ownership.{box_owns}
use Rattle.std.specs.contracts.impls.GlobalAllocator.TheImpl.{ghosts}
use Rattle.std.specs.declared.alloc.Global.{Global}
use base.Fml.{Fml, fex, ftrue}
use denote.RattleType.{RattleType}
use denote.RawPtr.{Ptr}
use mir.Syntax.{Ty}

-- what the allocator of all boxes here gives back: a block of a type at a place
abbrev pub token : Ty → Ptr → Fml
token = ghosts.dealloc_token (let alloc : Global = record { memory = record { seal = tt } } in alloc)

-- Nothing, where its mark is 0: it is empty then. Else what a box of its value does, and the value is as it has to be.
abbrev pub handle_owns : (R : RattleType) → (R.Denot → Type 0) → ℕ → Ptr → Option R.Denot → Fml
handle_owns R Stands zero at value = fex (value ≡ None) (λ _. ftrue)
handle_owns R Stands (suc _) at value = fex R.Denot (λ x. fex (value ≡ Some x) (λ _. fex (Stands x) (λ _.
    box_owns token R at x)))
