-- Which roots a list has: those of a state, as far as they were read.
use Rattle.std.specs.Prelude.{ℕ, ◌≡◌, ◌⊎◌, ◌↔◌, ◌<◌, true, List, Contains, Some}
use Rattle.tide_model.specs.declared.val.Val.{Val}
use Rattle.tide_model.specs.declared.val.Val.TheVariants.{Cell}
use Rattle.tide_model.specs.Layout.{Layout}
use Rattle.tide_model.specs.State.{State}
use Rattle.tide_words.specs.forms.Reference.{claim_word}
use Rattle.tide_retained.specs.declared.contents.Rooted.{Rooted}
use Rattle.tide_retained.specs.declared.root.Root.{Root}
use Rattle.tide_retained.specs.declared.root.Root.TheVariants.{Register, Claim, Strong}
use Rattle.tide_retained.specs.Holding.{rooted}
use Rattle.tide_retained.specs.Path.{Holds}

-- the list has these roots more, and no others
abbrev pub AddsRoots : (Rooted → Type 0) → List Rooted → List Rooted → Type 0
AddsRoots more old new = (root : Rooted) → Contains new root ↔ (Contains old root ⊎ more root)

-- the root, where the value is the cell that it holds
abbrev pub IsNamedRoot : Root → Val → Rooted → Type 0
IsNamedRoot root value held = (held.root ≡ root) × (value ≡ Cell held.cell)

-- one of a mutator's first so many registers
abbrev pub IsRegisterRoot : State → ℕ → ℕ → Rooted → Type 0
IsRegisterRoot state who count held = (register : ℕ) × (register < count) × (held.root ≡ Register who register) × (state.registers who register ≡ Cell held.cell)

-- a register of a mutator, if it is active
abbrev pub IsOwnRoot : Layout → State → ℕ → Rooted → Type 0
IsOwnRoot layout state who held = (state.active who ≡ true) × IsRegisterRoot state who layout.registers held

-- a register of one of the first so many mutators, which is active
abbrev pub IsActiveRoot : Layout → State → ℕ → Rooted → Type 0
IsActiveRoot layout state count held = (who : ℕ) × (who < count) × IsOwnRoot layout state who held

-- a mutator's claim of a cell
abbrev pub IsClaimOf : State → ℕ → Rooted → Type 0
IsClaimOf state cell held = (who : ℕ) × (held.root ≡ Claim who) × Contains (state.claims who) cell × (held.cell ≡ cell)

-- a claim of one of the first so many cells
abbrev pub IsClaimRoot : State → ℕ → Rooted → Type 0
IsClaimRoot state count held = (who : ℕ) × (held.root ≡ Claim who) × Contains (state.claims who) held.cell × (held.cell < count)

-- the claim of a cell that a word is of
abbrev pub IsClaimWordRoot : ℕ → ℕ → Rooted → Type 0
IsClaimWordRoot cell word held = (who : ℕ) × (who < 256) × (held.root ≡ Claim who) × (claim_word (Some who) ≡ word) × (held.cell ≡ cell)

-- one of the first so many strong handles
abbrev pub IsStrongRoot : State → ℕ → Rooted → Type 0
IsStrongRoot state count held = (handle : ℕ) × (handle < count) × (held.root ≡ Strong handle) × (state.strong handle ≡ Cell held.cell)

-- the list has the roots of the state, each with the cell that it holds, and no others
abbrev pub AreRootsOf : State → List Rooted → Type 0
AreRootsOf state roots = (root : Root) (cell : ℕ) → Contains roots (rooted root cell) ↔ Holds state root cell
