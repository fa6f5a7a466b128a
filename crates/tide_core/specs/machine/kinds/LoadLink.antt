-- Load link: a mutator loads a slot of a cell, and Get sees it.
use Rattle.std.specs.Prelude.{ℕ, ◌≡◌, Option, None, Some}
use Rattle.tide_core.specs.machine.May.{RunsAsMutator, MayCall}
use Rattle.tide_core.specs.machine.Words.{value_of}
use Rattle.tide_core.specs.machine.World.{World}
use Rattle.tide_model.specs.History.{state_after}
use Rattle.tide_model.specs.Layout.{Layout}
use Rattle.tide_model.specs.Refused.{ShapeLists}
use Rattle.tide_model.specs.declared.op.Op.{Op}
use Rattle.tide_model.specs.declared.op.Op.TheVariants.{Get}
use Rattle.tide_model.specs.declared.op.Reply.TheVariants.{Seen}
use Rattle.tide_model.specs.declared.val.Val.TheVariants.{Cell}

-- a slot is loaded, and Get sees it
abbrev pub MayLoadLink : Layout → ShapeLists → World → ℕ → ℕ → ℕ → ℕ → Option Op → Type 0
MayLoadLink layout shapes w me cell slot read None = RunsAsMutator layout w me
MayLoadLink layout shapes w me cell slot read (Some (Get dst src n)) =
    (n ≡ slot) × ((state_after layout w.log).registers me src ≡ Cell cell)
    × MayCall layout shapes w me (Get dst src n) (Seen (value_of read)) None
MayLoadLink layout shapes w me cell slot read (Some _) = ⊥
