-- Retire: a mutator that claims nothing stores 0 to its Active word, and makes no call after that.
use Rattle.std.specs.Prelude.{ℕ, true, [], Option, None, Some}
use Rattle.tide_core.specs.machine.May.{MayCall, called}
use Rattle.tide_core.specs.machine.World.{World}
use Rattle.tide_core.specs.declared.machine.view.View.{View}
use Rattle.tide_model.specs.Layout.{Layout}
use Rattle.tide_model.specs.Refused.{ShapeLists}
use Rattle.tide_model.specs.declared.op.Op.{Op}
use Rattle.tide_model.specs.declared.op.Op.TheVariants.{Retire}
use Rattle.tide_model.specs.declared.op.Reply.TheVariants.{Done}

-- the mutator has left
abbrev pub left_view : View → View
left_view v = record (called [] v) { left = true }

-- a mutator may retire
abbrev pub MayRetire : Layout → ShapeLists → World → ℕ → Option Op → Type 0
MayRetire layout shapes w me (Some Retire) = MayCall layout shapes w me Retire Done None
MayRetire layout shapes w me _ = ⊥
