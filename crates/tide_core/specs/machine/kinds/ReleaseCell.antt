-- Release: a mutator stores 0 to the claim word of a cell that it claims.
use Rattle.std.specs.Prelude.{ℕ, ◌≡◌, ◌∷◌, List, Option, None, Some}
use Rattle.tide_core.specs.machine.May.{MayCall}
use Rattle.tide_core.specs.machine.World.{World}
use Rattle.tide_model.specs.History.{state_after}
use Rattle.tide_model.specs.Layout.{Layout}
use Rattle.tide_model.specs.Refused.{ShapeLists}
use Rattle.tide_model.specs.declared.op.Op.{Op}
use Rattle.tide_model.specs.declared.op.Op.TheVariants.{Release, Unclaim}
use Rattle.tide_model.specs.declared.op.Reply.TheVariants.{Done}
use Rattle.tide_model.specs.declared.val.Val.TheVariants.{Cell}

-- the claim that is given back is the one in the register, or the oldest
abbrev pub MayRelease : Layout → ShapeLists → World → ℕ → ℕ → Option Op → Type 0
MayRelease layout shapes w me cell (Some (Release src)) =
    ((state_after layout w.log).registers me src ≡ Cell cell) × MayCall layout shapes w me (Release src) Done None
MayRelease layout shapes w me cell (Some Unclaim) =
    ((others : List ℕ) × ((state_after layout w.log).claims me ≡ cell ∷ others))
    × MayCall layout shapes w me Unclaim Done None
MayRelease layout shapes w me cell _ = ⊥
