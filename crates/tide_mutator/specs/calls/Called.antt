-- What a mutator's view is after a call.
use Rattle.std.specs.Prelude.{◌≡◌, ◌≤◌, ◌+◌, Bool, true, false}
use Rattle.tide_mutator.specs.owed.Calling.{kept}
use Rattle.tide_mutator.specs.owed.Standing.{claims_of}
use Rattle.tide_heap.specs.tide_core.machine.May.{IsBetweenCalls}
use Rattle.tide_heap.specs.tide_core.declared.machine.view.View.{View}
use Rattle.tide_heap.specs.tide_core.machine.kinds.TakeFree.{TakesCell}
use Rattle.tide_model.specs.Caller.{MakesCall}
use Rattle.tide_model.specs.Layout.{Layout}
use Rattle.tide_model.specs.Refused.{ShapeLists}
use Rattle.tide_model.specs.Script.{is_retire}
use Rattle.tide_model.specs.declared.op.Op.{Op}
use Rattle.tide_model.specs.declared.op.Op.TheVariants.{Claim, Release, Retire, Unclaim}
use Rattle.tide_model.specs.declared.op.Reply.{Reply}
use Rattle.tide_model.specs.declared.op.Reply.TheVariants.{Done}

-- the operations that take or end a claim
abbrev pub is_of_claims : Op → Bool
is_of_claims (Claim src) = true
is_of_claims (Release src) = true
is_of_claims Unclaim = true
is_of_claims _ = false

-- A mutator made a call: with the entry it stands between two calls again, and of its view nothing else changed but
-- what tells births, and that it left. One that takes no cell has no birth, and one that isn't of claims leaves those
-- that it has.
pub record HasCalled (layout : Layout) (shapes : ShapeLists) (op : Op) (reply : Reply) (v u : View) : Type 0 where
  pub makes : MakesCall layout shapes v.who op reply v.seen u.seen v.mine u.mine
  pub kept : kept u ≡ kept v
  pub between : IsBetweenCalls u
  pub left : is_retire op ≡ false → u.left ≡ v.left
  pub gone : op ≡ Retire → (u.left ≡ true) × (reply ≡ Done)
  pub born : u.born ≤ v.born + 1
  pub none_born : (TakesCell op → ⊥) → u.born ≡ v.born
  pub claims : is_of_claims op ≡ false → claims_of u ≡ claims_of v
