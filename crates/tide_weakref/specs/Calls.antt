-- A realm's mutator, which makes its calls: when it may make one, and what its view is after some.
use Rattle.std.specs.Prelude.{◌≡◌, ◌<◌, ℕ, Bool, true, false, List}
use Rattle.atomic_table.specs.Seated.{TableId}
use Rattle.tide_heap.specs.tide_core.declared.machine.view.View.{View}
use Rattle.tide_model.specs.Caller.{MakesCall}
use Rattle.tide_model.specs.Layout.{Layout}
use Rattle.tide_model.specs.Refused.{ShapeLists}
use Rattle.tide_model.specs.declared.entry.Event.{Event}
use Rattle.tide_model.specs.declared.op.Op.{Op}
use Rattle.tide_model.specs.declared.op.Op.TheVariants.{Get, Move, Drop, StrongSet, WeakSet, WeakGet}
use Rattle.tide_model.specs.declared.op.Reply.{Reply}
use Rattle.tide_mutator.specs.calls.Viewed.{table_of, view_of}
use Rattle.tide_mutator.specs.declared.calls.mutator.Mutator.{Mutator}
use Rattle.tide_mutator.specs.owed.Calling.{kept}
use Rattle.tide_mutator.specs.owed.Standing.{claims_of}

-- the mutator may make a call on a heap with this table and layout: it has begun a part, and hasn't retired
pub record IsRunning (id : TableId) (layout : Layout) (mutator : Mutator) : Type 0 where
  pub own : table_of mutator ≡ id
  pub is_mutator : (view_of mutator).who < layout.mutators
  pub begun : (view_of mutator).runs ≡ true
  pub stays : (view_of mutator).left ≡ false

-- an operation that a realm makes of its own: it stores into no cell, and takes none
abbrev pub is_of_realm : Op → Bool
is_of_realm (Get dst src slot) = true
is_of_realm (Move dst src) = true
is_of_realm (Drop dst) = true
is_of_realm (StrongSet at val) = true
is_of_realm (WeakSet at val) = true
is_of_realm (WeakGet dst at) = true
is_of_realm _ = false

-- a mutator made some calls that a realm makes of its own, one after another
pub data MakesCalls (layout : Layout) (shapes : ShapeLists) (who : ℕ) (seen mine : List Event)
    : List Event → List Event → Type 0 where
  none : MakesCalls layout shapes who seen mine seen mine
  more : (op : Op) (reply : Reply) {old_seen old_mine new_seen new_mine : List Event} →
      MakesCalls layout shapes who seen mine old_seen old_mine → is_of_realm op ≡ true →
      MakesCall layout shapes who op reply old_seen new_seen old_mine new_mine →
      MakesCalls layout shapes who seen mine new_seen new_mine

-- A mutator made calls that a realm makes of its own, none of which has a birth: of its view nothing else changed.
pub record HasCalled (layout : Layout) (shapes : ShapeLists) (v u : View) : Type 0 where
  pub makes : MakesCalls layout shapes v.who v.seen v.mine u.seen u.mine
  pub kept : kept u ≡ kept v
  pub stays : u.left ≡ v.left
  pub births : u.born ≡ v.born
  pub claims : claims_of u ≡ claims_of v
