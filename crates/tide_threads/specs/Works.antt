-- A mutator while it makes its share of a part.
use Rattle.std.specs.Prelude.{ℕ, ◌≡◌, ◌<◌, ◌-◌, ◌^◌, Bool, true, false}
use Rattle.atomic_table.specs.Seated.{TableId}
use Rattle.tide_mutator.specs.owed.Calling.{Kept, kept}
use Rattle.tide_heap.specs.tide_core.declared.machine.view.View.{View}
use Rattle.tide_model.specs.Layout.{Layout}
use Rattle.tide_mutator.specs.calls.Viewed.{seat_of, table_of, view_of}
use Rattle.tide_mutator.specs.declared.calls.mutator.Mutator.{Mutator}

-- a mutator that has begun, and has left for good or hasn't
pub record IsWorking (layout : Layout) (v : View) (left : Bool) : Type 0 where
  pub is_mutator : v.who < layout.mutators
  pub runs : v.runs ≡ true
  pub stays : v.left ≡ left

-- how many calls a mutator may make, so that births stay below 2^32: after it has left nothing counts them
abbrev pub room_by : Bool → ℕ → ℕ
room_by true born = 2 ^ 32
room_by false born = 2 ^ 32 - 1 - born

abbrev pub room_of : View → ℕ
room_of v = room_by v.left v.born

-- what none of its calls changes: its table, its seat there, and of its view what stays
pub record Same : Type 0 where
  pub table_id : TableId
  pub seat : ℕ
  pub kept : Kept

abbrev pub same_of : Mutator → Same
same_of mutator = record {
  table_id = table_of mutator;
  seat = seat_of mutator;
  kept = kept (view_of mutator);
}
