-- A member that rests.
use Rattle.std.specs.Prelude.{◌≡◌, ◌<◌, false}
use Rattle.atomic_table.specs.Seated.{TableId}
use Rattle.tide_model.specs.Layout.{Layout}
use Rattle.tide_mutator.specs.calls.Viewed.{table_of, view_of}
use Rattle.tide_server.specs.AtWork.{IsParked}
use Rattle.tide_server.specs.Members.{IsMemberOf}
use Rattle.tide_server.specs.declared.resting.Resting.{Resting}

-- It is a member of the heap with this layout and this table, which has a seat of this table of hands, and it hasn't
-- left. (It has begun no part, as its type says.)
pub record IsRestingOf (layout : Layout) (heap hands : TableId) (r : Resting) : Type 0 where
  pub of : IsMemberOf layout heap hands r.member
  pub stays : (view_of r.member.mutator).left ≡ false

-- The same by facts alone, as a lock keeps it.
pub record LiesThere (layout : Layout) (heap hands : TableId) (r : Resting) : Type 0 where
  pub table : table_of r.member.mutator ≡ heap
  pub seated : r.member.seat.seat.table_id ≡ hands
  pub named : r.member.seat.seat.me.0.name ≡ record { layout = layout; table_id = heap }
  pub is_mutator : (view_of r.member.mutator).who < layout.mutators
  pub parked : IsParked (view_of r.member.mutator)
  pub stays : (view_of r.member.mutator).left ≡ false
