-- A helper of a standing heap: a visitor between two of its calls.
use Rattle.std.specs.Prelude.{◌≡◌, ◌≤◌}
use Rattle.atomic_table.specs.Seated.{TableId}
use Rattle.tide_model.specs.Layout.{Layout, cell_count}
use Rattle.tide_posts.specs.Name.{who_at}
use Rattle.tide_server.specs.declared.helper.Helper.{Helper}
use Rattle.tide_visitor.specs.Viewed.{stack_room_of, table_of, view_of}
use Rattle.tide_visitor.specs.Visits.{IsVisitorOf}

-- a visitor of the heap with this layout and this table, which has a seat of this table of hands, and room on its stack
-- for each cell
pub record IsHelperOf (layout : Layout) (heap hands : TableId) (h : Helper) : Type 0 where
  pub table : table_of h.visitor ≡ heap
  pub seated : h.seat.seat.table_id ≡ hands
  pub named : h.seat.seat.me.0.name ≡ record { layout = layout; table_id = heap }
  pub is_visitor : IsVisitorOf layout (view_of h.visitor)
  pub behind : layout.mutators ≤ h.seat.place
  pub who : (view_of h.visitor).who ≡ who_at layout h.seat.place
  pub room : cell_count layout ≤ stack_room_of h.visitor
