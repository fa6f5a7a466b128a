-- What a frozen heap shows besides its words.
use Rattle.std.specs.Prelude.{ℕ, List, []}
use Rattle.std.specs.Borrow.{MutBor, GName}
use Rattle.atomic_table.specs.Seated.{TableId}
use Rattle.tide_heap.specs.tide_core.declared.machine.view.View.{View}
use Rattle.tide_model.specs.Layout.{Layout}
use Rattle.tide_model.specs.Refused.{ShapeLists}
use Rattle.tide_model.specs.declared.entry.Event.{Event}
use Rattle.tide_table.specs.declared.collector.Collector.{Collector}

-- whose it is: which borrow of the collector, which seat of which table, the collector's view but for what words and
-- entries change, the layout and the shapes
pub record Whose : Type 0 where
  pub borrow : GName
  pub table_id : TableId
  pub seat : ℕ
  pub view : View
  pub layout : Layout
  pub shapes : ShapeLists

-- the rest beside the words: whose it is, the history, and the words at the last entry or where the freeze began
pub record Besides : Type 0 where
  pub whose : Whose
  pub seen : List Event
  pub words_at_entry : List ℕ

-- the collector's view without words and history
abbrev pub bare : View → View
bare v = record v { seen = []; words = []; words_at_entry = [] }

abbrev pub whose : MutBor Collector → Layout → ShapeLists → Whose
whose collector layout shapes = record {
  borrow = collector.ghost_name;
  table_id = collector.now.seat.table_id;
  seat = collector.now.seat.id;
  view = bare collector.now.seat.me.0;
  layout = layout;
  shapes = shapes;
}

abbrev pub besides : MutBor Collector → Layout → ShapeLists → Besides
besides collector layout shapes = record {
  whose = whose collector layout shapes;
  seen = collector.now.seat.me.0.seen;
  words_at_entry = collector.now.seat.me.0.words_at_entry;
}
