-- What is stored, gathered from the parts that hold it.
use Rattle.tide_shape.specs.Lists.{lists_of}
use Rattle.tide_plain.specs.declared.stored.contents.Contents.TheInside.{Inside}
use Rattle.tide_plain.specs.stored.Stored.{Stored}

-- all that is stored
abbrev pub parts_of : Inside → Stored
parts_of contents = record {
  layout = contents.layout;
  shapes = lists_of contents.shapes;
  mutators = contents.mutators;
  strong = contents.handles.strong;
  weak = contents.handles.weak;
  are_live = contents.cells.are_live;
  cells = contents.cells.cells;
  statuses = contents.arrays.statuses;
  elements = contents.arrays.elements;
}
