use Rattle.std.proofs.Common.{◌≡◌, ◌≤◌}
use Rattle.std.specs.Prelude.{◌==◌, ◌&&◌}
use Rattle.tide_model.specs.Layout.{class_of}
use Rattle.tide_model.specs.Numbers.{count_where}
use Rattle.tide_model.specs.State.{is_free}
use Rattle.tide_plain.specs.stored.Contents.{state_of}
use Rattle.tide_plain.specs.stored.Parts.{parts_of}
use Rattle.tide_plain.proofs.stored.contents.Contents.free_cells.Given as goal

abbrev pub invariant-loop-cell : goal.invariant-loop-cell
invariant-loop-cell l = record {
  counted : l.count ≡ count_where (λ cell. (class_of (parts_of l.self-inside).layout cell == l.class) && is_free ((state_of (parts_of l.self-inside)).cells cell).status) l.cell;
  small : l.count ≤ l.cell;
}
