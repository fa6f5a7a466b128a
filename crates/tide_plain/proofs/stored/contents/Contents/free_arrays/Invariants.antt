use Rattle.std.proofs.Common.{◌≡◌, ◌≤◌}
use Rattle.std.specs.Prelude.{◌==◌, ◌&&◌}
use Rattle.tide_model.specs.Layout.{class_of_array}
use Rattle.tide_model.specs.Numbers.{count_where}
use Rattle.tide_model.specs.State.{is_free}
use Rattle.tide_plain.specs.stored.Contents.{state_of}
use Rattle.tide_plain.specs.stored.Parts.{parts_of}
use Rattle.tide_plain.proofs.stored.contents.Contents.free_arrays.Given as goal

abbrev pub invariant-loop-array : goal.invariant-loop-array
invariant-loop-array l = record {
  counted : l.count ≡ count_where (λ array. (class_of_array (parts_of l.self-inside).layout array == l.class) && is_free ((state_of (parts_of l.self-inside)).arrays array)) l.array;
  small : l.count ≤ l.array;
}
