use Rattle.std.proofs.Common.{◌≡◌, ◌∙◌, ap, arith, ℕ}
use Rattle.std.specs.Prelude.{◌==◌, ◌&&◌}
use Rattle.tide_model.specs.Layout.{array_count, class_of_array}
use Rattle.tide_model.specs.Numbers.{count_where}
use Rattle.tide_model.specs.State.{is_free}
use Rattle.tide_plain.specs.stored.Contents.{state_of}
use Rattle.tide_plain.specs.stored.Parts.{parts_of}
use Rattle.tide_plain.proofs.stored.contents.Contents.free_arrays.Goals as goal

pub returns : goal.returns
returns c =
    let all : c.loop-array.array ≡ array_count (parts_of c.self.inside).layout = omega arith in
    rw (← c.self.view_is) (c.loop-array.invariant.counted ∙ ap (λ (n : ℕ). count_where (λ array. (class_of_array (parts_of c.self.inside).layout array == c.args.class) && is_free ((state_of (parts_of c.self.inside)).arrays array)) n) all)
