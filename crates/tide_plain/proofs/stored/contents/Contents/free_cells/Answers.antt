use Rattle.std.proofs.Common.{◌≡◌, ◌∙◌, ap, arith, ℕ}
use Rattle.std.specs.Prelude.{◌==◌, ◌&&◌}
use Rattle.tide_model.specs.Layout.{cell_count, class_of}
use Rattle.tide_model.specs.Numbers.{count_where}
use Rattle.tide_model.specs.State.{is_free}
use Rattle.tide_plain.specs.stored.Contents.{state_of}
use Rattle.tide_plain.specs.stored.Parts.{parts_of}
use Rattle.tide_plain.proofs.stored.contents.Contents.free_cells.Goals as goal

pub returns : goal.returns
returns c =
    let all : c.loop-cell.cell ≡ cell_count (parts_of c.self.inside).layout = omega arith in
    rw (← c.self.view_is) (c.loop-cell.invariant.counted ∙ ap (λ (n : ℕ). count_where (λ cell. (class_of (parts_of c.self.inside).layout cell == c.args.class) && is_free ((state_of (parts_of c.self.inside)).cells cell).status) n) all)
