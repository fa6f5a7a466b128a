-- One more cell is under its group, if it is in one.
use Rattle.std.proofs.Common.{◌++◌, List, sym, ap, ◌∙◌}
use Rattle.tide_retained.specs.declared.index.Entry.{Entry}
use Rattle.tide_retained.specs.Index.{group_entries}
use Rattle.tide_retained.proofs.ListLaws.{flat_map_up_to}
use Rattle.tide_retained.proofs.index.group_entries.Goals as goal

pub loop-cell-preserved : goal.loop-cell-preserved
loop-cell-preserved c =
    c.in_ok-push_group.ensures ∙ ap (λ (l : List Entry). l ++ group_entries c.args.contents.now c.loop-cell.cell) c.loop-cell.invariant
    ∙ sym (flat_map_up_to (group_entries c.args.contents.now) c.loop-cell.cell)
