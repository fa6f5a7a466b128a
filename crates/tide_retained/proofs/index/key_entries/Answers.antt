-- One more table is under the keys of its pairs.
use Rattle.std.proofs.Common.{[], ◌∷◌, ◌++◌, List, sym, ap, ◌∙◌}
use Rattle.std.specs.List.{flat_map}
use Rattle.tide_retained.specs.declared.contents.Keyed.{Keyed}
use Rattle.tide_retained.specs.declared.index.Entry.{Entry}
use Rattle.tide_retained.specs.Index.{entry, key_entries}
use Rattle.tide_retained.proofs.ListLaws.{flat_map_up_to}
use Rattle.tide_retained.proofs.index.key_entries.Goals as goal

pub loop-table-preserved : goal.loop-table-preserved
loop-table-preserved c =
    c.in_ok-push_keys.ensures
    ∙ ap (λ (pairs : List Keyed). c.loop-table.entries.items ++ flat_map (λ pair. entry pair.key c.loop-table.table ∷ []) pairs) c.pairs.ensures
    ∙ ap (λ (l : List Entry). l ++ key_entries c.args.contents.now c.loop-table.table) c.loop-table.invariant
    ∙ sym (flat_map_up_to (key_entries c.args.contents.now) c.loop-table.table)
