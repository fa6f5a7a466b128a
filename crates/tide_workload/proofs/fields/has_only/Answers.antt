use Rattle.std.proofs.Common.{ap, sym, ◌∙◌, map, string_bytes}
use Rattle.std.specs.List.{list_all}
use Rattle.tide_workload.specs.Fields.{is_name_of}
use Rattle.tide_workload.proofs.TableLemmas.{member_names-members_view}
use Rattle.tide_workload.proofs.fields.has_only.Goals as goal

pub loop-name-init : goal.loop-name-init
loop-name-init c =
    ap (λ names. list_all (is_name_of c.args.fields.now) (map string_bytes names)) (c.into_iter-name-iterator.ensures.into_iter_gives ∙ c.keys-name-items.ensures.rest)
    ∙ ap (list_all (is_name_of c.args.fields.now)) (sym (member_names-members_view c.args.table.now.entries))
