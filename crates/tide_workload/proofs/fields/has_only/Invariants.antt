use Rattle.std.proofs.Common.{◌≡◌, map, string_bytes}
use Rattle.std.specs.List.{list_all}
use Rattle.toml.specs.View.{table_view}
use Rattle.tide_workload.specs.Fields.{is_name_of, member_names}
use Rattle.tide_workload.proofs.fields.has_only.Given as goal

abbrev pub invariant-loop-name : goal.invariant-loop-name
invariant-loop-name l = list_all (is_name_of l.fields) (map string_bytes l.name-iterator) ≡ list_all (is_name_of l.fields) (member_names (table_view l.table))
