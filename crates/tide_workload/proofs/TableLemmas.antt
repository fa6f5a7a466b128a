-- The values of an array and the names of a table.
use Rattle.std.proofs.Common.{◌≡◌, List, [], ◌∷◌, map, ap, refl, String, Global, string_bytes}
use Rattle.std.specs.Map.{keys_of}
use Rattle.toml.specs.View.{view, items_view, members_view}
use Rattle.toml.specs.declared.value.Value.{Value}
use Rattle.tide_workload.specs.Fields.{list_of, member_names}

pub list_of-items_view : (values : List Value) → list_of (items_view values) ≡ map view values
list_of-items_view [] = refl
list_of-items_view (value ∷ values) = ap (λ rest. view value ∷ rest) (list_of-items_view values)

pub member_names-members_view : (entries : List (String Global × Value)) → member_names (members_view entries) ≡ map string_bytes (keys_of entries)
member_names-members_view [] = refl
member_names-members_view (entry ∷ entries) = ap (λ rest. string_bytes entry.0 ∷ rest) (member_names-members_view entries)
