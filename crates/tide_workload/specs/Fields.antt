-- What the fields of a document's tables say.
use Rattle.std.specs.Prelude.{ℕ, pos, length, nat_le, ◌&&◌, if◌then◌else◌, Bool, List, [], ◌∷◌, Option, Some, None, option_and_then, Result, Ok, Err}
use Rattle.std.specs.List.{list_all, list_any}
use Rattle.std.specs.Str.{bytes_eq}
use Rattle.toml.specs.Data.{Data, integer, array, Items, no_items, item, Members, no_members, member, get_member}
use Rattle.tide_text.specs.declared.work.fault.Fault.{Fault}
use Rattle.tide_text.specs.declared.work.fault.Fault.TheVariants.{Missing, Bad}
use Rattle.tide_text.specs.declared.work.field.Field.{Field}
use Rattle.tide_text.specs.declared.work.field.Field.TheVariants.{Other}
use Rattle.tide_text.specs.work.FieldNames.{name_of}
use Rattle.tide_workload.specs.Steps.{◌>>=◌, each, good}

-- what is there of a field, which misses where there is nothing
abbrev pub required_or : Field → Option Data → Result Data Fault
required_or field None = Err (Missing field)
required_or field (Some value) = Ok value

-- the value of a field that has to be there
abbrev pub required : Field → Members → Result Data Fault
required field table = required_or field (get_member (name_of field) table)

-- the number of an integer from the least to the most
abbrev pub number_within : ℕ → ℕ → Data → Option ℕ
number_within least most (integer (pos n)) = if nat_le least n && nat_le n most then Some n else None
number_within least most _ = None

-- items as a list
abbrev pub list_of : Items → List Data
list_of no_items = []
list_of (item value values) = value ∷ list_of values

-- the values of an array, in order
abbrev pub values_of : Data → Option (List Data)
values_of (array items) = Some (list_of items)
values_of _ = None

-- some values, where there are at least and at most so many
abbrev pub so_many : ℕ → ℕ → List Data → Option (List Data)
so_many least most values = if nat_le least (length values) && nat_le (length values) most then Some values else None

-- the values of an array of at least and at most so many
abbrev pub values_within : ℕ → ℕ → Data → Option (List Data)
values_within least most value = option_and_then (so_many least most) (values_of value)

-- the values of a field's array
abbrev pub values_in : Field → ℕ → ℕ → Data → Result (List Data) Fault
values_in field least most value = good field (values_within least most value)

-- the number of a field's value
abbrev pub number_in : Field → ℕ → ℕ → Data → Result ℕ Fault
number_in field least most value = good field (number_within least most value)

-- what a field's value is read as, or what stands for it where it isn't there
abbrev pub or_default : {A : Type 0} → A → (Data → Result A Fault) → Option Data → Result A Fault
or_default otherwise read None = Ok otherwise
or_default otherwise read (Some value) = read value

-- the number of a field that has to be there
abbrev pub number_of_field : Field → ℕ → ℕ → Members → Result ℕ Fault
number_of_field field least most table = do
  value ← required field table
  number_in field least most value

-- the number of a field, 0 where it isn't there
abbrev pub number_or_zero : Field → ℕ → Members → Result ℕ Fault
number_or_zero field most table = or_default 0 (number_in field 0 most) (get_member (name_of field) table)

-- the five numbers, from 0 to the most, of a field's value
abbrev pub five_in : Field → ℕ → Data → Result (List ℕ) Fault
five_in field most value = do
  values ← values_in field 5 5 value
  each (number_in field 0 most) values

-- the five numbers of a field that has to be there
abbrev pub five_of_field : Field → ℕ → Members → Result (List ℕ) Fault
five_of_field field most table = do
  value ← required field table
  five_in field most value

-- the five numbers of a field, all 0 where it isn't there
abbrev pub five_or_zeros : Field → ℕ → Members → Result (List ℕ) Fault
five_or_zeros field most table = or_default (0 ∷ 0 ∷ 0 ∷ 0 ∷ 0 ∷ []) (five_in field most) (get_member (name_of field) table)

-- the names that a table has
abbrev pub member_names : Members → List (List ℕ)
member_names no_members = []
member_names (member name value table) = name ∷ member_names table

-- a name is that of one of these fields
abbrev pub is_name_of : List Field → List ℕ → Bool
is_name_of fields name = list_any (λ field. bytes_eq (name_of field) name) fields

-- a table may have no name but those of these fields
abbrev pub has_only : List Field → Members → Result (Unit {0}) Fault
has_only fields table = if list_all (is_name_of fields) (member_names table) then Ok tt else Err (Bad Other)
