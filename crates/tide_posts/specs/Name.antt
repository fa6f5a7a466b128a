-- Which heap it is of which tickets and notes are handed over.
use Rattle.std.specs.Prelude.{ℕ, ◌+◌, ◌-◌, List, [], ◌∷◌, nat_lt, if◌then◌else◌}
use Rattle.atomic_table.specs.Seated.{TableId}
use Rattle.tide_heap.specs.tide_core.machine.World.{first_visitor}
use Rattle.tide_model.specs.Layout.{Layout}

-- a heap, by its layout and its table of words
pub record Name : Type 0 where
  pub layout : Layout
  pub table_id : TableId

-- a table, by numbers
abbrev pub table_of : List ℕ → TableId
table_of (words ∷ (slots ∷ (views_name ∷ (atom ∷ (block ∷ (offset ∷ slot_names)))))) = record {
  words = words;
  slots = slots;
  views_name = views_name;
  atom = atom;
  block = block;
  offset = offset;
  slot_names = slot_names;
}
table_of _ = record { words = 0; slots = 0; views_name = 0; atom = 0; block = 0; offset = 0; slot_names = [] }

-- how many participants a heap of this layout has: the mutators have the first places, and then come the visitors
abbrev pub places : Layout → ℕ
places layout = layout.mutators + layout.visitors

-- the number of the participant at a place
abbrev pub who_at : Layout → ℕ → ℕ
who_at layout place = if nat_lt place layout.mutators then place else first_visitor + (place - layout.mutators)
