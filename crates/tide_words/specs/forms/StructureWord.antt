-- The words of structures.
use Rattle.std.specs.Prelude.{◌≡◌, ℕ, ◌+◌, ◌*◌, ◌^◌, ◌<◌, ◌≤◌, if◌then◌else◌}
use Rattle.tide_words.specs.declared.forms.structure.Structure.{Structure}

-- the word of a structure
abbrev pub structure_word : Structure → ℕ
structure_word structure = 256 * structure.shape + 2 * structure.count + (if structure.nuked then 1 else 0)

-- some structure of at most 64 properties has this word
abbrev pub IsStructureWord : ℕ → Type 0
IsStructureWord word = (structure : Structure) × (structure.shape < 2 ^ 32) × (structure.count ≤ 64) × (structure_word structure ≡ word)
