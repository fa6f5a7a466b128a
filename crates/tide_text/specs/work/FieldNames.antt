-- The names of a document's fields.
use Rattle.std.specs.Prelude.{ℕ, List, codes}
use Rattle.tide_text.specs.declared.work.field.Field.{Field}
use Rattle.tide_text.specs.declared.work.field.Field.TheVariants.{Registers, Strong, Weak, Blocks, Arrays, Period, Headroom, Trigger, Shapes, Mutator, Ops, Other}

-- the name under which a field stands: its own in lower case
abbrev pub name_of : Field → List ℕ
name_of Registers = codes "registers"
name_of Strong = codes "strong"
name_of Weak = codes "weak"
name_of Blocks = codes "blocks"
name_of Arrays = codes "arrays"
name_of Period = codes "period"
name_of Headroom = codes "headroom"
name_of Trigger = codes "trigger"
name_of Shapes = codes "shapes"
name_of Mutator = codes "mutator"
name_of Ops = codes "ops"
name_of Other = codes "other"
