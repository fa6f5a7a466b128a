-- When an engine's script may ask, and the weak references that it may ask for.
use Rattle.std.specs.Prelude.{ℕ}
use Rattle.embed_weakref.specs.Engine.{TakesPart}
use Rattle.embed_weakref.specs.declared.engine.Engine.{Engine}
use Rattle.tide.specs.tide_weakref.Uses.{IsReference}
use Rattle.tide.specs.tide_weakref.Viewed.{jobs_of}

-- the realm takes part in the open part
abbrev pub Works : Engine → Type 0
Works engine =
    TakesPart engine.heap.table.shared.table_id engine.heap.key.layout engine.collector.seat.me.0.period engine.realm

-- this is the number of a reference that was made and not given up
abbrev pub HasReference : Engine → ℕ → Type 0
HasReference engine r = IsReference (jobs_of engine.realm) r

-- each reference of the one is still one of the other
abbrev pub KeepsReferences : Engine → Engine → Type 0
KeepsReferences old new = (r : ℕ) → HasReference old r → HasReference new r
