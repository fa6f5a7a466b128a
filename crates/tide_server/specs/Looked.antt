-- Of which moment the snapshot is that a turn takes.
use Rattle.std.specs.Prelude.{◌≡◌, List}
use Rattle.tide_model.specs.History.{state_after}
use Rattle.tide_model.specs.Layout.{Layout}
use Rattle.tide_model.specs.Periods.{opened}
use Rattle.tide_model.specs.declared.entry.Event.{Event}
use Rattle.tide_sched.specs.Paces.{pace_of}
use Rattle.tide_server.specs.Keepers.{view_of}
use Rattle.tide_server.specs.declared.keeper.Keeper.{Keeper}
use Rattle.tide_server.specs.declared.turning.Turn.{Turn}
use Rattle.tide_server.specs.declared.turning.Turn.TheVariants.{Opened, Over, Spent}
use Rattle.tide_snapshot.specs.tide_retained.declared.contents.Contents.{Contents}
use Rattle.tide_snapshot.specs.tide_retained.Holding.{IsSnapshotOf}

-- The history up to the freeze of a turn, with what the schedule asked for: the next part was opened right behind it, or
-- it is all that the keeper has seen.
abbrev pub IsFrozenHistory : Layout → Keeper → Keeper → Turn → List Event → Type 0
IsFrozenHistory layout old new Opened after = (view_of new).start ≡ opened (pace_of old.books.pacing) layout after
IsFrozenHistory layout old new Over after = (view_of new).seen ≡ after
IsFrozenHistory layout old new Spent after = (view_of new).seen ≡ after

-- the snapshot is of the state after the history up to the turn's freeze
pub record HasSnapshot (layout : Layout) (old new : Keeper) (turn : Turn) (snapshot : Contents) : Type 0 where
  pub after : List Event
  pub is_frozen : IsFrozenHistory layout old new turn after
  pub is : IsSnapshotOf layout (state_after layout after) snapshot
