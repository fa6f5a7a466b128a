-- When a realm may be asked for something, and what it is once it has done that.
use Rattle.std.specs.Prelude.{◌≡◌}
use Rattle.atomic_table.specs.Seated.{TableId}
use Rattle.tide_model.specs.Layout.{Layout}
use Rattle.tide_model.specs.Refused.{ShapeLists}
use Rattle.tide_weakref.specs.Calls.{HasCalled, IsRunning}
use Rattle.tide_weakref.specs.Jobs.{HasKeptJobs}
use Rattle.tide_weakref.specs.Setting.{SetsWhatItTakes}
use Rattle.tide_weakref.specs.Uses.{GoesOn}
use Rattle.tide_weakref.specs.Viewed.{jobs_of, seat_of, view_of}
use Rattle.tide_weakref.specs.declared.realm.Realm.{Realm}

-- A realm may be asked for something on a heap with this table and layout: its mutator may make a call there, and when
-- that made its last one, the realm kept its jobs.
pub record IsReady (id : TableId) (layout : Layout) (realm : Realm) : Type 0 where
  pub running : IsRunning id layout realm.mutator
  pub kept_jobs : HasKeptJobs layout (view_of realm) (jobs_of realm)

-- A realm did what it was asked for by calls of its mutator, which set no weak handle that was in use, and may be asked
-- again.
pub record HasWorked (id : TableId) (layout : Layout) (shapes : ShapeLists) (old new : Realm) : Type 0 where
  pub seat : seat_of new ≡ seat_of old
  pub called : HasCalled layout shapes (view_of old) (view_of new)
  pub goes_on : GoesOn (jobs_of old) (jobs_of new)
  pub sets : SetsWhatItTakes (view_of old) (view_of new) (jobs_of old) (jobs_of new)
  pub ready : IsReady id layout new
