-- What a snapshot tells of a cell.
use Rattle.std.specs.Prelude.{ℕ, ◌≡◌, ◌≢◌, ◌≤◌, ◌↔◌, ◌==◌, None, Option, Some, if◌then◌else◌}
use Rattle.tide.specs.tide_model.Graph.{graph_of}
use Rattle.tide.specs.tide_model.Layout.{Layout}
use Rattle.tide.specs.tide_model.State.{State, live}
use Rattle.tide.specs.tide_snapshot.tide_retained.Holding.{IsSnapshotOf}
use Rattle.tide.specs.tide_snapshot.tide_retained.Path.{IsDistanceOf}
use Rattle.tide.specs.tide_snapshot.tide_retained.declared.contents.Contents.{Contents}
use Rattle.tide_c.specs.declared.looking.Found.{Found}
use Rattle.tide_c.specs.Statuses.{AsKeeper, Through}
use Rattle.tide_c.specs.Turns.{HasLooked}
use Rattle.tide_c.specs.declared.party.Party.{Party}
use Rattle.tide_c.specs.declared.party.Party.TheVariants as party
use Rattle.tide_c.specs.declared.status.Status.{Status}
use Rattle.tide_c.specs.declared.status.Status.TheVariants.{Done}

-- how many steps lead to the cell, if some do
abbrev pub steps_in : Found → Option ℕ
steps_in found = if found.held == 1 then Some found.steps else None

-- what is told of a cell is so in each state that the snapshot is of
pub record IsFound (contents : Contents) (cell : ℕ) (found : Found) : Type 0 where
  pub live : (layout : Layout) (state : State) → IsSnapshotOf layout state contents →
      (found.live ≡ 1) ↔ ((state.cells cell).status ≡ live)
  pub distance : (layout : Layout) (state : State) → IsSnapshotOf layout state contents → found.live ≡ 1 →
      IsDistanceOf (graph_of state) cell (steps_in found)
  pub held : found.held ≤ 1
  pub none : found.live ≢ 1 → (found.live ≡ 0) × (found.held ≡ 0) × (found.steps ≡ 0)

-- the snapshot tells this
abbrev pub HasFound : ℕ → Found → Contents → Contents → Status → Type 0
HasFound cell found old new status = (status ≡ Done) × IsFound old cell found

-- the snapshot that was taken is behind the handle
abbrev pub IsTaken : Option Contents → Option Party → Type 0
IsTaken taken value = (snapshot : Contents) × (taken ≡ Some snapshot) × (value ≡ Some (party.Snapshot snapshot))

-- the handle has the snapshot that the keeper behind another one took in its turn
abbrev pub HasPut : Option Party → Option Party → Option Party → ℕ → Type 0
HasPut old new value answer = (snapshot : Contents) × (value ≡ Some (party.Snapshot snapshot))
    × Through (AsKeeper (HasLooked snapshot)) old new answer
