-- What a keeper's turn and a helper's visit come to, by what they answer.
use Rattle.std.specs.Prelude.{◌≡◌, ◌+◌, ◌⊎◌, [], true}
use Rattle.std.specs.Arc.{arc_value}
use Rattle.tide.specs.tide_report.Reports.{Reported}
use Rattle.tide.specs.tide_server.Looked.{HasSnapshot}
use Rattle.tide.specs.tide_server.Turned.{HasTurned, IsWaiting}
use Rattle.tide.specs.tide_server.declared.turning.Turn.{Turn}
use Rattle.tide.specs.tide_server.declared.turning.Turn.TheVariants as turn
use Rattle.tide.specs.tide_shape.Lists.{lists_of}
use Rattle.tide.specs.tide_snapshot.tide_retained.declared.contents.Contents.{Contents}
use Rattle.tide_c.specs.Figures.{AddsTurn}
use Rattle.tide_c.specs.declared.party.Figures.{Figures}
use Rattle.tide_c.specs.declared.party.HelperParty.{HelperParty}
use Rattle.tide_c.specs.declared.party.KeeperParty.{KeeperParty}
use Rattle.tide_c.specs.declared.party.Phase.{Phase}
use Rattle.tide_c.specs.declared.party.Phase.TheVariants as phase
use Rattle.tide_c.specs.declared.status.Status.{Status}
use Rattle.tide_c.specs.declared.status.Status.TheVariants.{Done, Memory, Over, Spent, Wait}

-- how a keeper is after a turn that was answered so
abbrev pub phase_after : Turn → Phase
phase_after turn.Opened = phase.Open
phase_after turn.Over = phase.Over
phase_after turn.Spent = phase.Spent

-- The keeper's open part was frozen, and the next one opened, unless all members have left or no part can be numbered.
-- `told` are the cycles that ended in it, and no others.
pub record MakesTurn (old new : KeeperParty) (answer : Turn) : Type 0 where
  pub was_open : old.phase ≡ phase.Open
  pub phase : new.phase ≡ phase_after answer
  pub shared : new.shared ≡ old.shared
  pub room : Reported
  pub told : Reported
  pub empty : (room.cycles ≡ []) × (room.ids ≡ [])
  pub turned : HasTurned (arc_value old.shared).heap.key.layout (lists_of (arc_value old.shared).heap.key.shapes)
      (arc_value old.shared).heap.table.shared.table_id (arc_value old.shared).hands.shared.table_id
      old.keeper new.keeper room told answer
  pub counted : AddsTurn told old.figures new.figures

-- nothing was made, as no part is open any more
abbrev pub MakesNoTurn : KeeperParty → KeeperParty → Type 0
MakesNoTurn old new = new ≡ old

-- no turn was made: the part that was open is, maybe with more notes in
pub record Waits (old new : KeeperParty) : Type 0 where
  pub shared : new.shared ≡ old.shared
  pub phase : new.phase ≡ old.phase
  pub figures : new.figures ≡ old.figures
  pub waits : IsWaiting (arc_value old.shared).heap.key.layout (arc_value old.shared).heap.table.shared.table_id
      (arc_value old.shared).hands.shared.table_id old.keeper new.keeper

-- what a turn comes to
abbrev pub HasTurnedTo : KeeperParty → KeeperParty → Status → Type 0
HasTurnedTo old new Done = MakesTurn old new turn.Opened
HasTurnedTo old new Over = MakesTurn old new turn.Over ⊎ ((old.phase ≡ phase.Over) × MakesNoTurn old new)
HasTurnedTo old new Spent = MakesTurn old new turn.Spent ⊎ ((old.phase ≡ phase.Spent) × MakesNoTurn old new)
HasTurnedTo old new Wait = Waits old new
HasTurnedTo old new Memory = (new.shared ≡ old.shared) × (new.figures ≡ old.figures) × (new.keeper ≡ old.keeper)
    × (new.phase ≡ old.phase)
HasTurnedTo old new _ = ⊥

-- the snapshot that a turn took is of what was frozen in it
abbrev pub HasLooked : Contents → KeeperParty → KeeperParty → Status → Type 0
HasLooked taken old new Done = HasSnapshot (arc_value old.shared).heap.key.layout old.keeper new.keeper turn.Opened taken
HasLooked taken old new Over = HasSnapshot (arc_value old.shared).heap.key.layout old.keeper new.keeper turn.Over taken
HasLooked taken old new Spent = HasSnapshot (arc_value old.shared).heap.key.layout old.keeper new.keeper turn.Spent taken
HasLooked taken old new _ = ⊥

-- what a visit comes to: it took part in one part and handed its note in; found the end; or no ticket lies there
abbrev pub HasVisited : HelperParty → HelperParty → Status → Type 0
HasVisited old new Done = (new.helper.seat.seat.me.0.given ≡ old.helper.seat.seat.me.0.given + 1)
    × (new.helper.seat.seat.me.0.taken ≡ old.helper.seat.seat.me.0.taken + 1)
HasVisited old new Over = new.helper.seat.seat.me.0.over ≡ true
HasVisited old new Wait = (new.helper.seat.seat.me.0.given ≡ old.helper.seat.seat.me.0.given)
    × (new.helper.seat.seat.me.0.taken ≡ old.helper.seat.seat.me.0.taken)
HasVisited old new _ = ⊥

-- these are the figures of its turns
abbrev pub HasTold : Figures → KeeperParty → KeeperParty → Status → Type 0
HasTold figures old new status = (status ≡ Done) × (figures ≡ old.figures)
