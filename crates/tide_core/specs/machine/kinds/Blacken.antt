-- Blacken: a visitor colours a cell that it holds black, and begins to scan it; a table has nothing to scan.
use Rattle.std.specs.Prelude.{ℕ, ◌≡◌, ◌<◌, ◌+◌, [], Contains, if◌then◌else◌, None, Some}
use Rattle.tide_core.specs.machine.May.{RunsAsVisitor}
use Rattle.tide_core.specs.machine.Scanning.{take_out, scan_of}
use Rattle.tide_core.specs.machine.World.{World}
use Rattle.tide_core.specs.declared.machine.view.View.{View}
use Rattle.tide_model.specs.Layout.{Layout}
use Rattle.tide_model.specs.Refused.{is_table}

-- the visit is counted
abbrev pub blackened_view : Layout → ℕ → View → View
blackened_view layout cell v = record v {
  held = take_out cell v.held;
  visits = v.visits + 1;
  round = [];
  scan = if is_table layout cell then None else Some (scan_of cell);
}

-- the visitor holds the cell, scans none, and its count of visits has room for one more
pub record MayBlacken (layout : Layout) (w : World) (me cell cycle : ℕ) : Type 0 where
  pub runner : RunsAsVisitor layout w me
  pub has : Contains (w.part me).held cell
  pub scans_not : (w.part me).scan ≡ None
  pub few : (w.part me).visits < 4294967295
  pub in_cycle : cycle ≡ (w.part me).cycle
