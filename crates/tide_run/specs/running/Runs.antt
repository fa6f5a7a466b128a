-- A run, and when it is one of a workload.
use Rattle.std.specs.Prelude.{ℕ, ◌≡◌, ◌≤◌, List, [], Option, length, slice_get, Some, All}
use Rattle.tide_model.specs.declared.op.Op.{Op}
use Rattle.tide_model.specs.declared.entry.Event.{Event}
use Rattle.tide_model.specs.Layout.{Layout}
use Rattle.tide_model.specs.Pace.{Pace}
use Rattle.tide_model.specs.Periods.{IsLegal}
use Rattle.tide_model.specs.Whole.{IsWhole}
use Rattle.tide_periods.specs.Recorded.{IsSettled, Recorded}
use Rattle.tide_periods.specs.Store.{Setting}
use Rattle.tide_shape.specs.Shapes.{shapes_of_paths}
use Rattle.tide_workload.specs.Words.{IsOperation, MAX_MUTATORS, MAX_OPS, Settings, Work, limits_of}

-- the layout of the store, the names of the property keys by number, the history, and the layout and shapes of the
-- heap that kept it, if one did
pub record Ran : Type 0 where
  pub layout : Layout
  pub keys : List (List ℕ)
  pub history : List Event
  pub heap : Option Setting

-- the plain numbers of a store with these settings and so many mutators and visitors
abbrev pub layout_with : Settings → (mutators visitors : ℕ) → Layout
layout_with settings mutators visitors = record {
  cell_blocks = settings.blocks;
  array_blocks = settings.arrays;
  registers = settings.registers;
  strong = settings.strong;
  weak = settings.weak;
  mutators = mutators;
  visitors = visitors;
}

-- the layout of the store that a workload asks for, with so many visitors
abbrev pub layout_of_work : Work → ℕ → Layout
layout_of_work work visitors = layout_with work.settings (length work.scripts) visitors

-- the layout and the shapes of the store that a workload asks for, with so many visitors
abbrev pub setting_of_work : Work → ℕ → Setting
setting_of_work work visitors = record { layout = layout_of_work work visitors; shapes = shapes_of_paths work.paths }

-- on a store of a workload's layout and shapes, without visitors, nothing was run yet
pub record IsNew (work : Work) (recorded : Recorded) : Type 0 where
  pub settled : IsSettled recorded
  pub nothing : recorded.history ≡ []
  pub setting : recorded.setting ≡ setting_of_work work 0

-- the scripts of a workload, which are so many and so long, and of operations that may be asked for
pub record AreScripts (work : Work) (scripts : List (List Op)) : Type 0 where
  pub are : scripts ≡ work.scripts
  pub some : 1 ≤ length work.scripts
  pub few : length work.scripts ≤ MAX_MUTATORS
  pub short : All (λ ops. length ops ≤ MAX_OPS) scripts
  pub within : All (All (IsOperation (limits_of work))) scripts

-- the numbers of a workload's periods, with this trigger
abbrev pub pace_of_work : Work → ℕ → Pace
pace_of_work work trigger = record {
  calls = work.settings.period;
  visits = work.settings.period;
  headroom = work.settings.headroom;
  trigger = trigger;
}

-- A run of a workload with this trigger and so many visitors: its history is legal in the layout and with the shapes
-- that the workload asks for, its keys have the workload's names, and each mutator asked for all that it was to ask
-- for. The plain store can't mark across parts, so that its trigger is 0 and it has no visitors: no cycle begins by
-- itself there. The heap has the workload's trigger, and as many visitors as it is asked for.
pub record IsRunOf (work : Work) (trigger visitors : ℕ) (ran : Ran) : Type 0 where
  pub layout : ran.layout ≡ layout_of_work work visitors
  pub keys : ran.keys ≡ work.keys
  pub legal : IsLegal (pace_of_work work trigger) (layout_of_work work visitors) (shapes_of_paths work.paths) ran.history
  pub whole : (mutator : ℕ) (ops : List Op) → slice_get work.scripts mutator ≡ Some ops →
      IsWhole (layout_of_work work visitors) ran.history mutator ops
