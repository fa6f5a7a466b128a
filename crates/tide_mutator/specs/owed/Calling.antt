-- When a mutator makes a call, and what its view is after it.
use Rattle.std.specs.Prelude.{ℕ, ◌≡◌, ◌<◌, ◌≤◌, ◌+◌, Bool, true, false, List, [], Option}
use Rattle.tide_heap.specs.tide_layout.Limits.{IsWithinLimits}
use Rattle.tide_heap.specs.tide_core.machine.May.{IsBetweenCalls}
use Rattle.tide_heap.specs.tide_core.declared.machine.view.Growth.{Growth}
use Rattle.tide_heap.specs.tide_core.declared.machine.view.Role.{Role}
use Rattle.tide_heap.specs.tide_core.declared.machine.view.Scan.{Scan}
use Rattle.tide_heap.specs.tide_core.declared.machine.view.Sweeping.{Sweeping}
use Rattle.tide_heap.specs.tide_core.declared.machine.view.View.{View}
use Rattle.tide_model.specs.Caller.{IsOwn, MakesCall}
use Rattle.tide_model.specs.Lawful.{FitsLayout}
use Rattle.tide_model.specs.Layout.{Layout}
use Rattle.tide_model.specs.Refused.{ShapeLists}
use Rattle.tide_model.specs.Script.{is_retire}
use Rattle.tide_model.specs.declared.op.Op.{Op}
use Rattle.tide_model.specs.declared.op.Op.TheVariants.{Retire}
use Rattle.tide_model.specs.declared.op.Reply.{Reply}
use Rattle.tide_model.specs.declared.op.Reply.TheVariants.{Done}
use Rattle.tide_mutator.specs.owed.Standing.{claims_of}

-- of a mutator's view what no step of its calls changes
pub record Kept : Type 0 where
  pub role : Role
  pub who : ℕ
  pub period : ℕ
  pub ticket : ℕ
  pub run : ℕ
  pub marks : Bool
  pub cycle : ℕ
  pub mark_version : ℕ
  pub runs : Bool
  pub begun : ℕ
  pub visits : ℕ
  pub growth : Growth
  pub held : List ℕ
  pub scan : Option Scan
  pub sweeping : Option Sweeping

abbrev pub kept : View → Kept
kept v = record {
  role = v.role;
  who = v.who;
  period = v.period;
  ticket = v.ticket;
  run = v.run;
  marks = v.marks;
  cycle = v.cycle;
  mark_version = v.mark_version;
  runs = v.runs;
  begun = v.begun;
  visits = v.visits;
  growth = v.growth;
  held = v.held;
  scan = v.scan;
  sweeping = v.sweeping;
}

-- A mutator with this view is about to make a call: it runs, hasn't retired, and stands between two calls. What it has
-- made are its own calls in what it has seen. It retires only without a claim.
pub record IsCalling (layout : Layout) (v : View) (op : Op) : Type 0 where
  pub limits : IsWithinLimits layout
  pub is_mutator : v.who < layout.mutators
  pub runs : v.runs ≡ true
  pub stays : v.left ≡ false
  pub between : IsBetweenCalls v
  pub own : IsOwn v.who v.seen v.mine
  pub fits : FitsLayout layout op
  pub bare : op ≡ Retire → claims_of v ≡ []
