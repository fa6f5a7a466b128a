-- A mutator that has made no call before a part of its, and its note after it, in which it has retired.
use Rattle.std.specs.Prelude.{ℕ, ◌≡◌, ◌<◌, true}
use Rattle.tide.specs.tide_core.machine.Frozen.{newcomer}
use Rattle.tide.specs.tide_core.declared.machine.view.View.{View}
use Rattle.tide.specs.tide_model.Layout.{Layout}

-- v is the mutator's view, and t is that of its ticket
pub record MayWork (layout : Layout) (v t : View) : Type 0 where
  pub is_new : v ≡ newcomer v.who
  pub is_mutator : v.who < layout.mutators
  pub part : 0 < t.period
  pub has : 1 < layout.registers

-- the note is the mutator's, of the ticket's part, and tells that it has retired
pub record HasWorked (v t note : View) : Type 0 where
  pub who : note.who ≡ v.who
  pub part : note.period ≡ t.period
  pub left : note.left ≡ true
