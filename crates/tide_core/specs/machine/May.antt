-- What the conditions of several kinds of step have in common.
use Rattle.std.specs.Prelude.{if◌then◌else◌, ℕ, ◌≡◌, ◌<◌, ◌≤◌, ◌+◌, true, List, [], length, Option, None}
use Rattle.tide_core.specs.machine.Entries.{call_of}
use Rattle.tide_core.specs.machine.Words.{is_cell_word}
use Rattle.tide_core.specs.machine.World.{World, first_visitor}
use Rattle.tide_core.specs.declared.machine.view.Duty.{Duty}
use Rattle.tide_core.specs.declared.machine.view.Owed.{Owed}
use Rattle.tide_core.specs.declared.machine.view.View.{View}
use Rattle.tide_model.specs.Lawful.{Stands}
use Rattle.tide_model.specs.Layout.{Layout}
use Rattle.tide_model.specs.Refused.{ShapeLists}
use Rattle.tide_model.specs.declared.op.Op.{Op}
use Rattle.tide_model.specs.declared.op.Reply.{Reply}
use Rattle.tide_core.specs.declared.machine.view.Duty.TheVariants as duty
use Rattle.tide_core.specs.declared.machine.view.Growth.TheVariants as growth

-- the participant is a mutator of the layout in its running part
pub record RunsAsMutator (layout : Layout) (w : World) (me : ℕ) : Type 0 where
  pub is_mutator : me < layout.mutators
  pub runs : (w.part me).runs ≡ true

-- the participant is a visitor of the layout in its running part, while a cycle marks; it owes no push
pub record RunsAsVisitor (layout : Layout) (w : World) (me : ℕ) : Type 0 where
  pub is_visitor : first_visitor ≤ me
  pub within : me < first_visitor + layout.visitors
  pub runs : (w.part me).runs ≡ true
  pub marks : (w.part me).marks ≡ true
  pub idle : (w.part me).duty ≡ duty.Nothing

-- a mutator stands between two of its calls: it owes no word, no barrier, no push and no colour, its call word tells
-- all of its calls, it grows no array, and it has finished each sweep that it began
pub record IsBetweenCalls (v : View) : Type 0 where
  pub owed : v.owed ≡ []
  pub duty : v.duty ≡ duty.Nothing
  pub growth : v.growth ≡ growth.Nothing
  pub sweeping : v.sweeping ≡ None
  pub calls : v.calls ≡ length v.mine

-- a mutator may make a call with this answer: it stands between two calls, and the history stays lawful with the call
pub record MayCall (layout : Layout) (shapes : ShapeLists) (w : World) (me : ℕ) (op : Op) (reply : Reply)
    (took : Option ℕ) : Type 0 where
  pub runner : RunsAsMutator layout w me
  pub between : IsBetweenCalls (w.part me)
  pub stands : Stands layout shapes w.log (call_of me op reply took)

-- a participant holds, scans and owes nothing, and stands between two calls
pub record Rests (v : View) : Type 0 where
  pub held : v.held ≡ []
  pub scan : v.scan ≡ None
  pub between : IsBetweenCalls v

-- a view after a call of its own: it owes these words, and what it knew of words is of the past
abbrev pub called : List Owed → View → View
called owed v = record v { owed = owed; known = []; full = [] }

-- the barrier that is owed after a store of a word in a cell, where the word is a reference, whether a cycle marks or
-- not
abbrev pub barrier_for : ℕ → ℕ → Duty
barrier_for cell word = if is_cell_word word then duty.Barrier cell else duty.Nothing
