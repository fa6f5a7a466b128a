-- What the steps of participants tell, as the plays of `atomic_table` have it: of the step, the seat before, the number
-- found, and the seat after.
use Rattle.std.specs.Prelude.{ℕ, ◌≡◌, ◌≤◌, []}
use Rattle.atomic_table.specs.Table.{Me, Step}
use Rattle.tide_core.specs.machine.Kind.{Kind}
use Rattle.tide_core.specs.declared.machine.view.View.{View}
use Rattle.tide_core.specs.machine.kinds.Activate.{begun_view}
use Rattle.tide_core.specs.machine.kinds.StoreStopped.{stopped_view}
use Rattle.tide_model.specs.Caller.{IsOwn}
use Rattle.tide_model.specs.Layout.{Layout}
use Rattle.tide_model.specs.Periods.{open_count}
use Rattle.tide_model.specs.Prefix.{IsPrefix}
use Rattle.tide_model.specs.Refused.{ShapeLists}
use Rattle.tide_heap.specs.steps.Follows.{Follows, FollowsSome}

abbrev pub no_layout : Layout
no_layout = record {
  cell_blocks = [];
  array_blocks = [];
  registers = 0;
  strong = 0;
  weak = 0;
  mutators = 0;
  visitors = 0;
}

-- It begins: the word that it found is the number of its ticket's part. What it had seen before the ticket that it
-- heard, and what the ticket told of the history, are beginnings of what it has seen, of which its own calls are those
-- that it made.
pub record HasBegun (v : View) (read : ℕ) (w : View) : Type 0 where
  pub view : w ≡ begun_view v
  pub found : read ≡ v.ticket
  pub earlier : IsPrefix v.earlier w.seen
  pub told : IsPrefix v.told w.seen
  pub own : IsOwn w.who w.seen w.mine

-- It stops: it has seen no more openings than the number of its part.
pub record HasStoppedPart (v w : View) : Type 0 where
  pub view : w ≡ stopped_view v
  pub opens : open_count v.seen ≤ v.ticket

module _ {S : Type 0} where
  -- a participant's step of a kind, where the word found is told, and where it is not
  abbrev pub has_followed : Layout → ShapeLists → Kind → Step S → Me S View → ℕ → Me S View → Type 0
  has_followed layout shapes kind st m r m' = Follows layout shapes kind m.0 r m'.0

  abbrev pub has_followed_some : Layout → ShapeLists → Kind → Step S → Me S View → ℕ → Me S View → Type 0
  has_followed_some layout shapes kind st m r m' = FollowsSome layout shapes kind m.0 m'.0

  abbrev pub has_begun : Step S → Me S View → ℕ → Me S View → Type 0
  has_begun st a r b = HasBegun a.0 r b.0

  abbrev pub has_stopped : Step S → Me S View → ℕ → Me S View → Type 0
  has_stopped st a r b = HasStoppedPart a.0 b.0
