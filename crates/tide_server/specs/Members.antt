-- A member of a standing heap: a mutator between two of its calls.
use Rattle.std.specs.Prelude.{ℕ, ◌≡◌, ◌<◌, ◌==◌, ◌&&◌, ◌||◌, ◌⊎◌, Bool, true, false, List, MatchBool, Option, Some, is_some, not}
use Rattle.atomic_table.specs.Seated.{TableId}
use Rattle.tide_posts.specs.tide_heap.tide_core.declared.machine.view.View.{View}
use Rattle.tide_model.specs.Layout.{Layout}
use Rattle.tide_model.specs.Periods.{open_count}
use Rattle.tide_model.specs.Script.{retry_of}
use Rattle.tide_model.specs.Share.{is_asked}
use Rattle.tide_model.specs.declared.entry.Event.{Event}
use Rattle.tide_model.specs.declared.op.Op.{Op}
use Rattle.tide_model.specs.declared.op.Reply.{Reply}
use Rattle.tide_mutator.specs.calls.Viewed.{table_of, view_of}
use Rattle.tide_mutator.specs.owed.Standing.{claims_of}
use Rattle.tide_server.specs.AtWork.{IsAtWork, IsParked}
use Rattle.tide_server.specs.declared.member.Member.{Member}

-- A mutator of the heap with this layout and this table, which has a seat of this table of hands. It is in the midst of
-- its part, or parked.
pub record IsMemberOf (layout : Layout) (heap hands : TableId) (m : Member) : Type 0 where
  pub table : table_of m.mutator ≡ heap
  pub seated : m.seat.seat.table_id ≡ hands
  pub named : m.seat.seat.me.0.name ≡ record { layout = layout; table_id = heap }
  pub is_mutator : (view_of m.mutator).who < layout.mutators
  pub stands : MatchBool m.works (IsAtWork (view_of m.mutator) m.left m.ended) (IsParked (view_of m.mutator))

-- it may make one more call of its part
abbrev pub MayMake : Member → Type 0
MayMake m = (0 < m.left) × (m.ended ≡ false)

-- its share of its part is over: its calls are used up, or the last one ended it
abbrev pub MayEnd : Member → Type 0
MayEnd m = (m.left ≡ 0) ⊎ (m.ended ≡ true)

-- it is in the midst of a part, and its share of that is over
abbrev pub is_over : Member → Bool
is_over m = m.works && ((m.left == 0) || m.ended)

-- it begins a part before its next call: it is in the midst of none, or its share of that is over
abbrev pub begins_next : Member → Bool
begins_next m = not m.works || is_over m

-- the number of the last part that it has seen opened: after a call, of the part in which that call stands
abbrev pub last_part : Member → ℕ
last_part m = open_count (view_of m.mutator).seen

-- where its last call, which got this reply, asked for a cycle or is to be tried again, its share of its part is over
abbrev pub StopsAfter : Reply → Member → Type 0
StopsAfter reply m =
    (is_asked reply || is_some (retry_of (view_of m.mutator).who (view_of m.mutator).mine)) ≡ true → is_over m ≡ true

-- of a member what no beginning and no stop of a part changes
pub record Calling : Type 0 where
  pub who : ℕ
  pub mine : List Event
  pub claims : List ℕ
  pub has_left : Bool
  pub retry : Option Op

-- that of a member
abbrev pub caller_of : Member → Calling
caller_of m = record {
  who = (view_of m.mutator).who;
  mine = (view_of m.mutator).mine;
  claims = claims_of (view_of m.mutator);
  has_left = (view_of m.mutator).left;
  retry = m.retry;
}

-- the operation is the one that is to be tried again, if one is
abbrev pub Retries : View → Op → Type 0
Retries v op = (other : Op) → retry_of v.who v.mine ≡ Some other → op ≡ other
