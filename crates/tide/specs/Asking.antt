-- A member that may make any call, and what one call of it is that is tried again where it found no room.
use Rattle.std.specs.Prelude.{ℕ, ◌≡◌, ◌⊎◌, ◌<◌, true, false, List, MatchBool, None, is_some}
use Rattle.tide_server.specs.atomic_table.Seated.{TableId}
use Rattle.tide_server.specs.AtWork.{IsAtWork, IsParked}
use Rattle.tide_server.specs.Members.{IsMemberOf}
use Rattle.tide_server.specs.declared.member.Member.{Member}
use Rattle.tide_server.specs.tide_model.Caller.{MakesCall}
use Rattle.tide_server.specs.tide_model.Layout.{Layout}
use Rattle.tide_server.specs.tide_model.Periods.{open_count}
use Rattle.tide_server.specs.tide_model.Refused.{ShapeLists}
use Rattle.tide_server.specs.tide_model.Script.{is_full_reply, retry_of}
use Rattle.tide_server.specs.tide_model.declared.entry.Event.{Event}
use Rattle.tide_server.specs.tide_model.declared.op.Op.{Op}
use Rattle.tide_server.specs.tide_model.declared.op.Reply.{Reply}
use Rattle.tide_server.specs.tide_mutator.calls.Viewed.{table_of, view_of}
use Rattle.tide_server.specs.tide_posts.FullCycles.{RanFullCycle}

-- a member that hasn't left and has nothing to try again: any call may come next
pub record MayCall (layout : Layout) (heap hands : TableId) (m : Member) : Type 0 where
  pub of : IsMemberOf layout heap hands m
  pub stays : (view_of m.mutator).left ≡ false
  pub settled : retry_of (view_of m.mutator).who (view_of m.mutator).mine ≡ None

-- of such a member what its fields tell
pub record IsSettledOf (layout : Layout) (heap hands : TableId) (m : Member) : Type 0 where
  pub table : table_of m.mutator ≡ heap
  pub seated : m.seat.seat.table_id ≡ hands
  pub named : m.seat.seat.me.0.name ≡ record { layout = layout; table_id = heap }
  pub is_mutator : (view_of m.mutator).who < layout.mutators
  pub stays : (view_of m.mutator).left ≡ false
  pub settled : is_some (retry_of (view_of m.mutator).who (view_of m.mutator).mine) ≡ false

-- it is in the midst of its part, or parked
abbrev pub StandsIn : Member → Type 0
StandsIn m = MatchBool m.works (IsAtWork (view_of m.mutator) m.left m.ended) (IsParked (view_of m.mutator))

-- what a caller has seen of the one history, and its own calls of that
pub record Past : Type 0 where
  pub seen : List Event
  pub mine : List Event

abbrev pub past_of : Member → Past
past_of m = record { seen = (view_of m.mutator).seen; mine = (view_of m.mutator).mine }

-- one call takes its caller from one moment to another
abbrev pub Makes : Layout → ShapeLists → ℕ → Op → Reply → Past → Past → Type 0
Makes layout shapes who op reply old new = MakesCall layout shapes who op reply old.seen new.seen old.mine new.mine

-- a call that was refused for room, and then the same one again, in a later part, behind a full cycle
pub record MakesTwice (layout : Layout) (shapes : ShapeLists) (who : ℕ) (op : Op) (reply : Reply) (old new : Past)
    : Type 0 where
  pub first : Reply
  pub between : Past
  pub full : is_full_reply first ≡ true
  pub makes : Makes layout shapes who op first old between
  pub again : Makes layout shapes who op reply between new
  pub later : open_count between.seen < open_count new.seen
  pub cycle : RanFullCycle between.seen new.seen

-- a call, which is made once more, behind a full cycle, where it was refused for room, and only there
abbrev pub Asks : Layout → ShapeLists → ℕ → Op → Reply → Past → Past → Type 0
Asks layout shapes who op reply old new =
    (Makes layout shapes who op reply old new × (is_full_reply reply ≡ false))
    ⊎ MakesTwice layout shapes who op reply old new
