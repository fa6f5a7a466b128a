-- Of what sizes a heap is opened, and what is there then.
use Rattle.std.specs.Prelude.{ℕ, ◌≡◌, ◌≤◌, ◌-◌, List, false, length, map}
use Rattle.std.specs.Arc.{arc_value}
use Rattle.std.specs.List.{AllZip}
use Rattle.std.specs.declared.alloc.Global.{Global}
use Rattle.std.specs.declared.boxed.Box.{Box}
use Rattle.tide.specs.atomic_table.Seated.{TableId}
use Rattle.tide.specs.tide_layout.Limits.{HasFewBlocks}
use Rattle.tide.specs.tide_model.Layout.{Layout}
use Rattle.tide.specs.tide_model.Pace.{Pace}
use Rattle.tide.specs.tide_sched.Paces.{pace_of}
use Rattle.tide.specs.tide_server.Opened.{AreHelpers, AreMembers}
use Rattle.tide.specs.tide_server.declared.helper.Helper.{Helper}
use Rattle.tide.specs.tide_server.declared.member.Member.{Member}
use Rattle.tide_c.specs.Figures.{none_yet}
use Rattle.tide_c.specs.Parties.{IsKeeper}
use Rattle.tide_c.specs.declared.opening.Bounds.{Bounds}
use Rattle.tide_c.specs.declared.opening.Sizes.{Sizes}
use Rattle.tide_c.specs.declared.party.HelperParty.{HelperParty}
use Rattle.tide_c.specs.declared.party.KeeperParty.{KeeperParty}
use Rattle.tide_c.specs.declared.party.MemberParty.{MemberParty}
use Rattle.tide_c.specs.declared.party.Party.{Party}
use Rattle.tide_c.specs.declared.party.Party.TheVariants as kind
use Rattle.tide_c.specs.declared.party.Phase.TheVariants.{Open}

-- the most of each size, and the least of calls and of visits
abbrev pub limits : Bounds
limits = record {
  members = 16;
  helpers = 8;
  blocks = 262144;
  registers = 250;
  strong = 65535;
  weak = 65535;
  least_calls = 4;
  calls = 65536;
  least_visits = 4;
  visits = 65536;
  headroom = 1000000;
  trigger = 1000000;
}

-- the numbers of the schedule are within their limits
pub record IsPaced (sizes : Sizes) : Type 0 where
  pub calls : 4 ≤ sizes.calls
  pub few_calls : sizes.calls ≤ 65536
  pub visits : 4 ≤ sizes.visits
  pub few_visits : sizes.visits ≤ 65536
  pub some : 1 ≤ sizes.headroom
  pub few : sizes.headroom ≤ 1000000
  pub soon : sizes.trigger ≤ 1000000

-- all sizes are within their limits, for so many members and helpers
pub record AreWithin (sizes : Sizes) (members helpers : ℕ) : Type 0 where
  pub cells : HasFewBlocks sizes.cells
  pub arrays : HasFewBlocks sizes.arrays
  pub registers : sizes.registers ≤ 250
  pub stack : sizes.stack ≤ sizes.registers
  pub strong : sizes.strong ≤ 65535
  pub weak : sizes.weak ≤ 65535
  pub some : 1 ≤ members
  pub few : members ≤ 16
  pub few_helpers : helpers ≤ 8
  pub paced : IsPaced sizes

-- the layout of these sizes, for so many members and helpers
abbrev pub layout_of : Sizes → ℕ → ℕ → Layout
layout_of sizes members helpers = record {
  cell_blocks = sizes.cells;
  array_blocks = sizes.arrays;
  registers = sizes.registers;
  strong = sizes.strong;
  weak = sizes.weak;
  mutators = members;
  visitors = helpers;
}

-- the numbers of their schedule
abbrev pub pace_of_sizes : Sizes → Pace
pace_of_sizes sizes = record {
  calls = sizes.calls;
  visits = sizes.visits;
  headroom = sizes.headroom;
  trigger = sizes.trigger;
}

-- what is in boxes
abbrev pub parties_in : List (Box Party Global) → List Party
parties_in boxes = map (λ (box : Box Party Global). box.value) boxes

-- The party is this member, on the heap with this layout, this table and this table of hands. Its root stack begins at
-- this register, and is empty.
pub record HasSeat (layout : Layout) (heap hands : TableId) (base : ℕ) (member : Member) (one : Party) : Type 0 where
  pub party : MemberParty
  pub is : one ≡ kind.Member party
  pub its_layout : (arc_value party.shared).heap.key.layout ≡ layout
  pub its_heap : (arc_value party.shared).heap.table.shared.table_id ≡ heap
  pub its_hands : (arc_value party.shared).hands.shared.table_id ≡ hands
  pub is_member : party.member ≡ member
  pub stays : party.has_left ≡ false
  pub begins : party.base ≡ base
  pub empty : party.top ≡ base

-- the party is this helper, on the heap with this layout, this table and this table of hands
pub record HasPlace (layout : Layout) (heap hands : TableId) (helper : Helper) (one : Party) : Type 0 where
  pub party : HelperParty
  pub is : one ≡ kind.Helper party
  pub its_layout : (arc_value party.shared).heap.key.layout ≡ layout
  pub its_heap : (arc_value party.shared).heap.table.shared.table_id ≡ heap
  pub its_hands : (arc_value party.shared).hands.shared.table_id ≡ hands
  pub is_helper : party.helper ≡ helper

-- A heap of these sizes is open: its keeper may turn and hasn't yet, and its members have made no call and its helpers
-- no visit.
pub record HasOpened (sizes : Sizes) (members helpers : ℕ) (keeper : Party) (ms hs : List Party) : Type 0 where
  pub first : KeeperParty
  pub is : keeper ≡ kind.Keeper first
  pub layout : (arc_value first.shared).heap.key.layout ≡ layout_of sizes members helpers
  pub stands : IsKeeper first
  pub begins : first.phase ≡ Open
  pub figures : first.figures ≡ none_yet
  pub pace : pace_of first.keeper.books.pacing ≡ pace_of_sizes sizes
  pub seats : List Member
  pub each_member : length seats ≡ members
  pub are : AreMembers (arc_value first.shared).heap.key.layout (arc_value first.shared).heap.table.shared.table_id
      (arc_value first.shared).hands.shared.table_id 0 seats
  pub seated : AllZip (HasSeat (arc_value first.shared).heap.key.layout (arc_value first.shared).heap.table.shared.table_id
      (arc_value first.shared).hands.shared.table_id (sizes.registers - sizes.stack)) seats ms
  pub places : List Helper
  pub each_helper : length places ≡ helpers
  pub work : AreHelpers (arc_value first.shared).heap.key.layout (arc_value first.shared).heap.table.shared.table_id
      (arc_value first.shared).hands.shared.table_id 16 places
  pub placed : AllZip (HasPlace (arc_value first.shared).heap.key.layout (arc_value first.shared).heap.table.shared.table_id
      (arc_value first.shared).hands.shared.table_id) places hs
