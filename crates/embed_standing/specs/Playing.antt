-- What the actors of a row are between two calls, and which calls their scripts have.
use Rattle.std.specs.Prelude.{◌≡◌, ◌≢◌, ◌≤◌, [], false, List, All, IfSome, None, Option}
use Rattle.tide.specs.atomic_table.Seated.{TableId}
use Rattle.tide.specs.tide_model.Lawful.{FitsLayout}
use Rattle.tide.specs.tide_model.Layout.{Layout}
use Rattle.tide.specs.tide_model.Script.{retry_of}
use Rattle.tide.specs.tide_model.declared.op.Op.{Op}
use Rattle.tide.specs.tide_model.declared.op.Op.TheVariants.{Retire}
use Rattle.tide.specs.tide_mutator.calls.Called.{is_of_claims}
use Rattle.tide.specs.tide_mutator.calls.Viewed.{view_of}
use Rattle.tide.specs.tide_mutator.owed.Standing.{claims_of}
use Rattle.tide.specs.tide_server.Helpers.{IsHelperOf}
use Rattle.tide.specs.tide_server.Keepers.{KeeperStands}
use Rattle.tide.specs.tide_server.Members.{IsMemberOf}
use Rattle.tide.specs.tide_server.declared.helper.Helper.{Helper}
use Rattle.tide.specs.tide_server.declared.keeper.Keeper.{Keeper}
use Rattle.tide.specs.tide_server.declared.member.Member.{Member}
use Rattle.tide.specs.tide_server.declared.resting.Resting.{Resting}

-- a layout with as many registers and strong handles as the scripts name
pub record HasRoomForScripts (layout : Layout) : Type 0 where
  pub registers : 4 ≤ layout.registers
  pub strong : 2 ≤ layout.strong

-- an operation of the layout that neither claims a cell nor retires
pub record IsScriptCall (layout : Layout) (op : Op) : Type 0 where
  pub fits : FitsLayout layout op
  pub claims : is_of_claims op ≡ false
  pub goes_on : op ≢ Retire

-- a member that hasn't left, claims no cell, and has nothing to try again: any call may come next, or its leave
pub record MayCall (layout : Layout) (heap hands : TableId) (m : Member) : Type 0 where
  pub of : IsMemberOf layout heap hands m
  pub stays : (view_of m.mutator).left ≡ false
  pub bare : claims_of (view_of m.mutator) ≡ []
  pub settled : retry_of (view_of m.mutator).who (view_of m.mutator).mine ≡ None

-- members, of which each that wasn't taken yet may make any call
abbrev pub MayEachCall : Layout → TableId → TableId → List (Option Member) → Type 0
MayEachCall layout heap hands members = All (λ one. IfSome one (MayCall layout heap hands)) members

-- a member that rests: it hasn't left, claims no cell, and has nothing to try again
abbrev pub MayWake : Layout → TableId → TableId → Resting → Type 0
MayWake layout heap hands r = MayCall layout heap hands r.member

-- the actors of a heap whose first part is open: its keeper may turn, each member may make any call, and each helper
-- may work
pub record MayPlay (layout : Layout) (heap hands : TableId) (keeper : Keeper) (members : List Member)
    (helpers : List Helper) : Type 0 where
  pub has_room : HasRoomForScripts layout
  pub may_turn : KeeperStands layout heap hands keeper
  pub may_call : All (MayCall layout heap hands) members
  pub may_work : All (IsHelperOf layout heap hands) helpers
