-- What those may do who have just got a seat.
use Rattle.std.proofs.Common.{ℕ, suc, ◌≡◌, ap, sym, subst, List, [], ◌∷◌}
use Rattle.std.proofs.lemmas.List.Elements.{All-cons, All-map, All-nil}
use Rattle.std.specs.Prelude.{All, IfSome, Option, Some, map}
use Rattle.tide.specs.atomic_table.Seated.{TableId}
use Rattle.embed_standing.specs.Playing.{HasRoomForScripts, MayCall, MayEachCall, MayPlay}
use Rattle.tide.specs.tide_model.Layout.{Layout}
use Rattle.tide.specs.tide_model.Script.{retry_of}
use Rattle.tide.specs.tide_mutator.calls.Viewed.{view_of}
use Rattle.tide.specs.tide_mutator.owed.Standing.{claims_of}
use Rattle.tide.specs.tide_heap.tide_core.declared.machine.view.View.{View}
use Rattle.tide.specs.tide_heap.tide_core.machine.Frozen.{newcomer}
use Rattle.tide.specs.tide_server.Helpers.{IsHelperOf}
use Rattle.tide.specs.tide_server.Keepers.{KeeperStands}
use Rattle.tide.specs.tide_server.Members.{IsMemberOf}
use Rattle.tide.specs.tide_server.Opened.{AreHelpers, AreMembers}
use Rattle.tide.specs.tide_server.declared.helper.Helper.{Helper}
use Rattle.tide.specs.tide_server.declared.keeper.Keeper.{Keeper}
use Rattle.tide.specs.tide_server.declared.member.Member.{Member}

module _ (layout : Layout) (heap hands : TableId) where
  -- a member that has made no call may make any
  pub first_may_call : (who : ℕ) (m : Member) → IsMemberOf layout heap hands m → view_of m.mutator ≡ newcomer who →
      MayCall layout heap hands m
  first_may_call who m of is = record {
    of = of;
    stays = ap (λ (v : View). v.left) is;
    bare = ap claims_of is;
    settled = ap (λ (v : View). retry_of v.who v.mine) is;
  }

  -- so all members of a heap that was just opened may
  pub all_may_call : (first : ℕ) (ms : List Member) → AreMembers layout heap hands first ms →
      All (MayCall layout heap hands) ms
  all_may_call first [] are = All-nil (MayCall layout heap hands)
  all_may_call first (m ∷ ms) are = All-cons (MayCall layout heap hands) m ms
      (first_may_call first m are.0 are.1) (all_may_call (suc first) ms are.2)

  -- and its helpers may work
  pub all_may_work : (first : ℕ) (hs : List Helper) → AreHelpers layout heap hands first hs →
      All (IsHelperOf layout heap hands) hs
  all_may_work first [] are = All-nil (IsHelperOf layout heap hands)
  all_may_work first (h ∷ hs) are = All-cons (IsHelperOf layout heap hands) h hs are.0 (all_may_work (suc first) hs are.2)

  -- and so all may play on it, by whatever name its layout and its table are known
  pub all_may_play : (other : Layout) (its : TableId) (k : Keeper) (ms : List Member) (hs : List Helper) →
      layout ≡ other → heap ≡ its → HasRoomForScripts layout → KeeperStands layout heap hands k →
      AreMembers layout heap hands 0 ms → AreHelpers layout heap hands 16 hs → MayPlay other its hands k ms hs
  all_may_play other its k ms hs same_layout same_heap room stands members helpers =
      subst (λ (l : Layout). MayPlay l its hands k ms hs) same_layout
      (subst (λ (id : TableId). MayPlay layout id hands k ms hs) same_heap (record {
        has_room = room;
        may_turn = stands;
        may_call = all_may_call 0 ms members;
        may_work = all_may_work 16 hs helpers;
      }))

  -- and so may those that are each to be taken by its thread
  pub each_may_call : (ms : List Member) (taken : List (Option Member)) → All (MayCall layout heap hands) ms →
      taken ≡ map Some ms → MayEachCall layout heap hands taken
  each_may_call ms taken may are = subst (MayEachCall layout heap hands) (sym are)
      (All-map (λ (one : Option Member). IfSome one (MayCall layout heap hands)) Some ms may)
