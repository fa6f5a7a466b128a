-- What stands behind a handle: a party that belongs to the heap that it shares.
use Rattle.std.specs.Prelude.{◌≡◌, [], true}
use Rattle.std.specs.Arc.{arc_value}
use Rattle.tide.specs.tide_mutator.calls.Viewed.{view_of}
use Rattle.tide.specs.tide_server.Helpers.{IsHelperOf}
use Rattle.tide.specs.tide_server.Keepers.{KeeperStands}
use Rattle.tide.specs.tide_server.Members.{IsMemberOf, MayMake}
use Rattle.tide_c.specs.declared.party.HelperParty.{HelperParty}
use Rattle.tide_c.specs.declared.party.KeeperParty.{KeeperParty}
use Rattle.tide_c.specs.declared.party.MemberParty.{MemberParty}
use Rattle.tide_c.specs.declared.party.Party.{Party}
use Rattle.tide_c.specs.declared.party.Party.TheVariants.{Helper, Keeper, Member, Snapshot}
use Rattle.tide_c.specs.declared.party.Phase.TheVariants.{Open}

-- a member of its heap, which knows whether it has left, and is in the midst of a part only while it may make a call
pub record IsMember (m : MemberParty) : Type 0 where
  pub of : IsMemberOf (arc_value m.shared).heap.key.layout (arc_value m.shared).heap.table.shared.table_id
      (arc_value m.shared).hands.shared.table_id m.member
  pub left : m.has_left ≡ (view_of m.member.mutator).left
  pub goes_on : m.member.works ≡ true → MayMake m.member

-- a keeper of its heap, which may turn while its part is open, and whose report tells nothing between two turns
pub record IsKeeper (k : KeeperParty) : Type 0 where
  pub turns : k.phase ≡ Open → KeeperStands (arc_value k.shared).heap.key.layout
      (arc_value k.shared).heap.table.shared.table_id (arc_value k.shared).hands.shared.table_id k.keeper
  pub empty : (k.report.cycles ≡ []) × (k.report.ids ≡ [])

-- a helper of its heap
abbrev pub IsHelper : HelperParty → Type 0
IsHelper h = IsHelperOf (arc_value h.shared).heap.key.layout (arc_value h.shared).heap.table.shared.table_id
    (arc_value h.shared).hands.shared.table_id h.helper

-- a party of its heap, or a snapshot
abbrev pub PartyStands : Party → Type 0
PartyStands (Keeper k) = IsKeeper k
PartyStands (Member m) = IsMember m
PartyStands (Helper h) = IsHelper h
PartyStands (Snapshot taken) = Unit {0}
