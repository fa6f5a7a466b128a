-- The numbers of what exports answer, and what is asked of a party behind a handle.
use Rattle.std.specs.Prelude.{ℕ, ◌≡◌, Bool, None, Option, Some, false, true}
use Rattle.tide.specs.tide_snapshot.tide_retained.declared.contents.Contents.{Contents}
use Rattle.tide_c.specs.declared.party.HelperParty.{HelperParty}
use Rattle.tide_c.specs.declared.party.KeeperParty.{KeeperParty}
use Rattle.tide_c.specs.declared.party.MemberParty.{MemberParty}
use Rattle.tide_c.specs.declared.party.Party.{Party}
use Rattle.tide_c.specs.declared.party.Party.TheVariants as party
use Rattle.tide_c.specs.declared.status.Status.{Status}
use Rattle.tide_c.specs.declared.status.Status.TheVariants.{Again, Claims, Deep, Done, Filled, Kind, Left, Memory, Operation, Over, Retry, Size, Spent, Vacant, Wait}

-- the number by which C knows a status
abbrev pub code_of : Status → ℕ
code_of Done = 0
code_of Wait = 1
code_of Again = 2
code_of Over = 3
code_of Spent = 4
code_of Memory = 5
code_of Size = 6
code_of Filled = 7
code_of Vacant = 8
code_of Kind = 9
code_of Operation = 10
code_of Retry = 11
code_of Claims = 12
code_of Left = 13
code_of Deep = 14

-- it is of another kind, and stays as it is
abbrev IsRefused : Party → Party → Status → Type 0
IsRefused old new status = (status ≡ Kind) × (new ≡ old)

-- a member does this, and nobody else does anything
abbrev pub AsMember : (MemberParty → MemberParty → Status → Type 0) → Party → Party → Status → Type 0
AsMember Does (party.Member old) new status = (after : MemberParty) × (new ≡ party.Member after) × Does old after status
AsMember Does (party.Keeper old) new status = IsRefused (party.Keeper old) new status
AsMember Does (party.Helper old) new status = IsRefused (party.Helper old) new status
AsMember Does (party.Snapshot old) new status = IsRefused (party.Snapshot old) new status

-- a keeper does this, and nobody else does anything
abbrev pub AsKeeper : (KeeperParty → KeeperParty → Status → Type 0) → Party → Party → Status → Type 0
AsKeeper Does (party.Keeper old) new status = (after : KeeperParty) × (new ≡ party.Keeper after) × Does old after status
AsKeeper Does (party.Member old) new status = IsRefused (party.Member old) new status
AsKeeper Does (party.Helper old) new status = IsRefused (party.Helper old) new status
AsKeeper Does (party.Snapshot old) new status = IsRefused (party.Snapshot old) new status

-- a helper does this, and nobody else does anything
abbrev pub AsHelper : (HelperParty → HelperParty → Status → Type 0) → Party → Party → Status → Type 0
AsHelper Does (party.Helper old) new status = (after : HelperParty) × (new ≡ party.Helper after) × Does old after status
AsHelper Does (party.Keeper old) new status = IsRefused (party.Keeper old) new status
AsHelper Does (party.Member old) new status = IsRefused (party.Member old) new status
AsHelper Does (party.Snapshot old) new status = IsRefused (party.Snapshot old) new status

-- a snapshot tells this, and nobody else does anything
abbrev pub AsSnapshot : (Contents → Contents → Status → Type 0) → Party → Party → Status → Type 0
AsSnapshot Does (party.Snapshot old) new status = (after : Contents) × (new ≡ party.Snapshot after) × Does old after status
AsSnapshot Does (party.Keeper old) new status = IsRefused (party.Keeper old) new status
AsSnapshot Does (party.Member old) new status = IsRefused (party.Member old) new status
AsSnapshot Does (party.Helper old) new status = IsRefused (party.Helper old) new status

-- The party behind a handle does this, and C gets the number of its status. An empty handle stays empty.
abbrev pub Through : (Party → Party → Status → Type 0) → Option Party → Option Party → ℕ → Type 0
Through Does None after answer = (after ≡ None) × (answer ≡ code_of Vacant)
Through Does (Some old) after answer =
    (new : Party) × (status : Status) × (after ≡ Some new) × (answer ≡ code_of status) × Does old new status

-- whether a keeper is behind a handle
abbrev pub is_keeper : Option Party → Bool
is_keeper None = false
is_keeper (Some (party.Keeper one)) = true
is_keeper (Some (party.Member one)) = false
is_keeper (Some (party.Helper one)) = false
is_keeper (Some (party.Snapshot one)) = false
