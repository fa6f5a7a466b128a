-- What C gets of what the party behind a handle did.
use Rattle.std.proofs.Common.{ℕ, ◌≡◌, sym, subst}
use Rattle.std.specs.Prelude.{Option, Some}
use Rattle.tide.specs.tide_snapshot.tide_retained.declared.contents.Contents.{Contents}
use Rattle.tide_c.specs.Statuses.{AsHelper, AsKeeper, AsMember, AsSnapshot, Through, code_of}
use Rattle.tide_c.specs.declared.party.HelperParty.{HelperParty}
use Rattle.tide_c.specs.declared.party.KeeperParty.{KeeperParty}
use Rattle.tide_c.specs.declared.party.MemberParty.{MemberParty}
use Rattle.tide_c.specs.declared.party.Party.{Party}
use Rattle.tide_c.specs.declared.party.Party.TheVariants.{Helper, Keeper, Member, Snapshot}
use Rattle.tide_c.specs.declared.status.Status.{Status}

pub through : (Does : Party → Party → Status → Type 0) (old new : Option Party) (answer : ℕ) (before after : Party) (status : Status) →
    old ≡ Some before → new ≡ Some after → answer ≡ code_of status → Does before after status → Through Does old new answer
through Does old new answer before after status is_old is_new is_answer did =
    subst (λ (value : Option Party). Through Does value new answer) (sym is_old) (after, status, is_new, is_answer, did)

-- a member did it
pub by_member : (Does : MemberParty → MemberParty → Status → Type 0) (old new : Party) (before after : MemberParty) (status : Status) →
    old ≡ Member before → new ≡ Member after → Does before after status → AsMember Does old new status
by_member Does old new before after status is_old is_new did =
    subst (λ (p : Party). AsMember Does p new status) (sym is_old) (after, is_new, did)

-- a keeper did it
pub by_keeper : (Does : KeeperParty → KeeperParty → Status → Type 0) (old new : Party) (before after : KeeperParty) (status : Status) →
    old ≡ Keeper before → new ≡ Keeper after → Does before after status → AsKeeper Does old new status
by_keeper Does old new before after status is_old is_new did =
    subst (λ (p : Party). AsKeeper Does p new status) (sym is_old) (after, is_new, did)

-- a helper did it
pub by_helper : (Does : HelperParty → HelperParty → Status → Type 0) (old new : Party) (before after : HelperParty) (status : Status) →
    old ≡ Helper before → new ≡ Helper after → Does before after status → AsHelper Does old new status
by_helper Does old new before after status is_old is_new did =
    subst (λ (p : Party). AsHelper Does p new status) (sym is_old) (after, is_new, did)

-- a snapshot told it
pub by_snapshot : (Does : Contents → Contents → Status → Type 0) (old new : Party) (before after : Contents) (status : Status) →
    old ≡ Snapshot before → new ≡ Snapshot after → Does before after status → AsSnapshot Does old new status
by_snapshot Does old new before after status is_old is_new did =
    subst (λ (p : Party). AsSnapshot Does p new status) (sym is_old) (after, is_new, did)
