-- Calls of a realm's mutator one after another.
use Rattle.std.proofs.Common.{ℕ, ◌≡◌, refl, sym, ◌∙◌, ap, subst, true, List}
use Rattle.tide_heap.specs.tide_core.declared.machine.view.View.{View}
use Rattle.tide_model.specs.Caller.{MakesCall}
use Rattle.tide_model.specs.Layout.{Layout}
use Rattle.tide_model.specs.Prefix.{IsPrefix, prefix_refl, prefix_trans}
use Rattle.tide_model.specs.Refused.{ShapeLists}
use Rattle.tide_model.specs.declared.entry.Event.{Event}
use Rattle.tide_model.specs.declared.op.Op.{Op}
use Rattle.tide_model.specs.declared.op.Reply.{Reply}
use Rattle.tide_mutator.specs.owed.Calling.{Kept, kept}
use Rattle.tide_mutator.specs.owed.Standing.{claims_of}
use Rattle.atomic_table.specs.Seated.{TableId}
use Rattle.tide_mutator.specs.calls.Viewed as works
use Rattle.tide_mutator.specs.declared.calls.mutator.Mutator.{Mutator}
use Rattle.tide_weakref.proofs.SettingLaws.{alone_then, set_then, sets_then}
use Rattle.tide_weakref.specs.Calls.{HasCalled, IsRunning, MakesCalls, is_of_realm, more, none}
use Rattle.tide_weakref.specs.Jobs.{HasKeptJobs}
use Rattle.tide_weakref.specs.Setting.{SetsAlone, SetsNone, SetsOnly, SetsWhatItTakes, WasSet}
use Rattle.tide_weakref.specs.Stepping.{HasStepped}
use Rattle.tide_weakref.specs.Uses.{GoesOn}
use Rattle.tide_weakref.specs.Viewed.{jobs_of, view_of}
use Rattle.tide_weakref.specs.Worked.{HasWorked}
use Rattle.tide_weakref.specs.declared.realm.Realm.{Realm}

calls_then : (layout : Layout) (shapes : ShapeLists) (who : ℕ) (seen mine old_seen old_mine new_seen new_mine : List Event) →
    MakesCalls layout shapes who seen mine old_seen old_mine → MakesCalls layout shapes who old_seen old_mine new_seen new_mine →
    MakesCalls layout shapes who seen mine new_seen new_mine
calls_then layout shapes who seen mine old_seen old_mine new_seen new_mine first none = first
calls_then layout shapes who seen mine old_seen old_mine new_seen new_mine first (more op reply {old_seen = mid_seen} {old_mine = mid_mine} second of_realm call) =
    more op reply (calls_then layout shapes who seen mine old_seen old_mine mid_seen mid_mine first second) of_realm call

-- what was seen and made is a beginning of what is seen and made then
pub calls_grow : (layout : Layout) (shapes : ShapeLists) (who : ℕ) (seen mine new_seen new_mine : List Event) →
    MakesCalls layout shapes who seen mine new_seen new_mine → IsPrefix seen new_seen × IsPrefix mine new_mine
calls_grow layout shapes who seen mine new_seen new_mine none = (prefix_refl seen, prefix_refl mine)
calls_grow layout shapes who seen mine new_seen new_mine (more op reply {old_seen = mid_seen} {old_mine = mid_mine} first of_realm call) =
    let before = calls_grow layout shapes who seen mine mid_seen mid_mine first in (
      prefix_trans seen mid_seen new_seen before.0 call.seen,
      prefix_trans mine mid_mine new_mine before.1 (record { rest = _; joins = sym call.adds }),
    )

module _ (layout : Layout) (shapes : ShapeLists) where
  pub called_none : (v : View) → HasCalled layout shapes v v
  called_none v = record { makes = none; kept = refl; stays = refl; births = refl; claims = refl }

  pub called_one : (v u : View) (op : Op) (reply : Reply) → is_of_realm op ≡ true →
      MakesCall layout shapes v.who op reply v.seen u.seen v.mine u.mine → kept u ≡ kept v → u.left ≡ v.left →
      u.born ≡ v.born → claims_of u ≡ claims_of v → HasCalled layout shapes v u
  called_one v u op reply of_realm makes same stays births claims = record {
    makes = more op reply none of_realm makes;
    kept = same;
    stays = stays;
    births = births;
    claims = claims;
  }

  pub called_then : (v w u : View) → HasCalled layout shapes v w → HasCalled layout shapes w u → HasCalled layout shapes v u
  called_then v w u first second = record {
    makes = calls_then layout shapes v.who v.seen v.mine w.seen w.mine u.seen u.mine first.makes
        (subst (λ (n : ℕ). MakesCalls layout shapes n w.seen w.mine u.seen u.mine) (ap (λ (k : Kept). k.who) first.kept) second.makes);
    kept = second.kept ∙ first.kept;
    stays = second.stays ∙ first.stays;
    births = second.births ∙ first.births;
    claims = second.claims ∙ first.claims;
  }

  pub called_seen : (v u : View) → HasCalled layout shapes v u → IsPrefix v.seen u.seen
  called_seen v u called = (calls_grow layout shapes v.who v.seen v.mine u.seen u.mine called.makes).0

  pub called_mine : (v u : View) → HasCalled layout shapes v u → IsPrefix v.mine u.mine
  called_mine v u called = (calls_grow layout shapes v.who v.seen v.mine u.seen u.mine called.makes).1

  pub called_who : (v u : View) → HasCalled layout shapes v u → u.who ≡ v.who
  called_who v u called = ap (λ (k : Kept). k.who) called.kept

-- and the mutator that made them
module _ {id : TableId} {layout : Layout} {shapes : ShapeLists} where
  pub stepped_none : (at : Mutator) → IsRunning id layout at → HasStepped id layout shapes at at
  stepped_none at running = record {
    running = running;
    seat = refl;
    who = refl;
    called = called_none layout shapes (works.view_of at);
    own = λ own. own;
  }

  pub stepped_then : (old mid new : Mutator) → HasStepped id layout shapes old mid → HasStepped id layout shapes mid new →
      HasStepped id layout shapes old new
  stepped_then old mid new first second = record {
    running = second.running;
    seat = second.seat ∙ first.seat;
    who = second.who ∙ first.who;
    called = called_then layout shapes (works.view_of old) (works.view_of mid) (works.view_of new) first.called second.called;
    own = λ own. first.own (second.own own);
  }

  pub stepped_seen : (old new : Mutator) → HasStepped id layout shapes old new →
      IsPrefix (works.view_of old).seen (works.view_of new).seen
  stepped_seen old new stepped = called_seen layout shapes (works.view_of old) (works.view_of new) stepped.called

  pub stepped_mine : (old new : Mutator) → HasStepped id layout shapes old new →
      IsPrefix (works.view_of old).mine (works.view_of new).mine
  stepped_mine old new stepped = called_mine layout shapes (works.view_of old) (works.view_of new) stepped.called

  -- the handles that they set
  pub stepped_sets_then : {These Those : ℕ → Type 0} (old mid new : Mutator) → HasStepped id layout shapes old mid →
      HasStepped id layout shapes mid new → SetsOnly These Those (works.view_of old) (works.view_of mid) →
      SetsOnly These Those (works.view_of mid) (works.view_of new) → SetsOnly These Those (works.view_of old) (works.view_of new)
  stepped_sets_then old mid new first second = sets_then (works.view_of old) (works.view_of mid) (works.view_of new)
      (stepped_mine old mid first) (stepped_mine mid new second)

  pub stepped_set_then : (old mid new : Mutator) (handle : ℕ) → HasStepped id layout shapes old mid →
      HasStepped id layout shapes mid new → WasSet (works.view_of old) (works.view_of mid) handle →
      WasSet (works.view_of old) (works.view_of new) handle
  stepped_set_then old mid new handle first second = set_then (works.view_of old) (works.view_of mid) (works.view_of new)
      (stepped_mine old mid first) (stepped_mine mid new second) handle

  pub stepped_alone_then : (old mid new : Mutator) (handle : ℕ) → HasStepped id layout shapes old mid →
      HasStepped id layout shapes mid new → SetsAlone (works.view_of old) (works.view_of mid) handle →
      SetsNone (works.view_of mid) (works.view_of new) → SetsAlone (works.view_of old) (works.view_of new) handle
  stepped_alone_then old mid new handle first second = alone_then (works.view_of old) (works.view_of mid) (works.view_of new)
      (stepped_mine old mid first) (stepped_mine mid new second) handle

  -- a realm whose mutator made some, and which kept its jobs
  pub worked_by : (old new : Realm) → HasStepped id layout shapes old.mutator new.mutator → GoesOn (jobs_of old) (jobs_of new) →
      SetsWhatItTakes (view_of old) (view_of new) (jobs_of old) (jobs_of new) → HasKeptJobs layout (view_of new) (jobs_of new) →
      HasWorked id layout shapes old new
  worked_by old new stepped goes_on sets kept = record {
    seat = stepped.seat;
    called = stepped.called;
    goes_on = goes_on;
    sets = sets;
    ready = record { running = stepped.running; kept_jobs = kept };
  }
