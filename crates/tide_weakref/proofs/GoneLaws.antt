-- What is gone of a weak handle in use stays gone, whatever the realm is asked for.
use Rattle.std.proofs.Common.{ℕ, ◌≡◌, ◌<◌, refl, sym, ◌∙◌, ap, subst, Bool, true, false, List, [], ◌∷◌, length}
use Rattle.std.proofs.lemmas.List.Elements.{All-contains, Contains-push}
use Rattle.std.specs.Prelude.{Contains, drop}
use Rattle.atomic_table.specs.Seated.{TableId}
use Rattle.tide_model.specs.Caller.{MakesCall}
use Rattle.tide_model.specs.Layout.{Layout}
use Rattle.tide_model.specs.Prefix.{IsPrefix, prefix_refl}
use Rattle.tide_model.specs.Refused.{ShapeLists}
use Rattle.tide_model.specs.declared.entry.Event.{Event}
use Rattle.tide_model.specs.declared.op.Op.{Op}
use Rattle.tide_model.specs.declared.op.Reply.{Reply}
use Rattle.tide_weakref.proofs.Advances.{advances, call_event}
use Rattle.tide_weakref.proofs.CallLaws.{OthersLeave-prefix}
use Rattle.tide_weakref.proofs.CalledLaws.{calls_grow}
use Rattle.tide_weakref.proofs.ClosingLaws.{is_in}
use Rattle.tide_weakref.proofs.MadeLaws.{drop_all, made_later, made_more}
use Rattle.tide_weakref.proofs.OperationLaws.{stays_gone}
use Rattle.tide_weakref.specs.Calls.{MakesCalls, more, none}
use Rattle.tide_weakref.specs.Handles.{IsGone, IsIn, OthersLeave, op_sets_weak, sets_weak}
use Rattle.tide_weakref.specs.Jobs.{OthersSpare, handle_of}
use Rattle.tide_weakref.specs.Viewed.{jobs_of, view_of}
use Rattle.tide_weakref.specs.Worked.{HasWorked, IsReady}
use Rattle.tide_weakref.specs.declared.range.Range16.{Range16}
use Rattle.tide_weakref.specs.declared.realm.Realm.{Realm}
use Rattle.tide_weakref.specs.declared.weak.Weak.{Weak}

-- none of the events that a mutator made since a moment sets this weak handle
abbrev LeavesHandle : ℕ → List Event → List Event → Type 0
LeavesHandle handle mine new_mine = (event : Event) → Contains (drop (length mine) new_mine) event →
    sets_weak handle event.entry ≡ true → ⊥

unset : (b : Bool) → (b ≡ true → ⊥) → b ≡ false
unset true never = absurd (never refl)
unset false never = refl

module _ (layout : Layout) (shapes : ShapeLists) (who handle target : ℕ) (strong weak : Range16) (within : IsIn weak handle) where
  -- after one call
  gone_by_one : (op : Op) (reply : Reply) (seen mine new_seen new_mine : List Event) →
      MakesCall layout shapes who op reply seen new_seen mine new_mine → OthersLeave who strong weak new_seen →
      LeavesHandle handle mine new_mine → IsGone seen handle target → IsGone new_seen handle target
  gone_by_one op reply seen mine new_seen new_mine makes leave leaves is =
      let made = call_event who op reply makes.took in
      let one : drop (length mine) new_mine ≡ made ∷ [] =
      ap (λ (l : List Event). drop (length mine) l) makes.adds ∙ drop_all mine (made ∷ []) in
      stays_gone layout shapes who op reply seen new_seen mine
      (advances layout shapes who op reply seen seen new_seen mine new_mine (prefix_refl seen) makes.were_own makes)
      strong weak handle target leave within
      (unset (op_sets_weak handle op)
      (leaves made (subst (λ (l : List Event). Contains l made) (sym one) (Contains-push [] made)))) is

  -- and after some
  pub gone_by_calls : (seen mine new_seen new_mine : List Event) → MakesCalls layout shapes who seen mine new_seen new_mine →
      OthersLeave who strong weak new_seen → LeavesHandle handle mine new_mine → IsGone seen handle target →
      IsGone new_seen handle target
  gone_by_calls seen mine new_seen new_mine none leave leaves is = is
  gone_by_calls seen mine new_seen new_mine (more op reply {old_seen = mid_seen} {old_mine = mid_mine} first of_realm call) leave leaves is =
      let before = (calls_grow layout shapes who seen mine mid_seen mid_mine first).1 in
      let after : IsPrefix mid_mine new_mine = record { rest = _; joins = sym call.adds } in
      gone_by_one op reply mid_seen mid_mine new_seen new_mine call leave
      (λ event made sets. leaves event (made_later mine mid_mine new_mine event before after made) sets)
      (gone_by_calls seen mine mid_seen mid_mine first
      (OthersLeave-prefix who strong weak mid_seen new_seen call.seen leave)
      (λ event made sets. leaves event (made_more mine mid_mine new_mine event before after made) sets) is)

-- what was gone of a weak handle in use before a realm worked is gone after it
pub gone_stays : (id : TableId) (layout : Layout) (shapes : ShapeLists) (old new : Realm) → IsReady id layout old →
    HasWorked id layout shapes old new → OthersSpare (view_of old).who (jobs_of old) (view_of new).seen → (one : Weak) →
    Contains (jobs_of old).uses one → IsGone (view_of old).seen (handle_of (jobs_of old) one) one.target →
    IsGone (view_of new).seen (handle_of (jobs_of old) one) one.target
gone_stays id layout shapes old new ready worked spare one has is =
    let jobs = jobs_of old in
    let v = view_of old in
    let u = view_of new in
    let handle = handle_of jobs one in
    gone_by_calls layout shapes v.who handle one.target jobs.strong jobs.weak
    (is_in jobs one.at (All-contains (λ (o : Weak). o.at < jobs.weak.count) jobs.uses one ready.kept_jobs.keeps.holds.within.uses has))
    v.seen v.mine u.seen u.mine worked.called.makes spare
    (λ event made sets. worked.sets.spares one has (record { event = event; made = made; is = sets })) is
