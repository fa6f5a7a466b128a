-- What a call leaves of its member: its number, and what is to be tried again.
use Rattle.std.proofs.Common.{ℕ, ◌≡◌, refl, sym, ◌∙◌, ap, subst, Bool, true, false, true≢false, List, [], ◌∷◌, ◌++◌}
use Rattle.std.proofs.lemmas.Bool.{eqb-true}
use Rattle.std.proofs.lemmas.List.Elements.{All-pop, filter_passes}
use Rattle.std.specs.Prelude.{All, None, Option, Some, if◌then◌else◌, is_some}
use Rattle.tide.specs.atomic_table.Seated.{TableId}
use Rattle.tide.proofs.tide_model.OwnCalls.{called, retry_of-push}
use Rattle.tide.specs.tide_model.Caller.{IsOwn, MakesCall}
use Rattle.tide.specs.tide_model.History.{is_call_of}
use Rattle.tide.specs.tide_model.Layout.{Layout}
use Rattle.tide.specs.tide_model.Refused.{ShapeLists}
use Rattle.tide.specs.tide_model.Script.{is_full_reply, retry_after, retry_of}
use Rattle.tide.specs.tide_model.declared.entry.Event.{Event}
use Rattle.tide.specs.tide_model.declared.op.Op.{Op}
use Rattle.tide.specs.tide_model.declared.op.Reply.{Reply}
use Rattle.tide.specs.tide_mutator.calls.Viewed.{view_of}
use Rattle.tide.proofs.tide_server.Working.{owns}
use Rattle.tide.specs.tide_server.Members.{IsMemberOf}
use Rattle.tide.specs.tide_server.declared.member.Member.{Member}

-- whose own calls end with a call made it
pub caller_is : (who other : ℕ) (op : Op) (reply : Reply) (took : Option ℕ) (seen old mine : List Event) →
    mine ≡ old ++ called who op reply took ∷ [] → IsOwn other seen mine → who ≡ other
caller_is who other op reply took seen old mine adds own =
    let passes = subst (λ (es : List Event). All (λ e. is_call_of other e.entry ≡ true) es) (sym own)
    (filter_passes (λ (e : Event). is_call_of other e.entry) seen) in
    eqb-true who other
    (All-pop (λ (e : Event). is_call_of other e.entry ≡ true) mine old (Some (called who op reply took)) adds passes).1

module _ (layout : Layout) (heap hands : TableId) (shapes : ShapeLists) (op : Op) (reply : Reply) (old new : Member)
    (of : IsMemberOf layout heap hands new)
    (makes : MakesCall layout shapes (view_of old.mutator).who op reply (view_of old.mutator).seen
    (view_of new.mutator).seen (view_of old.mutator).mine (view_of new.mutator).mine) where
  -- a call leaves its member's number
  pub who_stays : (view_of old.mutator).who ≡ (view_of new.mutator).who
  who_stays = caller_is (view_of old.mutator).who (view_of new.mutator).who op reply makes.took (view_of new.mutator).seen
      (view_of old.mutator).mine (view_of new.mutator).mine makes.adds
      (owns new.works (view_of new.mutator) new.left new.ended of.stands)

  -- what is to be tried again after it
  pub retry_called : retry_of (view_of new.mutator).who (view_of new.mutator).mine
      ≡ retry_after (retry_of (view_of old.mutator).who (view_of old.mutator).mine) (op, reply)
  retry_called = ap (λ (who : ℕ). retry_of who (view_of new.mutator).mine) (sym who_stays)
      ∙ ap (λ (mine : List Event). retry_of (view_of old.mutator).who mine) makes.adds
      ∙ retry_of-push (view_of old.mutator).who (view_of old.mutator).mine op reply makes.took

module _ (retry : Option Op) (op : Op) (reply : Reply) (full : Bool) (none : retry ≡ None)
    (says : full ≡ is_full_reply reply) where
  -- a first refusal for room is to be tried again
  pub full_is_tried : full ≡ true → retry_after retry (op, reply) ≡ Some op
  full_is_tried is = ap (λ (r : Option Op). retry_after r (op, reply)) none
      ∙ ap (λ (b : Bool). if◌then◌else◌ {A = Option Op} b (Some op) None) (sym says ∙ is)

  -- after any other reply nothing is
  pub other_is_settled : full ≡ false → retry_after retry (op, reply) ≡ None
  other_is_settled is = ap (λ (r : Option Op). retry_after r (op, reply)) none
      ∙ ap (λ (b : Bool). if◌then◌else◌ {A = Option Op} b (Some op) None) (sym says ∙ is)

-- nor is anything after a call that was tried again, whatever it was answered
pub tried_is_settled : (retry : Option Op) (op tried : Op) (reply : Reply) → retry ≡ Some tried →
    retry_after retry (op, reply) ≡ None
tried_is_settled retry op tried reply is = ap (λ (r : Option Op). retry_after r (op, reply)) is

-- the operation, where there is one
abbrev op_in : Op → Option Op → Op
op_in other None = other
op_in other (Some op) = op

-- two that are to be tried again are the same
pub one_is_tried : (retry : Option Op) (op other : Op) → retry ≡ Some op → retry ≡ Some other → op ≡ other
one_is_tried retry op other is also = ap (op_in op) (sym is ∙ also)

-- where nothing was to be tried again before a call, nothing else is after it
pub call_is_tried : (retry : Option Op) (op other : Op) (reply : Reply) → retry ≡ None →
    retry_after retry (op, reply) ≡ Some other → op ≡ other
call_is_tried retry op other reply none is =
    by_reply (is_full_reply reply) (sym (ap (λ (r : Option Op). retry_after r (op, reply)) none) ∙ is)
  where
    by_reply : (full : Bool) → if◌then◌else◌ {A = Option Op} full (Some op) None ≡ Some other → op ≡ other
    by_reply true same = ap (op_in op) same
    by_reply false same = absurd (true≢false (sym (ap is_some same)))

-- what is there, where something is
pub what_is_tried : (retry : Option Op) → is_some retry ≡ true → (op : Op) × (retry ≡ Some op)
what_is_tried (Some op) is = (op, refl)
what_is_tried None is = absurd (true≢false (sym is))
