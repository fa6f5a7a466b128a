-- What a call leaves of its member: its number, and what is to be tried again.
use Rattle.std.proofs.Common.{ℕ, ◌≡◌, refl, sym, ◌∙◌, ap, subst, Bool, true, false, true≢false, List, [], ◌∷◌, ◌++◌}
use Rattle.std.proofs.lemmas.Bool.{eq-eqb, eqb-true}
use Rattle.std.proofs.lemmas.List.{append_cancel_right}
use Rattle.std.proofs.lemmas.List.Elements.{All-pop, filter-append, filter_passes}
use Rattle.std.specs.Prelude.{All, ◌||◌, None, Option, Some, filter, is_some, if◌then◌else◌}
use Rattle.tide_server.specs.atomic_table.Seated.{TableId}
use Rattle.tide_server.proofs.tide_model.OwnCalls.{called, calls_of-mine, is_own, retry_of-push}
use Rattle.tide_server.proofs.Working.{owns}
use Rattle.tide_server.specs.Members.{IsMemberOf}
use Rattle.tide_server.specs.declared.member.Member.{Member}
use Rattle.tide_server.specs.tide_model.Caller.{IsOwn, MakesCall}
use Rattle.tide_server.specs.tide_model.History.{is_call_of}
use Rattle.tide_server.specs.tide_model.Layout.{Layout}
use Rattle.tide_server.specs.tide_model.Refused.{ShapeLists}
use Rattle.tide_server.specs.tide_model.Script.{is_full_reply, retry_after, retry_after_all, retry_of}
use Rattle.tide_server.specs.tide_model.Share.{is_asked}
use Rattle.tide_server.specs.tide_model.declared.entry.Event.{Event}
use Rattle.tide_server.specs.tide_model.declared.op.Op.{Op}
use Rattle.tide_server.specs.tide_model.declared.op.Reply.{Reply}
use Rattle.tide_server.specs.tide_mutator.calls.Viewed.{view_of}

-- whose own calls end with a call made it
pub caller_is : (who other : ℕ) (op : Op) (reply : Reply) (took : Option ℕ) (seen old mine : List Event) →
    mine ≡ old ++ called who op reply took ∷ [] → IsOwn other seen mine → who ≡ other
caller_is who other op reply took seen old mine adds own =
    let passes = subst (λ (es : List Event). All (λ e. is_call_of other e.entry ≡ true) es) (sym own)
    (filter_passes (λ (e : Event). is_call_of other e.entry) seen) in
    eqb-true who other
    (All-pop (λ (e : Event). is_call_of other e.entry ≡ true) mine old (Some (called who op reply took)) adds passes).1

module _ (layout : Layout) (heap hands : TableId) (shapes : ShapeLists) (op : Op) (reply : Reply) (old new : Member)
    (of : IsMemberOf layout heap hands new)
    (makes : MakesCall layout shapes (view_of old.mutator).who op reply (view_of old.mutator).seen
    (view_of new.mutator).seen (view_of old.mutator).mine (view_of new.mutator).mine) where
  -- a call leaves its member's number
  pub who_stays : (view_of old.mutator).who ≡ (view_of new.mutator).who
  who_stays = caller_is (view_of old.mutator).who (view_of new.mutator).who op reply makes.took (view_of new.mutator).seen
      (view_of old.mutator).mine (view_of new.mutator).mine makes.adds
      (owns new.works (view_of new.mutator) new.left new.ended of.stands)

  -- what is to be tried again after it
  pub retry_called : retry_of (view_of new.mutator).who (view_of new.mutator).mine
      ≡ retry_after (retry_of (view_of old.mutator).who (view_of old.mutator).mine) (op, reply)
  retry_called = ap (λ (who : ℕ). retry_of who (view_of new.mutator).mine) (sym who_stays)
      ∙ ap (λ (mine : List Event). retry_of (view_of old.mutator).who mine) makes.adds
      ∙ retry_of-push (view_of old.mutator).who (view_of old.mutator).mine op reply makes.took

-- what was to be tried again right before a call is what its caller's own calls tell
pub retry_before : (layout : Layout) (shapes : ShapeLists) (who : ℕ) (op : Op) (reply : Reply)
    (old_seen new_seen old_mine new_mine : List Event) →
    (makes : MakesCall layout shapes who op reply old_seen new_seen old_mine new_mine) →
    retry_of who makes.between ≡ retry_of who old_mine
retry_before layout shapes who op reply old_seen new_seen old_mine new_mine makes =
    sym (ap (retry_after_all None) (calls_of-mine who makes.between old_mine own))
  where
    call : Event
    call = called who op reply makes.took

    own : IsOwn who makes.between old_mine
    own = append_cancel_right old_mine (filter (is_own who) makes.between) (call ∷ []) (sym makes.adds ∙ makes.are_own
        ∙ ap (filter (is_own who)) makes.ends ∙ filter-append (is_own who) makes.between (call ∷ [])
        ∙ ap (λ (b : Bool). filter (is_own who) makes.between ++ (if b then call ∷ [] else [])) (eq-eqb who who refl))

-- the operation, where there is one
abbrev op_in : Op → Option Op → Op
op_in other None = other
op_in other (Some op) = op

-- two that are to be tried again are the same
pub one_is_tried : (retry : Option Op) (op other : Op) → retry ≡ Some op → retry ≡ Some other → op ≡ other
one_is_tried retry op other is also = ap (op_in op) (sym is ∙ also)

-- no operation is to be tried again where none is
pub none_is_tried : (retry : Option Op) (op other : Op) → retry ≡ None → retry ≡ Some other → op ≡ other
none_is_tried retry op other none is = absurd (true≢false (ap is_some (sym is ∙ none)))

module _ (op : Op) (reply : Reply) where
  -- the operation is to be tried again where it found no room
  pub full_is_tried : is_some (retry_after None (op, reply)) ≡ true →
      (is_full_reply reply ≡ true) × (retry_after None (op, reply) ≡ Some op)
  full_is_tried = by_full (is_full_reply reply)
    where
      by_full : (full : Bool) → is_some (if◌then◌else◌ {A = Option Op} full (Some op) None) ≡ true →
          (full ≡ true) × (if◌then◌else◌ {A = Option Op} full (Some op) None ≡ Some op)
      by_full true is = (refl, refl)
      by_full false is = absurd (true≢false (sym is))

  -- and only there
  pub settled_has_room : is_some (retry_after None (op, reply)) ≡ false → is_full_reply reply ≡ false
  settled_has_room = by_full (is_full_reply reply)
    where
      by_full : (full : Bool) → is_some (if◌then◌else◌ {A = Option Op} full (Some op) None) ≡ false → full ≡ false
      by_full true is = absurd (true≢false is)
      by_full false is = refl

-- a share is over after a call that asked for a cycle, and after one that is to be tried again
pub asked_stops : (reply : Reply) (tries : Bool) → is_asked reply ≡ true → (is_asked reply || tries) ≡ true
asked_stops reply tries asked = ap (λ (b : Bool). b || tries) asked

pub tried_stops : (reply : Reply) (tries : Bool) → tries ≡ true → (is_asked reply || tries) ≡ true
tried_stops reply tries is = ap (λ (b : Bool). is_asked reply || b) is ∙ or_true (is_asked reply)
  where
    or_true : (b : Bool) → (b || true) ≡ true
    or_true true = refl
    or_true false = refl

-- nothing is to be tried again after a call that was tried again, whatever it was answered
pub tried_is_settled : (retry : Option Op) (op tried : Op) (reply : Reply) → retry ≡ Some tried →
    retry_after retry (op, reply) ≡ None
tried_is_settled retry op tried reply is = ap (λ (r : Option Op). retry_after r (op, reply)) is

-- what isn't some is none
pub not_some : (retry : Option Op) → is_some retry ≡ false → retry ≡ None
not_some None is = refl
not_some (Some op) is = absurd (true≢false is)
