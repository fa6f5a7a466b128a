-- What a beginning of a part and a call come to, one after the other.
use Rattle.std.proofs.Common.{ℕ, ◌≡◌, ap, refl, sym, subst, ◌∙◌, Bool, true, false, true≢false, List, [], ◌∷◌, ◌++◌}
use Rattle.std.proofs.lemmas.Bool.{eqb-true}
use Rattle.std.proofs.lemmas.List.Elements.{All-pop, filter_passes}
use Rattle.std.specs.Arc.{arc_value}
use Rattle.std.specs.Prelude.{All, None, Option, Some, if◌then◌else◌, is_some}
use Rattle.tide.proofs.tide_model.OwnCalls.{called, retry_of-push}
use Rattle.tide.proofs.tide_server.Working.{MakesCall-later, owns}
use Rattle.tide.specs.tide_model.Caller.{IsOwn, MakesCall}
use Rattle.tide.specs.tide_model.History.{is_call_of}
use Rattle.tide.specs.tide_model.Script.{is_full_reply, retry_after, retry_of}
use Rattle.tide.specs.tide_model.declared.entry.Event.{Event}
use Rattle.tide.specs.tide_model.declared.op.Op.{Op}
use Rattle.tide.specs.tide_model.declared.op.Reply.{Reply}
use Rattle.tide.specs.tide_heap.tide_core.declared.machine.view.View.{View}
use Rattle.tide.specs.tide_mutator.calls.Viewed.{view_of}
use Rattle.tide.specs.tide_server.Members.{Calling, Retries}
use Rattle.tide.specs.tide_shape.Lists.{lists_of}
use Rattle.tide_c.specs.Calls.{KeepsStack, Makes, MakesNone}
use Rattle.tide_c.specs.Parties.{IsMember}
use Rattle.tide_c.specs.declared.party.MemberParty.{MemberParty}

-- what was to be tried again is so still
pub retries_still : (old mid : MemberParty) (op : Op) → MakesNone old mid → Retries (view_of old.member.mutator) op →
    Retries (view_of mid.member.mutator) op
retries_still old mid op none retries other pending =
    retries other (sym (ap (λ (k : Calling). retry_of k.who k.mine) none.caller) ∙ pending)

-- the stack stays through both
pub keeps_stack : (old mid new : MemberParty) → KeepsStack old mid → KeepsStack mid new → KeepsStack old new
keeps_stack old mid new first second = record {
  shared = second.shared ∙ first.shared;
  base = second.base ∙ first.base;
  top = second.top ∙ first.top;
}

-- a call behind a beginning stands after what its caller had seen
pub makes_later : (old mid new : MemberParty) (op : Op) (reply : Reply) → IsMember old → MakesNone old mid →
    Makes mid new op reply → Makes old new op reply
makes_later old mid new op reply is none makes =
    let v = view_of old.member.mutator in let w = view_of mid.member.mutator in let x = view_of new.member.mutator in
    let layout = (arc_value old.shared).heap.key.layout in let shapes = lists_of (arc_value old.shared).heap.key.shapes in
    let same : mid ≡ record mid { shared = old.shared } = λ j. record mid { shared = none.stack.shared j } in
    let its : MakesCall layout shapes w.who op reply w.seen x.seen w.mine x.mine =
    subst (λ (m : MemberParty). MakesCall (arc_value m.shared).heap.key.layout (lists_of (arc_value m.shared).heap.key.shapes)
    w.who op reply w.seen x.seen w.mine x.mine) same makes in
    MakesCall-later layout shapes v.who op reply v.seen w.seen x.seen v.mine w.mine x.mine none.seen
    (ap (λ (k : Calling). k.mine) none.caller) (owns old.member.works v old.member.left old.member.ended is.of.stands)
    (subst (λ (n : ℕ). MakesCall layout shapes n op reply w.seen x.seen w.mine x.mine) (ap (λ (k : Calling). k.who) none.caller) its)

-- the operation, where there is one
abbrev op_in : Op → Option Op → Op
op_in other None = other
op_in other (Some op) = op

-- who has this operation to try again may make it
pub tries_this : (v : View) (op other : Op) → retry_of v.who v.mine ≡ Some other → op ≡ other → Retries v op
tries_this v op other is same third pending = same ∙ ap (op_in op) (sym is ∙ pending)

-- whose own calls end with a call made it
who_made : (who other : ℕ) (op : Op) (reply : Reply) (took : Option ℕ) (seen old mine : List Event) →
    mine ≡ old ++ called who op reply took ∷ [] → IsOwn other seen mine → who ≡ other
who_made who other op reply took seen old mine adds own =
    let passes = subst (λ (es : List Event). All (λ e. is_call_of other e.entry ≡ true) es) (sym own)
    (filter_passes (λ (e : Event). is_call_of other e.entry) seen) in
    eqb-true who other
    (All-pop (λ (e : Event). is_call_of other e.entry ≡ true) mine old (Some (called who op reply took)) adds passes).1

-- if something is to be tried again after a call, it is its operation
tries_itself : (retry : Option Op) (op : Op) (reply : Reply) → is_some (retry_after retry (op, reply)) ≡ true →
    retry_after retry (op, reply) ≡ Some op
tries_itself None op reply is = by_reply (is_full_reply reply) is
  where
    by_reply : (full : Bool) → is_some (if◌then◌else◌ {A = Option Op} full (Some op) None) ≡ true →
        if◌then◌else◌ {A = Option Op} full (Some op) None ≡ Some op
    by_reply true same = refl
    by_reply false same = absurd (true≢false (sym same))
tries_itself (Some tried) op reply is = absurd (true≢false (sym is))

-- so it is with a member's
pub comes_again : (mid new : MemberParty) (op : Op) (reply : Reply) (retries : Bool) → IsMember new → Makes mid new op reply →
    retries ≡ is_some (retry_of (view_of new.member.mutator).who (view_of new.member.mutator).mine) → retries ≡ true →
    retry_of (view_of new.member.mutator).who (view_of new.member.mutator).mine ≡ Some op
comes_again mid new op reply retries is makes says so =
    let w = view_of mid.member.mutator in let x = view_of new.member.mutator in
    let same : w.who ≡ x.who = who_made w.who x.who op reply makes.took x.seen w.mine x.mine makes.adds
    (owns new.member.works x new.member.left new.member.ended is.of.stands) in
    let after : retry_of x.who x.mine ≡ retry_after (retry_of w.who w.mine) (op, reply) =
    ap (λ (who : ℕ). retry_of who x.mine) (sym same) ∙ ap (λ (mine : List Event). retry_of w.who mine) makes.adds
    ∙ retry_of-push w.who w.mine op reply makes.took in
    after ∙ tries_itself (retry_of w.who w.mine) op reply (sym (ap (λ (r : Option Op). is_some r) after) ∙ sym says ∙ so)
