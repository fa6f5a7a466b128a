-- A mutator's share grows by a call, by its views before it and after it.
use Rattle.std.proofs.Common.{ℕ, ◌≡◌, ◌+◌, ◌<◌, ◌∙◌, sym, ap, subst, false, length}
use Rattle.std.specs.Prelude.{not, ◌&&◌, ◌||◌}
use Rattle.tide_mutator.proofs.owed_laws.OwnClaims.{own_at}
use Rattle.tide_mutator.specs.owed.Standing.{claims_of}
use Rattle.tide_heap.specs.tide_core.machine.Own.{Own}
use Rattle.tide_heap.specs.tide_core.declared.machine.view.View.{View}
use Rattle.tide_model.specs.Caller.{MakesCall}
use Rattle.tide_model.specs.Layout.{Layout}
use Rattle.tide_model.specs.Refused.{ShapeLists}
use Rattle.tide_model.specs.Script.{is_full_reply}
use Rattle.tide_model.specs.Share.{is_asked}
use Rattle.tide_model.specs.declared.op.Op.{Op}
use Rattle.tide_model.specs.declared.op.Reply.{Reply}
use Rattle.tide_periods.proofs.OwnShares.{IsSharingOwn-called}
use Rattle.tide_periods.proofs.PartLoops.{IsSharingOwn}
use Rattle.tide_periods.specs.Asking.{next_of, standing_of, TookReply}
use Rattle.tide_periods.specs.Own.{AreClaims}
use Rattle.tide_periods.specs.declared.cursor.ScriptCursor.{ScriptCursor}

-- what a mutator claims is told by its calls alone
are_claims : (layout : Layout) (v : View) → AreClaims layout v.who v.mine (claims_of v)
are_claims layout v = λ history own. sym (ap (λ (o : Own). o.claims) (own_at layout v.who history v.mine (sym own)))

-- one call more
pub IsSharingOwn-made : (layout : Layout) (shapes : ShapeLists) (run made : ℕ) (first v w : View)
    (old cursor taken : ScriptCursor) (claims : ℕ) (op : Op) (reply : Reply) →
    IsSharingOwn (record { layout = layout; shapes = shapes }) run first.seen v.seen first.mine v.mine old cursor made false →
    made < run → cursor.retired ≡ false → cursor.who ≡ v.who → claims ≡ length (claims_of v) →
    op ≡ next_of cursor.ops.items (standing_of cursor) claims →
    MakesCall layout shapes v.who op reply v.seen w.seen v.mine w.mine → TookReply cursor taken op reply →
    IsSharingOwn (record { layout = layout; shapes = shapes }) run first.seen w.seen first.mine w.mine old taken (made + 1)
    (is_asked reply || (not cursor.retry && is_full_reply reply))
IsSharingOwn-made layout shapes run made first v w old cursor taken claims op reply sharing below stays own count next makes took =
    IsSharingOwn-called (record { layout = layout; shapes = shapes }) run made first.seen v.seen w.seen first.mine v.mine w.mine
    old cursor taken (claims_of v) op reply sharing below stays
    (subst (λ (n : ℕ). AreClaims layout n v.mine (claims_of v)) (sym own) (are_claims layout v))
    (next ∙ ap (next_of cursor.ops.items (standing_of cursor)) count)
    (subst (λ (n : ℕ). MakesCall layout shapes n op reply v.seen w.seen v.mine w.mine) (sym own) makes) took
