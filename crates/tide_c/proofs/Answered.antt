-- What a member answers, by whether numbers say an operation.
use Rattle.std.proofs.Common.{◌≡◌, Bool, false, refl, subst, sym, true, true≢false}
use Rattle.std.specs.Prelude.{MatchOption, None, Option, Some}
use Rattle.tide.specs.tide_model.declared.op.Op.{Op}
use Rattle.tide.specs.tide_model.declared.op.Reply.{Reply}
use Rattle.tide_c.specs.Calls.{HasAnswered, HasCalled, told_by}
use Rattle.tide_c.specs.Operations.{op_of, said}
use Rattle.tide_c.specs.declared.operation.Answer.{Answer}
use Rattle.tide_c.specs.declared.operation.Operation.{Operation as Numbers}
use Rattle.tide_c.specs.declared.party.MemberParty.{MemberParty}
use Rattle.tide_c.specs.declared.status.Status.{Status}
use Rattle.tide_c.specs.contracts.status.Status as contract
use Rattle.tide_c.specs.declared.status.Status.TheVariants.{Again, Claims, Deep, Done, Filled, Kind, Left, Memory, Operation, Over, Retry, Size, Spent, Vacant, Wait}
use denote.Enum.Bare.{sameb}

abbrev Answers : Option Op → Answer → Answer → MemberParty → MemberParty → Status → Type 0
Answers said before after old new status = MatchOption said ((new ≡ old) × (after ≡ before) × (status ≡ Operation))
    (λ op. (reply : Reply) × HasCalled old new op reply status × (after ≡ told_by status reply before))

pub none_is_said : (numbers : Numbers) (before : Answer) (m : MemberParty) → op_of numbers ≡ None →
    HasAnswered numbers before before m m Operation
none_is_said numbers before m none =
    subst (λ (said : Option Op). Answers said before before m m Operation) (sym none) (refl, refl, refl)

pub one_is_said : (numbers : Numbers) (before after : Answer) (old new : MemberParty) (op : Op) (reply : Reply) (status : Status) →
    op_of numbers ≡ Some op → HasCalled old new op reply status → after ≡ told_by status reply before →
    HasAnswered numbers before after old new status
one_is_said numbers before after old new op reply status said called told =
    subst (λ (one : Option Op). Answers one before after old new status) (sym said) (reply, called, told)

abbrev is_same : Status → Status → Bool
is_same one other = sameb contract.the_type one other

-- the reply of a call that was made is told
pub done_is_told : (status : Status) (reply : Reply) (before : Answer) → is_same status Done ≡ true →
    told_by status reply before ≡ said reply
done_is_told Done reply before is = refl
done_is_told Wait reply before is = absurd (true≢false (sym is))
done_is_told Again reply before is = absurd (true≢false (sym is))
done_is_told Over reply before is = absurd (true≢false (sym is))
done_is_told Spent reply before is = absurd (true≢false (sym is))
done_is_told Memory reply before is = absurd (true≢false (sym is))
done_is_told Size reply before is = absurd (true≢false (sym is))
done_is_told Filled reply before is = absurd (true≢false (sym is))
done_is_told Vacant reply before is = absurd (true≢false (sym is))
done_is_told Kind reply before is = absurd (true≢false (sym is))
done_is_told Operation reply before is = absurd (true≢false (sym is))
done_is_told Retry reply before is = absurd (true≢false (sym is))
done_is_told Claims reply before is = absurd (true≢false (sym is))
done_is_told Left reply before is = absurd (true≢false (sym is))
done_is_told Deep reply before is = absurd (true≢false (sym is))

-- so it is of one that comes again
pub again_is_told : (status : Status) (reply : Reply) (before : Answer) → is_same status Again ≡ true →
    told_by status reply before ≡ said reply
again_is_told Done reply before is = absurd (true≢false (sym is))
again_is_told Wait reply before is = absurd (true≢false (sym is))
again_is_told Again reply before is = refl
again_is_told Over reply before is = absurd (true≢false (sym is))
again_is_told Spent reply before is = absurd (true≢false (sym is))
again_is_told Memory reply before is = absurd (true≢false (sym is))
again_is_told Size reply before is = absurd (true≢false (sym is))
again_is_told Filled reply before is = absurd (true≢false (sym is))
again_is_told Vacant reply before is = absurd (true≢false (sym is))
again_is_told Kind reply before is = absurd (true≢false (sym is))
again_is_told Operation reply before is = absurd (true≢false (sym is))
again_is_told Retry reply before is = absurd (true≢false (sym is))
again_is_told Claims reply before is = absurd (true≢false (sym is))
again_is_told Left reply before is = absurd (true≢false (sym is))
again_is_told Deep reply before is = absurd (true≢false (sym is))

-- and of no other
pub else_is_untold : (status : Status) (reply : Reply) (before : Answer) → is_same status Done ≡ false →
    is_same status Again ≡ false → told_by status reply before ≡ before
else_is_untold Done reply before not_done not_again = absurd (true≢false not_done)
else_is_untold Wait reply before not_done not_again = refl
else_is_untold Again reply before not_done not_again = absurd (true≢false not_again)
else_is_untold Over reply before not_done not_again = refl
else_is_untold Spent reply before not_done not_again = refl
else_is_untold Memory reply before not_done not_again = refl
else_is_untold Size reply before not_done not_again = refl
else_is_untold Filled reply before not_done not_again = refl
else_is_untold Vacant reply before not_done not_again = refl
else_is_untold Kind reply before not_done not_again = refl
else_is_untold Operation reply before not_done not_again = refl
else_is_untold Retry reply before not_done not_again = refl
else_is_untold Claims reply before not_done not_again = refl
else_is_untold Left reply before not_done not_again = refl
else_is_untold Deep reply before not_done not_again = refl
