-- It is the operation that is to be tried again.
use Rattle.std.proofs.Common.{◌∙◌, sym}
use Rattle.tide.specs.tide_mutator.calls.Viewed.{view_of}
use Rattle.tide_c.proofs.Began.{tries_this}
use Rattle.tide_c.proofs.Same.{operations_same}
use Rattle.tide_c.proofs.party.MemberParty.may_try.Goals as goal

pub returns-in-Some-clause-may : goal.returns-in-Some-clause-may
returns-in-Some-clause-may c is_other =
    let op = c.args.op in let other = c.in-Some.other in
    tries_this (view_of c.args.self.now.member.mutator) op other (sym c.retry.ensures ∙ c.in-Some.is)
    (operations_same op other (sym c.eq.ensures ∙ is_other))
