-- A call found no room a first time: its operation comes again.
use Rattle.tide_c.proofs.Began.{comes_again, keeps_stack, makes_later}
use Rattle.tide_c.proofs.party.MemberParty.call.Goals as goal

pub returns-then-retries-clause-called : goal.returns-then-retries-clause-called
returns-then-retries-clause-called c =
    let old = c.args.self.now in let mid = c.begin.new.self in let new = c.make.new.self in let none = c.begin.ensures.none in (
      keeps_stack old mid new none.stack c.make.ensures.stack,
      makes_later old mid new c.args.op c.make.result c.requires.is none c.make.ensures.makes,
      comes_again mid new c.args.op c.make.result c.retries.result c.make.ensures.is c.make.ensures.makes c.retries.ensures.is c.if-retries.true,
    )
