use Rattle.tide_call.proofs.action_laws.OwnLaws.{Leaves-own}
use Rattle.tide_call.proofs.planner.Planner.value_in.Goals as goal

pub returns-clause-owns : goal.returns-clause-owns
returns-clause-owns g c = Leaves-own (g.O.OwnRegisters.owns c.args.own.now) (g.O.OwnRegisters.owns c.register.new.self)
    c.args.context.now _ c.args.self.now _ _ c.self.view_is c.requires.known c.register.ensures.owns
