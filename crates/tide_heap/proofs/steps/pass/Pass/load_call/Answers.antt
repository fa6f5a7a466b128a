-- Why the call word tells the calls.
use Rattle.std.proofs.Common.{sym, ◌∙◌}
use Rattle.tide_heap.proofs.steps.pass.Pass.load_call.Goals as goal

pub returns-clause-told : goal.returns-clause-told
returns-clause-told g c =
    let m = c.make_step.ensures.step.follows.moment in
    sym m.is_word ∙ m.works.calls c.requires.mutator
