-- A reference is one still once it was asked.
use Rattle.embed_weakref.proofs.foreign.meddle.Goals as goal

pub deref-requires-2-clause-made : goal.deref-requires-2-clause-made
deref-requires-2-clause-made c = λ _. c.deref.ensures.worked.goes_on.references c.in-Ok.r c.in-Ok.ensures.made
