-- Each reference is one still once two held values were asked for.
use Rattle.embed_weakref.proofs.files.to_close.Goals as goal

pub returns-clause-keeps : goal.returns-clause-keeps
returns-clause-keeps c = λ r is. c.deliver-second.ensures.keeps r (c.deliver-first.ensures.keeps r is)
