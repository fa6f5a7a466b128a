-- A cell is in the cache, and its file registered: its reference is one once the job has ended.
use Rattle.embed_weakref.proofs.files.enter.Goals as goal

pub returns-in_default-register-clause-keeps : goal.returns-in_default-register-clause-keeps
returns-in_default-register-clause-keeps c = λ r is. c.register.ensures.keeps r (c.make_ref.ensures.keeps r is)

pub returns-clause-made : goal.returns-clause-made
returns-clause-made c = c.end_job.ensures.keeps c.in-Ok.r (c.register.ensures.keeps c.in-Ok.r c.in-Ok.ensures.made)

pub returns-clause-keeps : goal.returns-clause-keeps
returns-clause-keeps c = λ r is. c.end_job.ensures.keeps r (c.register.ensures.keeps r (c.make_ref.ensures.keeps r is))
