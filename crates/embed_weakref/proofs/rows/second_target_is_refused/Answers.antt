-- A reference is one still once another one was refused.
use Rattle.embed_weakref.proofs.rows.second_target_is_refused.Goals as goal

pub deref-requires-clause-made : goal.deref-requires-clause-made
deref-requires-clause-made c = c.make_ref-2.ensures.keeps c.in-Ok.r c.in-Ok.ensures.made
