-- A reference is one still once another one was refused.
use Rattle.embed_weakref.proofs.rows.number_is_used_again.Goals as goal

pub drop_ref-requires-clause-made : goal.drop_ref-requires-clause-made
drop_ref-requires-clause-made c = c.make_ref-2.ensures.keeps c.in-Ok.r c.in-Ok.ensures.made
