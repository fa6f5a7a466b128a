-- Both references are references still when they are asked: the first one after two parts and the second one's making.
use Rattle.embed_weakref.proofs.rows.gone_target_is_no_other_cell.Goals as goal

pub deref-requires-clause-made : goal.deref-requires-clause-made
deref-requires-clause-made c =
    let gone = c.in-Ok.gone in
    let let_go = c.let_go.ensures.keeps gone (c.end_job.ensures.keeps gone c.in-Ok.ensures.made) in
    let parts = c.in_ok-engine-3.ensures.keeps gone (c.in_ok-engine-2.ensures.keeps gone let_go) in
    c.make_ref-2.ensures.keeps gone (c.alloc-2.ensures.keeps gone parts)

pub deref-requires-2-clause-made : goal.deref-requires-2-clause-made
deref-requires-2-clause-made c = c.deref.ensures.keeps c.in-Ok-make_ref.found c.in-Ok-make_ref.ensures.made
