-- A reference is one still once its register was let go, and after each part.
use Rattle.embed_weakref.proofs.rows.reference_is_kept_for_a_job.Goals as goal

pub deref-requires-clause-made : goal.deref-requires-clause-made
deref-requires-clause-made c = c.in_ok-engine-2.ensures.keeps c.in-Ok.r (c.let_go.ensures.keeps c.in-Ok.r c.in-Ok.ensures.made)

pub deref-requires-2-clause-made : goal.deref-requires-2-clause-made
deref-requires-2-clause-made c =
    let r = c.in-Ok.r in
    let kept = c.in_ok-engine-2.ensures.keeps r (c.let_go.ensures.keeps r c.in-Ok.ensures.made) in
    c.in_ok-engine-3.ensures.keeps r (c.let_go-2.ensures.keeps r (c.end_job.ensures.keeps r (c.deref.ensures.keeps r kept)))
