-- The first reference is one still once the job ended and the second one was made, and after a refusal.
use Rattle.embed_weakref.proofs.rows.second_target_is_not_told.Goals as goal

pub deref-requires-clause-made : goal.deref-requires-clause-made
deref-requires-clause-made c =
    let one = c.in-Ok.one in
    c.make_ref-2.ensures.keeps one (c.end_job.ensures.keeps one c.in-Ok.ensures.made)

pub deref-requires-2-clause-made : goal.deref-requires-2-clause-made
deref-requires-2-clause-made c =
    let one = c.in-Ok.one in
    let made = c.make_ref-2.ensures.keeps one (c.end_job.ensures.keeps one c.in-Ok.ensures.made) in
    c.end_job-2.ensures.keeps one (c.make_ref-3.ensures.keeps one (c.deref.ensures.keeps one made))
