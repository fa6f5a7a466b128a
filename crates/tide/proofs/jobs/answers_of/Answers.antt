-- One answer more is kept, and one job less is left.
use Rattle.std.proofs.Common.{◌∙◌, ap, arith, subst, sym, [], ◌∷◌, ◌++◌, length}
use Rattle.std.proofs.lemmas.List.{length_push, map-append}
use Rattle.std.proofs.lemmas.List.Elements.{All-tail}
use Rattle.std.specs.Prelude.{All, IsSome, Some, map}
use Rattle.std.specs.Vec.Iter.{into_iter_items}
use Rattle.tide.specs.declared.jobs.Job.{Job}
use Rattle.tide.proofs.jobs.answers_of.Goals as goal

pub loop-job-preserved : goal.loop-job-preserved
loop-job-preserved g c =
    let so = c.loop-job.invariant in
    let old = c.loop-job.answers.items in
    let yielded = c.loop-job.yielded in
    let job = c.in-Some.job in
    let answer = c.in-Some-answer.answer in
    let left = into_iter_items c.next.new.self in
    let pushed = c.push_reserved.ensures.items in
    let next = c.in-Some.ensures.steps.0 in
    record {
      kept = ap (map (λ answer. Some answer)) pushed ∙ map-append (λ answer. Some answer) old (answer ∷ [])
          ∙ (λ i. so.kept i ++ sym c.in-Some-answer.is i ∷ [])
          ∙ sym (map-append (λ (p : Job g.row.T.Denot). p.answer) yielded (job ∷ []));
      room = (let count = ap length pushed in let one = length_push old answer in let few = ap length next in
          let same = c.push_reserved.ensures.capacity in let room = so.room in omega (arith, count, one, few, same, room));
      each = All-tail (λ (p : Job g.row.T.Denot). IsSome p.answer) job left
          (subst (All (λ (p : Job g.row.T.Denot). IsSome p.answer)) next so.each);
    }

pub loop-job-preserved-in-Some-answer : goal.loop-job-preserved-in-Some-answer
loop-job-preserved-in-Some-answer g c =
    let so = c.loop-job.invariant in
    let old = c.loop-job.answers.items in
    let yielded = c.loop-job.yielded in
    let job = c.in-Some.job in
    let answer = c.in-Some-answer.answer in
    let left = into_iter_items c.next.new.self in
    let pushed = c.push_reserved.ensures.items in
    let next = c.in-Some.ensures.steps.0 in
    record {
      kept = ap (map (λ answer. Some answer)) pushed ∙ map-append (λ answer. Some answer) old (answer ∷ [])
          ∙ (λ i. so.kept i ++ sym c.in-Some-answer.is i ∷ [])
          ∙ sym (map-append (λ (p : Job g.row.T.Denot). p.answer) yielded (job ∷ []));
      room = (let count = ap length pushed in let one = length_push old answer in let few = ap length next in
          let same = c.push_reserved.ensures.capacity in let room = so.room in omega (arith, count, one, few, same, room));
      each = All-tail (λ (p : Job g.row.T.Denot). IsSome p.answer) job left
          (subst (All (λ (p : Job g.row.T.Denot). IsSome p.answer)) next so.each);
    }
