use Rattle.std.proofs.Common.{◌-◌, ℕ, List, Bor, map}
use Rattle.tide_text.specs.work.Words.{words_in}
use Rattle.tide_workload.proofs.PathLemmas.{words_end, words_more}
use Rattle.tide_workload.proofs.shapes.first_words.Goals as goal

pub returns-in_default : goal.returns-in_default
returns-in_default c =
    words_end (map (λ (word : Bor (List ℕ)). word.now) c.loop.words.items) (words_in c.loop.rest.now) _ (c.args.limit - c.loop.counter) c.in_default.ensures c.loop.invariant

pub loop-preserved : goal.loop-preserved
loop-preserved c =
    words_more (λ (word : Bor (List ℕ)). word.now) c.loop.words.items c.push.new.self.items c.in-Some.word c.loop.counter c.args.limit (words_in c.loop.rest.now)
    (words_in c.in-Some.after.now) (words_in c.args.text.now) c.in_ok-push.ensures.items c.in-Some.ensures c.loop-test.true c.loop.invariant
