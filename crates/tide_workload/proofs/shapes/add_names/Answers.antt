use Rattle.std.proofs.Common.{ℕ, List, Bor}
use Rattle.tide_workload.proofs.PathLemmas.{key_at}
use Rattle.tide_workload.proofs.shapes.add_names.Goals as goal

pub add-requires-clause-key : goal.add-requires-clause-key
add-requires-clause-key c = key_at (λ (word : Bor (List ℕ)). word.now) c.args.words.now c.loop-word.word-index _ c.loop-word-test.true c.requires.keys
