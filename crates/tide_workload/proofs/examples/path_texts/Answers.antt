use Rattle.std.proofs.Common.{refl}
use Rattle.tide_text.specs.work.Keys.{is_key}
use Rattle.tide_workload.proofs.examples.path_texts.Goals as goal

pub returns : goal.returns
unfolding is_key
returns c = record { first_appearance = refl; numbers = refl; twice = refl; spaced = refl; untrimmed = refl; empty = refl }
