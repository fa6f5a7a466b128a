use Rattle.std.proofs.Common.{refl}
use Rattle.tide_text.specs.work.Keys.{is_key}
use Rattle.tide_text.proofs.work.examples.key_names.Goals as goal

pub returns : goal.returns
unfolding is_key
returns c = record { longest = refl; too_long = refl; digit_first = refl; upper_case = refl }
