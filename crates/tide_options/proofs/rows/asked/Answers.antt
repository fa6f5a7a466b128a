-- The definitions compute to what these command lines read as.
use Rattle.std.proofs.Common.{refl}
use Rattle.clap.proofs.OnLiterals.{clap_on_literals}
use Rattle.tide_options.specs.Options.{reads_options}
use Rattle.tide_options.proofs.rows.asked.Goals as goal

pub returns : goal.returns
unfolding clap_on_literals reads_options
returns c = record {
  no_word = refl;
  name = refl;
  no_visitors = refl;
  a_visitor = refl;
  most_visitors = refl;
  with_equals = refl;
  plain = refl;
  made = refl;
  made_plain = refl;
  in_any_order = refl;
  largest = refl;
  zeros_and_plus = refl;
  end_of_options = refl;
  snapshot = refl;
  snapshot_beside_visitors = refl;
  stats = refl;
  stats_beside_visitors = refl;
  stats_and_snapshot = refl;
}
