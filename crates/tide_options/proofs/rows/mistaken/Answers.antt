-- The definitions compute to what these command lines read as.
use Rattle.std.proofs.Common.{refl}
use Rattle.clap.proofs.OnLiterals.{clap_on_literals}
use Rattle.tide_options.specs.Options.{reads_options}
use Rattle.tide_options.proofs.rows.mistaken.Goals as goal

pub returns : goal.returns
unfolding clap_on_literals reads_options
returns c = record {
  unknown = refl;
  help = refl;
  short_help = refl;
  abbreviated = refl;
  word = refl;
  empty = refl;
  behind_the_end = refl;
  no_number = refl;
  other_number = refl;
  empty_number = refl;
  below_nothing = refl;
  too_large = refl;
  flag_with_value = refl;
  flag_twice = refl;
  number_twice = refl;
  nine_visitors = refl;
  plain_with_visitors = refl;
  snapshot_of_plain = refl;
  snapshot_of_made = refl;
  snapshot_twice = refl;
  snapshot_with_value = refl;
  stats_of_plain = refl;
  stats_of_made = refl;
  stats_twice = refl;
  stats_with_value = refl;
  stats_abbreviated = refl;
}
