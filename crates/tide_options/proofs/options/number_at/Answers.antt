-- What is read of the option is the number that its text writes.
use Rattle.std.proofs.Common.{◌≡◌, ◌∙◌, sym, ap, List, ℕ, Option}
use Rattle.std.specs.Prelude.{option_and_then}
use Rattle.std.specs.Str.Parse.{ParsesUnsigned, ExplainsUnsignedError, HasUnsignedDigitsIfOk}
use Rattle.clap.specs.Words.{found_of, one_text}
use Rattle.clap.proofs.WalkLemmas.{one_text-rows}
use Rattle.tide_options.specs.Options.{number_in}
use Rattle.tide_options.proofs.Numbers.{one_number}
use Rattle.tide_options.proofs.options.number_at.Goals as goal

pub returns : goal.returns
returns c =
    let found = found_of c.args.matches.now in
    one_number (λ bs r. ParsesUnsigned 64 10 bs r × ExplainsUnsignedError 10 bs r × HasUnsignedDigitsIfOk bs r) (λ text r gives. gives.0)
    (one_text found c.args.name.now) c.get_one.result c.get_one.ensures.none c.get_one.ensures.value
    ∙ ap (option_and_then number_in) (one_text-rows found c.args.name.now)
