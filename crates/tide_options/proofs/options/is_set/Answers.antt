-- What is read of the flag says whether it was given.
use Rattle.std.proofs.Common.{◌≡◌, ◌∙◌, sym, ap, false, List, ℕ, Option}
use Rattle.std.specs.Prelude.{codes}
use Rattle.std.specs.Option.{option_map_or}
use Rattle.std.specs.Str.{bytes_eq}
use Rattle.std.specs.Str.Parse.{ParsesBool}
use Rattle.clap.specs.Words.{found_of, one_text}
use Rattle.clap.proofs.WalkLemmas.{one_text-rows}
use Rattle.tide_options.proofs.Numbers.{one_flag}
use Rattle.tide_options.proofs.options.is_set.Goals as goal

pub returns : goal.returns
returns c =
    let found = found_of c.args.matches.now in
    c.unwrap_or.ensures
    ∙ one_flag (λ bs r. ParsesBool bs r) (λ text r gives. gives)
    (one_text found c.args.name.now) c.get_one.result c.get_one.ensures.none c.get_one.ensures.value
    ∙ ap (λ (text : Option (List ℕ)). option_map_or (λ t. bytes_eq t (codes "true")) text false) (one_text-rows found c.args.name.now)
