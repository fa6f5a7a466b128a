-- The parse tells whether the words are taken, and their matches what they ask for.
use Rattle.std.proofs.Common.{◌≡◌, ◌∙◌, ap, subst, ℕ, [], List, map, string_bytes}
use Rattle.clap.specs.Words.{App, HasKind, fault_of, found_of, is_simple, is_simple_and_free, matches_of, rows_of}
use Rattle.tide_options.specs.Command.{command}
use Rattle.tide_options.proofs.Reading.{asked_for, command_is_free, command_is_simple, few_asked, refused, shared_asked, taken, uncounted_asked, untaken}
use Rattle.tide_options.proofs.options.options_of.Goals as goal

pub returns-in-Err-clause-refused : goal.returns-in-Err-clause-refused
returns-in-Err-clause-refused c = λ other.
    let words : List (List ℕ) = map string_bytes c.args.words.now in
    let made = c.in_ok-command.ensures in
    let kinds : HasKind (fault_of command words) c.in-Err.error =
    subst (λ (a : App). HasKind (fault_of a words) c.in-Err.error) made (c.in-Err.ensures.kinds (ap is_simple_and_free made ∙ command_is_free)) in
    untaken words c.in-Err.error kinds (c.refusal_of.ensures other)

pub returns-clause-asked : goal.returns-clause-asked
returns-clause-asked c =
    let words : List (List ℕ) = map string_bytes c.args.words.now in
    let made = c.in_ok-command.ensures in
    let none : fault_of command words ≡ [] =
    subst (λ (a : App). fault_of a words ≡ []) made (c.in-Ok.ensures.kinds (ap is_simple_and_free made ∙ command_is_free)) in
    let rows = (c.in-Ok.ensures.matches (ap is_simple made ∙ command_is_simple)).0 ∙ ap (λ (a : App). matches_of a words) made in
    asked_for c.options_in.result _ c.ok_or.result c.ok_or.ensures.ok_part (c.options_in.ensures ∙ taken words _ none rows)

pub returns-clause-refused : goal.returns-clause-refused
returns-clause-refused c =
    let words : List (List ℕ) = map string_bytes c.args.words.now in
    let made = c.in_ok-command.ensures in
    let none : fault_of command words ≡ [] =
    subst (λ (a : App). fault_of a words ≡ []) made (c.in-Ok.ensures.kinds (ap is_simple_and_free made ∙ command_is_free)) in
    let rows = (c.in-Ok.ensures.matches (ap is_simple made ∙ command_is_simple)).0 ∙ ap (λ (a : App). matches_of a words) made in
    refused c.options_in.result _ c.ok_or.result c.ok_or.ensures.ok_part (c.options_in.ensures ∙ taken words _ none rows)

pub returns-clause-few : goal.returns-clause-few
returns-clause-few c = few_asked (rows_of (found_of c.in-Ok.matches)) c.options_in.result c.ok_or.result c.ok_or.ensures.ok_part c.options_in.ensures

pub returns-clause-shared : goal.returns-clause-shared
returns-clause-shared c = shared_asked (rows_of (found_of c.in-Ok.matches)) c.options_in.result c.ok_or.result c.ok_or.ensures.ok_part c.options_in.ensures

pub returns-clause-uncounted : goal.returns-clause-uncounted
returns-clause-uncounted c = uncounted_asked (rows_of (found_of c.in-Ok.matches)) c.options_in.result c.ok_or.result c.ok_or.ensures.ok_part c.options_in.ensures
