-- The argument is the rule of that name, with a parser of numbers.
use Rattle.std.proofs.Common.{◌≡◌, ◌∙◌, ap, ap₂, Option, Some}
use Rattle.clap.specs.Words.{Rule, Text, new_rule, rule_of}
use Rattle.clap.specs.declared.builder.value_parser.ValueParser.{ValueParser}
use Rattle.clap.specs.declared.builder.value_parser.ValueParser.TheVariants.{Unsigned}
use Rattle.tide_options.proofs.Rules.{long_by}
use Rattle.tide_options.proofs.command.number_option.Goals as goal

-- a rule with a parser of its values
abbrev parsed_by : Rule → Option ValueParser → Rule
parsed_by rule parser = record rule { parser = parser }

pub returns : goal.returns
returns c =
    let name : Text = c.args.name.now in
    let named : rule_of c.long.result ≡ record (new_rule name) { long = Some name } = ap rule_of c.long.ensures ∙ ap (long_by name) c.new.ensures.rule in
    let given = c.value_parser.ensures.given in
    let parser : c.value_parser.result.value_parser ≡ Some (Unsigned 0 18446744073709551615) = given.1 ∙ ap Some {y = Unsigned 0 18446744073709551615} (given.2 ∙ c.value_parser-number.ensures) in
    ap rule_of c.value_parser.ensures.others ∙ ap₂ parsed_by named parser
