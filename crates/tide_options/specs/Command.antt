-- The command `riptide`, as `clap` reads a command.
use Rattle.std.specs.Prelude.{true, Some, codes}
use Rattle.clap.specs.Words.{App, Rule, Text, new_app, new_rule, with_rule}
use Rattle.clap.specs.Simple.{on_top}
use Rattle.clap.specs.declared.builder.action.ArgAction.TheVariants.{SetTrue}
use Rattle.clap.specs.declared.builder.value_parser.ValueParser.TheVariants.{Unsigned}

-- `--NAME N`, with a number of 64 bits
abbrev pub number_option : Text → Rule
number_option name = record (new_rule name) { long = Some name; parser = Some (Unsigned 0 18446744073709551615) }

-- `--NAME`
abbrev pub flag : Text → Rule
flag name = record (new_rule name) { long = Some name; action = Some SetTrue }

-- the command of that name without `--help`
abbrev pub named : App
named = on_top (λ shape. record shape { disable_help_flag = true }) (new_app (codes "riptide"))

-- the command with its two options and its three flags
abbrev pub command : App
command =
    with_rule (with_rule (with_rule (with_rule (with_rule named (number_option (codes "visitors"))) (flag (codes "plain")))
    (number_option (codes "make"))) (flag (codes "snapshot"))) (flag (codes "stats"))
