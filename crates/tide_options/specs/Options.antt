-- The options that words ask for.
use Rattle.std.specs.Prelude.{ℕ, Bool, false, ◌&&◌, ◌||◌, nat_lt, if◌then◌else◌, List, map, String, string_bytes, Option, Some, None, is_some, unwrap_or, option_and_then, codes}
use Rattle.std.specs.Option.{option_map_or}
use Rattle.std.specs.Str.{bytes_eq}
use Rattle.std.specs.Str.Parse.{digits_value, without_leading_plus}
use Rattle.clap.specs.Words.{Row, Text, fault_of, matches_of, one_of}
use Rattle.clap.specs.ValueTests.{accepts}
use Rattle.clap.specs.Walk.{is_empty}
use Rattle.clap.specs.declared.builder.value_parser.ValueParser.TheVariants.{Unsigned}
use Rattle.tide_options.specs.declared.options.Options.{Options}
use Rattle.tide_options.specs.declared.options.TheConstants.{MAX_VISITORS}
use Rattle.tide_options.specs.Command.{command}

-- the number of 64 bits that a text writes, if it does
abbrev pub number_in : Text → Option ℕ
number_in text =
    if accepts false (Unsigned 0 18446744073709551615) text then Some (digits_value 10 (without_leading_plus text)) else None

-- the number of an option, where it was given
abbrev pub number_at : Text → List Row → Option ℕ
number_at name rows = option_and_then number_in (one_of name rows)

-- a flag was given
abbrev pub is_set : Text → List Row → Bool
is_set name rows = option_map_or (λ text. bytes_eq text (codes "true")) (one_of name rows) false

-- lines behind a text were asked for: those of cells, or those of cycles
abbrev pub wants_more : List Row → Bool
wants_more rows = is_set (codes "snapshot") rows || is_set (codes "stats") rows

-- what was given can't be had: a number of visitors beside a plain run, lines behind the text of a plain run or of a
-- generated workload, or more visitors than there may be
abbrev pub is_too_much : List Row → Bool
is_too_much rows = (is_set (codes "plain") rows && is_some (number_at (codes "visitors") rows))
    || ((wants_more rows && (is_set (codes "plain") rows || is_some (number_at (codes "make") rows)))
    || nat_lt MAX_VISITORS (unwrap_or (number_at (codes "visitors") rows) 0))

-- the options that matches give
abbrev pub options_in : List Row → Option Options
options_in rows = if is_too_much rows then None else Some (record {
  visitors = unwrap_or (number_at (codes "visitors") rows) 0;
  plain = is_set (codes "plain") rows;
  make = number_at (codes "make") rows;
  snapshot = is_set (codes "snapshot") rows;
  stats = is_set (codes "stats") rows;
})

-- the options that the words of a command line ask for, or none where they are refused: the command takes them with no
-- fault, and what was given can be had
unfoldable pub reads_options : List Text → Option Options
reads_options words = if is_empty (fault_of command words) then options_in (matches_of command words) else None

-- the options that command words ask for, as they are handed over
abbrev pub asked_by : {A : Type 0} → List (String A) → Option Options
asked_by words = reads_options (map string_bytes words)
