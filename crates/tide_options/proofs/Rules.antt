-- What the rule of an argument says of it.
use Rattle.std.proofs.Common.{◌≡◌, ◌&&◌, refl, Bool, true, false, Some}
use Rattle.std.specs.Prelude.{is_some, not}
use Rattle.clap.specs.Walk.{is_empty}
use Rattle.clap.specs.Words.{Rule, Text, rule_of}
use Rattle.clap.specs.declared.builder.arg.Arg.{Arg}

-- a rule with a name that two dashes begin
abbrev pub long_by : Text → Rule → Rule
long_by name rule = record rule { long = Some name }

rest : (a b : Bool) → (a && b) ≡ true → b ≡ true
rest true b both = both
rest false b both = absurd (cc)

unset : (a : Bool) → not a ≡ true → a ≡ false
unset true none = absurd (cc)
unset false none = refl

-- the last of what a simple argument is asked
last : (a b c d e f g h i j : Bool) → (a && (b && (c && (d && (e && (f && (g && (h && (i && not j))))))))) ≡ true → j ≡ false
last a b c d e f g h i j all =
    unset j (rest i (not j) (rest h _ (rest g _ (rest f _ (rest e _ (rest d _ (rest c _ (rest b _ (rest a _ all)))))))))

-- a simple argument is none of the commands below
pub not_global : (arg : Arg) → (rule_of arg).is_simple ≡ true → arg.global ≡ false
not_global arg simple =
    last (is_empty arg.overrides.items) (is_empty arg.default_vals_ifs.items) (is_empty arg.groups.items) (not (is_some arg.val_delim)) (not (is_some arg.terminator))
    (not arg.allow_hyphen_values) (not arg.allow_negative_numbers) (not arg.require_equals) (not arg.last) arg.global simple
