-- What a parse says of the words.
use Rattle.std.proofs.Common.{ℕ, ◌≡◌, ◌≢◌, ◌≤◌, ◌∙◌, ◌&&◌, ◌||◌, nat_lt, is_some, codes, unwrap_or, refl, sym, ap, subst, inl, inr, arith, Bool, true, false, List, [], ◌∷◌, Option, Some, None, Result, Ok, Err}
use Rattle.std.proofs.lemmas.Bool.{ltb-false, ne_eqb}
use Rattle.std.specs.Prelude.{IfOk, IfErr, if◌then◌else◌}
use Rattle.std.specs.Result.{result_ok}
use Rattle.clap.specs.Words.{HasKind, IsAmong, Kinds, Row, Text, fault_of, is_simple, is_simple_and_free, kind_of, matches_of}
use Rattle.clap.proofs.OnLiterals.{clap_on_literals}
use Rattle.clap.specs.Walk.{is_empty}
use Rattle.clap.specs.declared.error.Error.{Error}
use Rattle.clap.specs.declared.error.kind.ErrorKind.{ErrorKind}
use Rattle.clap.specs.declared.error.kind.ErrorKind.TheVariants.{OutOfMemory}
use Rattle.tide_options.specs.declared.options.Options.{Options}
use Rattle.tide_options.specs.declared.options.Refused.{Refused}
use Rattle.tide_options.specs.declared.options.Refused.TheVariants.{Memory}
use Rattle.tide_options.specs.Command.{command}
use Rattle.tide_options.specs.Options.{is_set, is_too_much, number_at, options_in, reads_options, wants_more}

-- the command is one of which `clap` states all
pub command_is_simple : is_simple command ≡ true
command_is_simple = refl

pub command_is_free : is_simple_and_free command ≡ true
command_is_free = refl

some_kind : (kind : ErrorKind) (kinds : Kinds) → IsAmong kind kinds → is_empty kinds ≡ false
some_kind kind [] among = absurd among
some_kind kind (first ∷ kinds) among = ne_eqb _ 0 (λ same. omega (arith, same))

-- words that aren't taken, and not for want of memory, are refused
pub untaken : (words : List Text) (error : Error) → HasKind (fault_of command words) error → kind_of error ≢ OutOfMemory → reads_options words ≡ None
unfolding reads_options
untaken words error kinds no_memory = elim kinds [
  | inl memory ↦ absurd (no_memory memory)
  | inr among ↦ ap (λ (taken : Bool). if taken then options_in (matches_of command words) else None) (some_kind (kind_of error) (fault_of command words) among)
]

-- words that are taken ask for what their matches give
pub taken : (words : List Text) (rows : List Row) → fault_of command words ≡ [] → rows ≡ matches_of command words → options_in rows ≡ reads_options words
unfolding reads_options
taken words rows none are =
    ap options_in are ∙ sym (ap (λ (taken : Bool). if taken then options_in (matches_of command words) else None) (ap is_empty none))

no_more : (v : ℕ) → nat_lt 8 v ≡ false → v ≤ 8
no_more v more = let none = ltb-false 8 v more in omega (arith, none)

second_false : (a b : Bool) → (a || b) ≡ false → b ≡ false
second_false true b neither = absurd (cc)
second_false false b neither = neither

first_false : (a b : Bool) → (a || b) ≡ false → a ≡ false
first_false true b neither = absurd (cc)
first_false false b neither = refl

-- what rows give, if it can be had
abbrev given_by : List Row → Options
given_by rows = record {
  visitors = unwrap_or (number_at (codes "visitors") rows) 0;
  plain = is_set (codes "plain") rows;
  make = number_at (codes "make") rows;
  snapshot = is_set (codes "snapshot") rows;
  stats = is_set (codes "stats") rows;
}

-- the options that rows give can be had
given : (rows : List Row) (options : Options) → options_in rows ≡ Some options → (is_too_much rows ≡ false) × (given_by rows ≡ options)
given rows options is = go (is_too_much rows) refl
  where
    go : (b : Bool) → is_too_much rows ≡ b → (is_too_much rows ≡ false) × (given_by rows ≡ options)
    go true much = let none : None ≡ Some options = sym (ap (λ (b : Bool). if b then None else Some (given_by rows)) much) ∙ is in absurd (cc)
    go false much =
        let some : Some (given_by rows) ≡ Some options = sym (ap (λ (b : Bool). if b then None else Some (given_by rows)) much) ∙ is in
        (much, (let same : given_by rows ≡ options = cc in same))

-- visitors beside a plain run
abbrev has_both : List Row → Bool
has_both rows = is_set (codes "plain") rows && is_some (number_at (codes "visitors") rows)

-- lines behind the text that can't be had
abbrev shows_too_much : List Row → Bool
shows_too_much rows = wants_more rows && (is_set (codes "plain") rows || is_some (number_at (codes "make") rows))

-- there are few visitors
few_visitors : (rows : List Row) (options : Options) → options_in rows ≡ Some options → options.visitors ≤ 8
few_visitors rows options is =
    let (much, same) = given rows options is in
    subst (λ (o : Options). o.visitors ≤ 8) same
    (no_more (unwrap_or (number_at (codes "visitors") rows) 0) (second_false (shows_too_much rows) _ (second_false (has_both rows) _ much)))

plain_shows_nothing : (plain more made : Bool) → (more && (plain || made)) ≡ false → plain ≡ true → more ≡ false
plain_shows_nothing true true made none is = absurd (cc)
plain_shows_nothing true false made none is = refl
plain_shows_nothing false more made none is = absurd (cc)

-- and no lines behind the text of a plain run
none_of_plain : (rows : List Row) (options : Options) → options_in rows ≡ Some options → options.plain ≡ true → (options.snapshot || options.stats) ≡ false
none_of_plain rows options is =
    let (much, same) = given rows options is in
    subst (λ (o : Options). o.plain ≡ true → (o.snapshot || o.stats) ≡ false) same
    (plain_shows_nothing (is_set (codes "plain") rows) (wants_more rows) (is_some (number_at (codes "make") rows))
    (first_false (shows_too_much rows) _ (second_false (has_both rows) _ much)))

-- the options that are handed on are those that were asked for
pub asked_for : (given asked : Option Options) (r : Result Options Refused) → given ≡ result_ok r → given ≡ asked → IfOk r (λ options. asked ≡ Some options)
asked_for given asked (Ok options) part same = sym same ∙ part
asked_for given asked (Err why) part same = tt

-- and where there are none, none were
pub refused : (given asked : Option Options) (r : Result Options Refused) → given ≡ result_ok r → given ≡ asked → IfErr r (λ why. why ≢ Memory → asked ≡ None)
refused given asked (Ok options) part same = tt
refused given asked (Err why) part same = λ other. sym same ∙ part

-- those that are handed on have few visitors
pub few_asked : (rows : List Row) (given : Option Options) (r : Result Options Refused) → given ≡ result_ok r → given ≡ options_in rows → IfOk r (λ options. options.visitors ≤ 8)
few_asked rows given (Ok options) part same = few_visitors rows options (sym same ∙ part)
few_asked rows given (Err why) part same = tt

-- nor have they a snapshot of a plain run
pub shared_asked : (rows : List Row) (given : Option Options) (r : Result Options Refused) → given ≡ result_ok r → given ≡ options_in rows →
    IfOk r (λ options. options.plain ≡ true → options.snapshot ≡ false)
shared_asked rows given (Ok options) part same = λ plain. first_false options.snapshot options.stats (none_of_plain rows options (sym same ∙ part) plain)
shared_asked rows given (Err why) part same = tt

-- nor lines of its cycles
pub uncounted_asked : (rows : List Row) (given : Option Options) (r : Result Options Refused) → given ≡ result_ok r → given ≡ options_in rows →
    IfOk r (λ options. options.plain ≡ true → options.stats ≡ false)
uncounted_asked rows given (Ok options) part same = λ plain. second_false options.snapshot options.stats (none_of_plain rows options (sym same ∙ part) plain)
uncounted_asked rows given (Err why) part same = tt

-- a word that names no option is refused, as is one that is no text, in whose place it stands
pub stray_word : reads_options (codes "riptide" ∷ codes "?" ∷ []) ≡ None
unfolding clap_on_literals reads_options
stray_word = refl
