-- What the typed getters read of a text.
use Rattle.std.proofs.Common.{ℕ, ◌≡◌, ◌<◌, ◌≤◌, ◌^◌, ◌∙◌, refl, sym, ap, subst, arith, Bool, true, false, List, Option, Some, None, Result, Ok, Err}
use Rattle.std.proofs.lemmas.Slice.Eq.{bytes_eq-Decides}
use Rattle.std.specs.Prelude.{codes, option_and_then, unwrap_or}
use Rattle.std.specs.Option.{option_map_or}
use Rattle.std.specs.Str.{bytes_eq}
use Rattle.std.specs.Str.Parse.{IsNumeral, ParsesBool, ParsesUnsigned, digits_value, without_leading_plus}
use Rattle.clap.specs.Words.{ReadsOne}
use Rattle.clap.specs.ValueTests.{accepts}
use Rattle.clap.specs.declared.builder.value_parser.ValueParser.TheVariants.{Unsigned}
use Rattle.clap.proofs.ValueTestLemmas.{Accepts-accepts, accepts-Accepts}
use Rattle.tide_options.specs.Options.{number_in}

-- the parser of 64-bit numbers takes the text
abbrev is_number : List ℕ → Bool
is_number text = accepts false (Unsigned 0 18446744073709551615) text

-- the text that is read as a number is one, with that value
read_number : (E : Type 0) (text : List ℕ) (n : ℕ) → ParsesUnsigned {E = E} 64 10 text (Ok n) → Some n ≡ number_in text
read_number E text n parsed =
    let digits = without_leading_plus text in
    let fits : digits_value 10 digits ≤ 18446744073709551615 = omega (arith, parsed.0.1) in
    let taken : is_number text ≡ true = Accepts-accepts false (Unsigned 0 18446744073709551615) text (parsed.0.0, parsed.0.1, omega arith, fits) in
    rw taken (ap Some parsed.1)

-- and a text that isn't read as one is none
read_none : (E : Type 0) (text : List ℕ) (e : E) → ParsesUnsigned {E = E} 64 10 text (Err e) → None ≡ number_in text
read_none E text e failed = go (is_number text) refl
  where
    go : (b : Bool) → is_number text ≡ b → None ≡ number_in text
    go true taken =
        let accepted = accepts-Accepts false (Unsigned 0 18446744073709551615) text taken in
        absurd (failed (accepted.0, accepted.1))
    go false taken = rw taken refl

-- what `get_one` reads of an option is its number
pub one_number : {E : Type 0} (gives : List ℕ → Result ℕ E → Type 0) → ((text : List ℕ) (r : Result ℕ E) → gives text r → ParsesUnsigned 64 10 text r) →
    (text : Option (List ℕ)) (r : Option ℕ) → (text ≡ None → r ≡ None) → ((t : List ℕ) → text ≡ Some t → ReadsOne gives t r) → r ≡ option_and_then number_in text
one_number {E} gives parses None r none value = none refl
one_number {E} gives parses (Some t) (Some n) none value = read_number E t n (parses t (Ok n) (value t refl))
one_number {E} gives parses (Some t) None none value = let failed = value t refl in read_none E t failed.0 (parses t (Err failed.0) failed.1)

-- the text of a flag that was given
abbrev is_true_text : List ℕ → Bool
is_true_text text = bytes_eq text (codes "true")

-- a text that is read as a flag is one of its two texts
read_flag : (E : Type 0) (text : List ℕ) (b : Bool) → ParsesBool {E = E} text (Ok b) → b ≡ is_true_text text
read_flag E text true parsed = sym (ap is_true_text parsed)
read_flag E text false parsed = sym (ap is_true_text parsed)

-- and one that isn't read so is neither
read_no_flag : (E : Type 0) (text : List ℕ) (e : E) → ParsesBool {E = E} text (Err e) → false ≡ is_true_text text
read_no_flag E text e failed = go (is_true_text text) refl
  where
    go : (b : Bool) → is_true_text text ≡ b → false ≡ is_true_text text
    go true is = absurd (failed.0 ((bytes_eq-Decides text (codes "true")).0 is))
    go false is = sym is

-- what `get_one` reads of a flag says whether it was given
pub one_flag : {E : Type 0} (gives : List ℕ → Result Bool E → Type 0) → ((text : List ℕ) (r : Result Bool E) → gives text r → ParsesBool text r) →
    (text : Option (List ℕ)) (r : Option Bool) → (text ≡ None → r ≡ None) → ((t : List ℕ) → text ≡ Some t → ReadsOne gives t r) →
    unwrap_or r false ≡ option_map_or is_true_text text false
one_flag {E} gives parses None r none value = ap (λ (o : Option Bool). unwrap_or o false) (none refl)
one_flag {E} gives parses (Some t) (Some b) none value = read_flag E t b (parses t (Ok b) (value t refl))
one_flag {E} gives parses (Some t) None none value = let failed = value t refl in read_no_flag E t failed.0 (parses t (Err failed.0) failed.1)
