-- What decimal digits spell.
use Rattle.std.proofs.Common.{◌≡◌, ℕ, ◌^◌, ◌<◌, true, nat_lt, nat_le, List, length, ap, refl, ◌∙◌, arith, rules}
use Rattle.std.proofs.lemmas.Bool.{le-leb, lt-ltb}
use Rattle.std.proofs.lemmas.Bool.Decides.{nat_tests}
use Rattle.std.proofs.lemmas.Str.Parse.{IsNumeralModel, numerals_by_value}
use Rattle.std.proofs.lemmas.Fmt.{decimal_nonempty, digits_decimal, digits_value-decimal, length-decimal-le}
use Rattle.std.specs.Char.{is_ascii_digit}
use Rattle.std.specs.List.{list_all}
use Rattle.std.specs.Str.Parse.{digits_value}
use Rattle.std.specs.Prelude.{decimal, if◌then◌else◌, option_and_then, Some, None}
use Rattle.tide_text.specs.work.Words.{is_word_byte, number_of, number_below}
use Rattle.tide_text.proofs.work_laws.SpacedLemmas.{IsWord, list_all-weaker}

abbrev HasDigitsOnly : List ℕ → Type 0
HasDigitsOnly word = list_all is_ascii_digit word ≡ true

digits_model : IsNumeralModel HasDigitsOnly (digits_value 10)
digits_model = numerals_by_value _ (search rules)

-- the decimal digits of a number that fits 32 bits spell it
pub number_of-decimal : (n : ℕ) → n < 2 ^ 32 → number_of (decimal n) ≡ Some n
number_of-decimal n small =
    let some : nat_lt 0 (length (decimal n)) ≡ true = lt-ltb _ _ (decimal_nonempty n (omega arith)) in
    let short : nat_le (length (decimal n)) 10 ≡ true = le-leb _ _ (length-decimal-le 10 n (omega arith) (omega arith) (omega arith)) in
    let digits : list_all is_ascii_digit (decimal n) ≡ true = digits_decimal digits_model n (omega arith) in
    let value : digits_value 10 (decimal n) ≡ n = digits_value-decimal digits_model n (omega arith) in
    let fits : nat_lt n (2 ^ 32) ≡ true = lt-ltb _ _ small in
    rw (some, short, digits, value, fits) refl

-- and so it is read below a limit that it is below
pub number_below-decimal : (limit n : ℕ) → n < limit → n < 2 ^ 32 → number_below limit (decimal n) ≡ Some n
number_below-decimal limit n below small =
    ap (option_and_then (λ number. if nat_lt number limit then Some number else None)) (number_of-decimal n small)
    ∙ rw (lt-ltb n limit below) refl

digit_letter : (byte : ℕ) → is_ascii_digit byte ≡ true → is_word_byte byte ≡ true
digit_letter byte is = grind (arith, nat_tests)

-- these digits are a word
pub decimal-word : (n : ℕ) → n < 2 ^ 32 → IsWord (decimal n)
decimal-word n small = record {
  some = decimal_nonempty n (omega arith);
  spaceless = list_all-weaker is_ascii_digit is_word_byte digit_letter (decimal n) (digits_decimal digits_model n (omega arith));
}
