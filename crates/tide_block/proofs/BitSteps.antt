-- How the set bits of a word are gone through from the lowest on, and how a word gets one below the others.
use Rattle.std.proofs.Common.{ℕ, ◌≡◌, ◌↔◌, ◌+◌, ◌-◌, ◌*◌, ◌/◌, ◌%◌, ◌^◌, ◌<◌, ◌≤◌, ◌∙◌, zero, suc, refl, sym, ap, arith, subst, Bool, true, false, inl, inr, min, not, ◌&&◌, ◌==◌}
use Rattle.std.proofs.lemmas.Bool.{cases_lt}
use Rattle.std.proofs.lemmas.Bool.Decides.{eqb_tells}
use Rattle.std.proofs.lemmas.Nat.Bits.{bit_at-suc, bit_at-zero, bit_at_above, bit_at_and, bit_at_cat_low, bit_at_lowest, bit_at_or}
use Rattle.std.specs.Int.{bit_at, from_bool}
use Rattle.std.specs.Prelude.{bit_and, bit_or, count_ones, if◌then◌else◌}
use lib.Count.{ones-le, ones_step}
use Rattle.tide_block.specs.Bits.{IsClearFrom, IsLowestFrom, IsSet, IsWithBit}
use Rattle.tide_block.proofs.BitLaws.{with_bit-here, with_bit-other}
use Rattle.tide_block.proofs.NumberLists.{count_where-from}
use Rattle.tide_model.specs.Numbers.{count_where}
use Rattle.tide_model.proofs.NumberLaws.{count_where-same}

-- the bits below one are gone, and the others are as they were
pub record IsRest (whole bits from : ℕ) : Type 0 where
  pub few : from ≤ 64
  pub gone : (at : ℕ) → at < 64 → at < from → bit_at bits at ≡ 0
  pub left : (at : ℕ) → at < 64 → from ≤ at → bit_at bits at ≡ bit_at whole at

-- none is gone yet
pub IsRest-all : (whole : ℕ) → IsRest whole whole 0
IsRest-all whole = record {
  few = omega arith;
  gone = λ at inside before. absurd (omega (arith, before));
  left = λ at inside not_before. refl;
}

module _ (whole bits from : ℕ) (rest : IsRest whole bits from) where
  -- a set bit that is left is not gone
  is_left : (at : ℕ) → at < 64 → IsSet bits at → from ≤ at
  is_left at inside set = elim (cases_lt at from) [
    | inl before ↦ (let clear = rest.gone at inside before in absurd (omega (arith, set, clear)))
    | inr later ↦ later
  ]

  -- the lowest bit that is left is the lowest from there on
  pub IsRest-lowest : (at : ℕ) → IsLowestFrom bits 0 at → IsLowestFrom whole from at
  IsRest-lowest at lowest =
      let later = is_left at lowest.inside lowest.set in
      record {
        inside = lowest.inside;
        not_below = later;
        set = sym (rest.left at lowest.inside later) ∙ lowest.set;
        lowest = λ other not_before before.
            (let inside = lowest.inside in
            sym (rest.left other (omega (arith, before, inside)) not_before) ∙ lowest.lowest other (omega arith) before);
      }

  -- where no bit is left, none is set from there on
  pub IsRest-none : bits ≡ 0 → IsClearFrom whole from
  IsRest-none none at not_before inside = sym (rest.left at inside not_before) ∙ ap (λ (n : ℕ). bit_at n at) none ∙ bit_at-zero at

  -- the lowest one goes
  pub IsRest-next : (at new : ℕ) → IsLowestFrom bits 0 at → IsWithBit bits new at 0 → IsRest whole new (at + 1)
  IsRest-next at new lowest without =
      let later = is_left at lowest.inside lowest.set in
      record {
        few = (let inside = lowest.inside in omega (arith, inside));
        gone = λ other inside before. elim (cases_lt other at) [
          | inl earlier ↦
              with_bit-other bits new at 0 other inside (λ is. (let here : other ≡ at = is in omega (arith, earlier, here))) without
              ∙ lowest.lowest other (omega arith) earlier
          | inr last ↦
              (let here : other ≡ at = omega (arith, before, last) in
              ap (bit_at new) here ∙ with_bit-here bits new at 0 lowest.inside without)
        ];
        left = λ other inside not_before.
            with_bit-other bits new at 0 other inside (λ is. (let here : other ≡ at = is in omega (arith, not_before, here))) without
            ∙ rest.left other inside (omega (arith, not_before, later));
      }

-- a word with a bit that isn't the lowest is 2 at least
some_above : (word at : ℕ) → bit_at word (suc at) ≡ 1 → 2 ≤ word
some_above word at set = elim (cases_lt word 2) [
  | inl small ↦
      (let none : word / 2 ≡ 0 = omega (arith, small) in
      let clear = bit_at-suc word at ∙ ap (λ (n : ℕ). bit_at n at) none ∙ bit_at-zero at in absurd (omega (arith, set, clear)))
  | inr large ↦ large
]

-- one less than a word has no more its lowest set bit, and those above as the word has them
less_here : (at word : ℕ) → bit_at word at ≡ 1 → ((low : ℕ) → low < at → bit_at word low ≡ 0) → bit_at (word - 1) at ≡ 0
less_here zero word set clear =
    let odd = bit_at_lowest word in
    let even = bit_at_lowest (word - 1) in
    omega (arith, set, odd, even)
less_here (suc at) word set clear =
    let even : word % 2 ≡ 0 = sym (bit_at_lowest word) ∙ clear 0 (omega arith) in
    let some = some_above word at set in
    let half : (word - 1) / 2 ≡ word / 2 - 1 = omega (arith, even, some) in
    bit_at-suc (word - 1) at ∙ ap (λ (n : ℕ). bit_at n at) half
    ∙ less_here at (word / 2) (sym (bit_at-suc word at) ∙ set) (λ low below. sym (bit_at-suc word low) ∙ clear (suc low) (omega (arith, below)))

less_above : (at word other : ℕ) → bit_at word at ≡ 1 → ((low : ℕ) → low < at → bit_at word low ≡ 0) → at < other → bit_at (word - 1) other ≡ bit_at word other
less_above at word zero set clear above = absurd (omega (arith, above))
less_above zero word (suc other) set clear above =
    let odd = bit_at_lowest word in
    let half : (word - 1) / 2 ≡ word / 2 = omega (arith, set, odd) in
    bit_at-suc (word - 1) other ∙ ap (λ (n : ℕ). bit_at n other) half ∙ sym (bit_at-suc word other)
less_above (suc at) word (suc other) set clear above =
    let even : word % 2 ≡ 0 = sym (bit_at_lowest word) ∙ clear 0 (omega arith) in
    let some = some_above word at set in
    let half : (word - 1) / 2 ≡ word / 2 - 1 = omega (arith, even, some) in
    bit_at-suc (word - 1) other ∙ ap (λ (n : ℕ). bit_at n other) half
    ∙ less_above at (word / 2) other (sym (bit_at-suc word at) ∙ set) (λ low below. sym (bit_at-suc word low) ∙ clear (suc low) (omega (arith, below)))
    (omega (arith, above))
    ∙ sym (bit_at-suc word other)

-- so both together are the word without it
without_other : (word at other : ℕ) → IsLowestFrom word 0 at → ¬ (other ≡ at) → bit_at (bit_and word (word - 1)) other ≡ bit_at word other
without_other word at other lowest apart =
    let both = bit_at_and word (word - 1) other in
    elim (cases_lt other at) [
      | inl below ↦ (let none = lowest.lowest other (omega arith) below in omega (arith, both, none))
      | inr not_below ↦
          (let beyond : at < other = elim (cases_lt at other) [
            | inl before ↦ before
            | inr after ↦ (let here : other ≡ at = omega (arith, not_below, after) in absurd (apart here))
          ] in
          let above = less_above at word other lowest.set (λ low less. lowest.lowest low (omega arith) less) beyond in
          omega (arith, both, above))
    ]

pub without_lowest-is : (word at : ℕ) → IsLowestFrom word 0 at → IsWithBit word (bit_and word (word - 1)) at 0
without_lowest-is word at lowest other inside =
    let both = bit_at_and word (word - 1) other in
    elim (eqb_tells other at) [
      | inl same ↦
          (let here : other ≡ at = same.1 in
          let less : bit_at (word - 1) other ≡ 0 = ap (bit_at (word - 1)) here ∙ less_here at word lowest.set (λ low below. lowest.lowest low (omega arith) below) in
          let none : bit_at (bit_and word (word - 1)) other ≡ 0 = omega (arith, both, less) in
          none ∙ sym (ap (λ (b : Bool). if b then 0 else bit_at word other) same.0))
      | inr apart ↦
          without_other word at other lowest (λ is. apart.1 is) ∙ sym (ap (λ (b : Bool). if b then 0 else bit_at word other) apart.0)
    ]

-- a word moved up by one
moved_up : (bits at : ℕ) → at < 63 → bit_at (bits * 2 ^ 1 % 2 ^ 64) (suc at) ≡ bit_at bits at
moved_up bits at below =
    let half : bits * 2 ^ 1 % 2 ^ 64 / 2 ≡ bits % 2 ^ 63 = omega arith in
    let whole : bits / 2 ^ 63 * 2 ^ 63 + bits % 2 ^ 63 ≡ bits = omega arith in
    bit_at-suc (bits * 2 ^ 1 % 2 ^ 64) at ∙ ap (λ (n : ℕ). bit_at n at) half
    ∙ sym (bit_at_cat_low (bits / 2 ^ 63) 63 (bits % 2 ^ 63) at below) ∙ ap (λ (n : ℕ). bit_at n at) whole

-- the bit that comes in below a word moved up by one
low-here : (bits : ℕ) (is : Bool) → bit_at (bit_or (bits * 2 ^ 1 % 2 ^ 64) (from_bool is)) 0 ≡ (if is then 1 else 0)
low-here bits is =
    let both = bit_at_or (bits * 2 ^ 1 % 2 ^ 64) (from_bool is) 0 in
    let none : bit_at (bits * 2 ^ 1 % 2 ^ 64) 0 ≡ 0 = (let low = bit_at_lowest (bits * 2 ^ 1 % 2 ^ 64) in omega (arith, low)) in
    omega (arith, both, none) ∙ of_bool is
  where
    of_bool : (one : Bool) → bit_at (from_bool one) 0 ≡ (if one then 1 else 0)
    of_bool true = refl
    of_bool false = refl

-- leaves the others
low-above : (bits at : ℕ) (is : Bool) → at < 63 → bit_at (bit_or (bits * 2 ^ 1 % 2 ^ 64) (from_bool is)) (suc at) ≡ bit_at bits at
low-above bits at is below =
    let both = bit_at_or (bits * 2 ^ 1 % 2 ^ 64) (from_bool is) (suc at) in
    let none = bit_at_above (from_bool is) 1 (suc at) (small is) (omega arith) in
    let moved = moved_up bits at below in
    omega (arith, both, none, moved)
  where
    small : (one : Bool) → from_bool one < 2 ^ 1
    small true = omega arith
    small false = omega arith

-- one more bit comes in below the others, which move up by one
pub low-more : (value : ℕ → ℕ) (bits number at : ℕ) (is : Bool) → at < 64 → number ≡ from_bool is → value at ≡ (if is then 1 else 0) →
    ((later : ℕ) → at + 1 ≤ later → later < 64 → bit_at bits (later - (at + 1)) ≡ value later) → (later : ℕ) → at ≤ later → later < 64 →
    bit_at (bit_or (bits * 2 ^ 1 % 2 ^ 64) number) (later - at) ≡ value later
low-more value bits number at is below number_is value_is all later not_before inside =
    subst (λ (n : ℕ). bit_at (bit_or (bits * 2 ^ 1 % 2 ^ 64) n) (later - at) ≡ value later) (sym number_is) (elim (cases_lt at later) [
      | inl behind ↦
          (let place : later - at ≡ suc (later - (at + 1)) = omega (arith, behind) in
          ap (bit_at (bit_or (bits * 2 ^ 1 % 2 ^ 64) (from_bool is))) place
          ∙ low-above bits (later - (at + 1)) is (omega (arith, behind, inside)) ∙ all later (omega (arith, behind)) inside)
      | inr last ↦
          (let here : at ≡ later = omega (arith, not_before, last) in
          let place : later - at ≡ 0 = omega (arith, here) in
          ap (bit_at (bit_or (bits * 2 ^ 1 % 2 ^ 64) (from_bool is))) place ∙ low-here bits is ∙ sym value_is ∙ ap value here)
    ])

-- a bit that is 1 exactly where something holds is set exactly there
pub set_where : (is : Bool) (bit : ℕ) → bit ≡ (if is then 1 else 0) → (bit ≡ 1) ↔ (is ≡ true)
set_where true bit same = (λ set. refl, λ holds. same)
set_where false bit same = (λ set. absurd (omega (arith, set, same)), λ holds. absurd (cc))

-- two bits are tested as one
pub both_test : (one other : ℕ) → one < 2 → other < 2 → (min one other == 1) ≡ (one == 1) && (other == 1)
both_test zero zero few few_too = refl
both_test zero (suc zero) few few_too = refl
both_test (suc zero) zero few few_too = refl
both_test (suc zero) (suc zero) few few_too = refl
both_test (suc (suc one)) other few few_too = absurd (omega (arith, few))
both_test zero (suc (suc other)) few few_too = absurd (omega (arith, few_too))
both_test (suc zero) (suc (suc other)) few few_too = absurd (omega (arith, few_too))

pub without_test : (one other : ℕ) → one < 2 → other < 2 → (min one (1 - other) == 1) ≡ (one == 1) && not (other == 1)
without_test zero zero few few_too = refl
without_test zero (suc zero) few few_too = refl
without_test (suc zero) zero few few_too = refl
without_test (suc zero) (suc zero) few few_too = refl
without_test (suc (suc one)) other few few_too = absurd (omega (arith, few))
without_test zero (suc (suc other)) few few_too = absurd (omega (arith, few_too))
without_test (suc zero) (suc (suc other)) few few_too = absurd (omega (arith, few_too))

-- a number that is 1 exactly where something holds is tested by that
pub test_where : (number : ℕ) (is : Bool) → (number ≡ 1) ↔ (is ≡ true) → (number == 1) ≡ is
test_where number is both = elim (eqb_tells number 1) [
  | inl same ↦ same.0 ∙ sym (both.0 same.1)
  | inr apart ↦ apart.0 ∙ sym (no is (λ holds. apart.1 (both.1 holds)))
]
  where
    no : (b : Bool) → ¬ (b ≡ true) → b ≡ false
    no true isnt = absurd (isnt refl)
    no false isnt = refl

-- as many bits of a word are set as are counted
pub count_of_bits : (count word : ℕ) → word < 2 ^ count → count_ones word ≡ count_where (λ bit. bit_at word bit == 1) count
count_of_bits zero word few = (let none = ones-le 0 word few in omega (arith, none))
count_of_bits (suc count) word few =
    let fits : word / 2 < 2 ^ count = omega (arith, few) in
    let lowest = bit_at_lowest word in
    let rest =
    count_of_bits count (word / 2) fits
    ∙ sym (count_where-same (λ bit. bit_at word (1 + bit) == 1) (λ bit. bit_at (word / 2) bit == 1) count (λ bit within.
    ap (λ (n : ℕ). bit_at word n == 1) (let e : 1 + bit ≡ suc bit = omega arith in e) ∙ ap (λ (n : ℕ). n == 1) (bit_at-suc word bit))) in
    let all = count_where-from (λ bit. bit_at word bit == 1) 1 count in
    let first = first_bit (word % 2) (omega arith) in
    let here = ap {B = ℕ} (λ (n : ℕ). if n == 1 then 1 else 0) lowest in
    let step = ones_step word in
    let same = ap (count_where (λ bit. bit_at word bit == 1)) (let e : suc count ≡ 1 + count = omega arith in e) in
    omega (arith, rest, all, first, here, step, same)
  where
    first_bit : (bit : ℕ) → bit < 2 → (if bit == 1 then 1 else 0) ≡ bit
    first_bit zero few = refl
    first_bit (suc zero) few = refl
    first_bit (suc (suc bit)) few = absurd (omega (arith, few))
