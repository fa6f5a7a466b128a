-- How the bits of a word move and change, and where the lowest set one stands.
use Rattle.std.proofs.Common.{ℕ, zero, suc, ◌≡◌, ◌≢◌, ◌+◌, ◌-◌, ◌*◌, ◌/◌, ◌%◌, ◌^◌, ◌<◌, refl, sym, ◌∙◌, ap, arith, Bool, ◌⊎◌, inl, inr, w64}
use Rattle.std.proofs.lemmas.Nat.{shr_split}
use Rattle.std.proofs.lemmas.Nat.Bits.{bit_at-zero, bit_at-lt, bit_at_above, bit_at_cat_high, bit_at_clear_other, bit_at_clear_same, bit_at_set_other, bit_at_set_same, bit_at-trailing_zeros}
use Rattle.std.proofs.lemmas.Bool.{cases_lt, eq-eqb, ne_eqb}
use Rattle.std.proofs.lemmas.Bool.Decides.{eqb_tells}
use Rattle.std.proofs.Math.Pow.{pow_pos}
use Rattle.std.proofs.Math.Nat.{mod-lt}
use Rattle.std.specs.Int.{bit_at, bit_not, trailing_zeros}
use Rattle.std.specs.Prelude.{bit_and, bit_or, if◌then◌else◌}
use Rattle.tide_block.specs.Bits.{IsSet, IsClear, IsClearFrom, IsLowestFrom, IsWithBit}

-- a bit is set or clear
pub set_or_clear : (word bit : ℕ) → IsSet word bit ⊎ IsClear word bit
set_or_clear word bit = from_below (bit_at word bit) (bit_at-lt word bit)
  where
    from_below : (n : ℕ) → n < 2 → (n ≡ 1) ⊎ (n ≡ 0)
    from_below zero h = inr refl
    from_below (suc zero) h = inl refl
    from_below (suc (suc n)) h = absurd (omega arith)

-- a set bit of a word of 64 bits is below 64
pub set_is_inside : (word bit : ℕ) → word < 2 ^ 64 → IsSet word bit → bit < 64
set_is_inside word bit fits set = elim (cases_lt bit 64) [
  | inl inside ↦ inside
  | inr outside ↦ (let clear = bit_at_above word 64 bit fits outside in absurd (omega (arith, set, clear)))
]

-- the word shifted down by k has bit i where the word has bit k + i
pub bit_at-shifted : (word k i : ℕ) → bit_at (word / 2 ^ k) i ≡ bit_at word (k + i)
bit_at-shifted word k i =
    let low : word % 2 ^ k < 2 ^ k = mod-lt word (pow_pos k) in
    let high = bit_at_cat_high (word / 2 ^ k) k (word % 2 ^ k) (k + i) low (omega arith) in
    let back : (k + i) - k ≡ i = omega arith in
    sym (ap (λ n. bit_at n (k + i)) (sym (shr_split word k)) ∙ high ∙ ap (bit_at (word / 2 ^ k)) back)

-- the trailing zeros of a word that is not 0 end at its lowest set bit
pub lowest-trailing_zeros : (word : ℕ) → 0 < word → word < 2 ^ 64 → IsLowestFrom word 0 (trailing_zeros w64 word)
lowest-trailing_zeros word some fits =
    let h = bit_at-trailing_zeros w64 word some fits in
    record { inside = h.0; not_below = omega arith; set = h.1; lowest = λ other _ below. h.2 other below }

-- the lowest set bit of the word shifted down is the lowest from there on
pub lowest-shifted : (word k steps : ℕ) → word < 2 ^ 64 → IsLowestFrom (word / 2 ^ k) 0 steps → IsLowestFrom word k (k + steps)
lowest-shifted word k steps fits h =
    let set = sym (bit_at-shifted word k steps) ∙ h.set in
    record {
      inside = set_is_inside word (k + steps) fits set;
      not_below = omega arith;
      set = set;
      lowest = λ other from below.
          let same : k + (other - k) ≡ other = omega arith in
          ap (bit_at word) (sym same) ∙ sym (bit_at-shifted word k (other - k)) ∙ h.lowest (other - k) (omega arith) (omega arith);
    }

-- a word that shifts down to 0 has no bit set from there on
pub clear-shifted : (word k : ℕ) → word / 2 ^ k ≡ 0 → IsClearFrom word k
clear-shifted word k h bit from _ =
    let same : k + (bit - k) ≡ bit = omega arith in
    ap (bit_at word) (sym same) ∙ sym (bit_at-shifted word k (bit - k)) ∙ ap (λ n. bit_at n (bit - k)) h ∙ bit_at-zero (bit - k)

-- where there is a lowest set bit, the bits from there on are not all clear
pub lowest-not_clear : (word from bit : ℕ) → IsLowestFrom word from bit → ¬ IsClearFrom word from
lowest-not_clear word from bit h clear = let zero_at = clear bit h.not_below h.inside in omega (arith, zero_at, h.set)

-- a bit that is set by its mask
pub with_bit-is : (word bit : ℕ) → bit < 64 → IsWithBit word (bit_or word (1 * 2 ^ bit % 2 ^ 64)) bit 1
with_bit-is word bit inside other below = elim (eqb_tells other bit) [
  | inl same ↦
      ap (bit_at (bit_or word (1 * 2 ^ bit % 2 ^ 64))) same.1 ∙ bit_at_set_same w64 word bit inside
      ∙ sym (ap (λ (b : Bool). if b then 1 else bit_at word other) same.0)
  | inr apart ↦ bit_at_set_other w64 word bit inside other apart.1 ∙ sym (ap (λ (b : Bool). if b then 1 else bit_at word other) apart.0)
]

-- and one that is cleared by it
pub without_bit-is : (word bit : ℕ) → bit < 64 → IsWithBit word (bit_and word (bit_not w64 (1 * 2 ^ bit % 2 ^ 64))) bit 0
without_bit-is word bit inside other below = elim (eqb_tells other bit) [
  | inl same ↦
      ap (bit_at (bit_and word (bit_not w64 (1 * 2 ^ bit % 2 ^ 64)))) same.1 ∙ bit_at_clear_same w64 word bit inside
      ∙ sym (ap (λ (b : Bool). if b then 0 else bit_at word other) same.0)
  | inr apart ↦ bit_at_clear_other w64 word bit inside other below apart.1 ∙ sym (ap (λ (b : Bool). if b then 0 else bit_at word other) apart.0)
]

-- the bit that was changed
pub with_bit-here : (old new bit value : ℕ) → bit < 64 → IsWithBit old new bit value → bit_at new bit ≡ value
with_bit-here old new bit value inside changed = changed bit inside ∙ ap (λ (b : Bool). if b then value else bit_at old bit) (eq-eqb bit bit refl)

-- each other bit
pub with_bit-other : (old new bit value other : ℕ) → other < 64 → other ≢ bit → IsWithBit old new bit value → bit_at new other ≡ bit_at old other
with_bit-other old new bit value other inside apart changed =
    changed other inside ∙ ap (λ (b : Bool). if b then value else bit_at old other) (ne_eqb other bit apart)

-- a set bit up to the lowest one from some bit on is that one or below where it was looked for from
pub set-next : (word from next bit : ℕ) → IsLowestFrom word from next → bit < next + 1 → IsSet word bit → (bit < from) ⊎ (bit ≡ next)
set-next word from next bit lowest below set = elim (cases_lt bit from) [
  | inl earlier ↦ inl earlier
  | inr later ↦ elim (cases_lt bit next) [
    | inl before ↦ (let clear = lowest.lowest bit later before in absurd (omega (arith, set, clear)))
    | inr last ↦ inr (omega (arith, below, last))
  ]
]

-- where no bit from one on is set, a set bit is below it
pub set-below : (word from bit : ℕ) → IsClearFrom word from → bit < 64 → IsSet word bit → bit < from
set-below word from bit clear inside set = elim (cases_lt bit from) [
  | inl below ↦ below
  | inr later ↦ (let is = clear bit later inside in absurd (omega (arith, set, is)))
]
