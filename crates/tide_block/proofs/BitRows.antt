-- Words of which the lowest set bit is seen at once: for each bit the word of it alone, and the word of it and all
-- above.
use Rattle.std.proofs.Common.{ℕ, ◌≡◌, ◌≢◌, ◌+◌, ◌-◌, ◌^◌, ◌<◌, ◌≤◌, sym, subst, arith}
use Rattle.std.proofs.lemmas.Nat.Bits.{bit_at-pow_other, bit_at-pow_same, bit_at-zero, bit_at_mask_below, bit_at_mask_inside, bit_at_ones}
use Rattle.tide_block.specs.Bits.{IsClearFrom, IsLowestFrom}

one_bit-lowest : (bit : ℕ) → bit < 64 → IsLowestFrom (2 ^ bit) 0 bit
one_bit-lowest bit inside = record {
  inside = inside;
  not_below = omega arith;
  set = bit_at-pow_same bit;
  lowest = λ other from below. bit_at-pow_other bit other (λ same. omega (arith, same, below));
}

one_bit-from_itself : (bit : ℕ) → bit < 64 → IsLowestFrom (2 ^ bit) bit bit
one_bit-from_itself bit inside = record {
  inside = inside;
  not_below = omega arith;
  set = bit_at-pow_same bit;
  lowest = λ other from below. absurd (omega (arith, from, below));
}

one_bit-none_after : (bit : ℕ) → IsClearFrom (2 ^ bit) (bit + 1)
one_bit-none_after bit other from inside = bit_at-pow_other bit other (λ same. omega (arith, same, from))

upper_bits-lowest : (bit : ℕ) → bit < 64 → IsLowestFrom (2 ^ 64 - 2 ^ bit) 0 bit
upper_bits-lowest bit inside = record {
  inside = inside;
  not_below = omega arith;
  set = bit_at_mask_inside bit 64 bit (omega arith) inside;
  lowest = λ other from below. bit_at_mask_below bit 64 other below;
}

all_bits-from : (bit : ℕ) → bit < 64 → IsLowestFrom (2 ^ 64 - 1) bit bit
all_bits-from bit inside = record {
  inside = inside;
  not_below = omega arith;
  set = bit_at_ones 64 bit inside;
  lowest = λ other from below. absurd (omega (arith, from, below));
}

all_bits-none_past : IsClearFrom (2 ^ 64 - 1) 64
all_bits-none_past other from inside = absurd (omega (arith, from, inside))

no_bit : (from : ℕ) → IsClearFrom 0 from
no_bit from other _ inside = bit_at-zero other
