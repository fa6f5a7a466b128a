-- What the free and dead bits say once a cell or an array is taken.
use Rattle.std.proofs.Common.{ℕ, ◌≡◌, ◌≢◌, ◌<◌, sym, ◌∙◌, ap, arith, Bool, true, false, inl, inr, refl}
use Rattle.std.proofs.lemmas.Bool.{cases_eq, eqb-true}
use Rattle.std.specs.Int.{bit_at}
use Rattle.std.specs.Prelude.{◌==◌, if◌then◌else◌}
use Rattle.tide_words.proofs.tide_block.BitLaws.{with_bit-here, with_bit-other}
use Rattle.tide_words.specs.tide_layout.Region.{block_count}
use Rattle.tide_words.specs.tide_layout.declared.region.Region.TheVariants.{Dead, Free}
use Rattle.tide_model.specs.Layout.{Layout}
use Rattle.tide_model.specs.State.{Status, dead, free, is_free, live, spent}
use Rattle.tide_words.specs.heap.Heap.{Heap, SameIn}
use Rattle.tide_words.specs.heap.Reading.{BitsAreApart, status_by}
use Rattle.tide_words.specs.heap.Written.{IsBitPut}
use Rattle.tide_call.specs.Taken.{IsTakenBit}

-- what is free has its free bit
pub free_bit : (free_word dead_word k : ℕ) (otherwise : Status) → is_free otherwise ≡ false →
    status_by free_word dead_word k otherwise ≡ free → bit_at free_word k ≡ 1
free_bit free_word dead_word k otherwise isnt is = by_test (bit_at free_word k == 1) refl is
  where
    not_free : (b : Bool) → (if b then dead else otherwise) ≡ free → ⊥
    not_free true e = absurd (cc)
    not_free false e = absurd (let bad = sym isnt ∙ ap is_free e in cc)

    by_test : (b : Bool) → (bit_at free_word k == 1) ≡ b →
        (if b then free else if bit_at dead_word k == 1 then dead else otherwise) ≡ free → bit_at free_word k ≡ 1
    by_test true e h = eqb-true (bit_at free_word k) 1 e
    by_test false e h = absurd (not_free (bit_at dead_word k == 1) h)

-- what is live by its bits is spent where it is spent without them
pub spent_bits : (free_word dead_word k : ℕ) → status_by free_word dead_word k live ≡ live →
    status_by free_word dead_word k spent ≡ spent
spent_bits free_word dead_word k is = by_tests (bit_at free_word k == 1) (bit_at dead_word k == 1) is
  where
    by_tests : (b c : Bool) → (if b then free else if c then dead else live) ≡ live →
        (if b then free else if c then dead else spent) ≡ spent
    by_tests true c e = absurd (cc)
    by_tests false true e = absurd (cc)
    by_tests false false e = refl

-- a bit that was cleared is one that is taken
pub IsTakenBit-put : (layout : Layout) (old new : Heap) (block bit : ℕ) → IsBitPut layout old new Free block bit 0 →
    IsTakenBit layout old new block bit
IsTakenBit-put layout old new block bit put = record { other_words = put.other_words; bits = put.bits }

module _ (layout : Layout) (old new : Heap) (block bit : ℕ) (inside : bit < 64) (within : block < block_count layout)
    (taken : IsTakenBit layout old new block bit) (same_dead : SameIn layout Dead old new) where
  bit-else : (other k : ℕ) → other < block_count layout → k < 64 → (other ≡ block → k ≢ bit) →
      bit_at (new Free other) k ≡ bit_at (old Free other) k
  bit-else other k below few apart = elim (cases_eq other block) [
    | inl same ↦
        ap (λ (b : ℕ). bit_at (new Free b) k) same
        ∙ with_bit-other (old Free block) (new Free block) bit 0 k few (apart same) taken.bits
        ∙ ap (λ (b : ℕ). bit_at (old Free b) k) (sym same)
    | inr differs ↦ ap (λ (word : ℕ). bit_at word k) (taken.other_words other below differs)
  ]

  bit-here : bit_at (new Free block) bit ≡ 0
  bit-here = with_bit-here (old Free block) (new Free block) bit 0 inside taken.bits

  -- the status of another
  pub status-else : (other k : ℕ) (otherwise : Status) → other < block_count layout → k < 64 →
      (other ≡ block → k ≢ bit) →
      status_by (new Free other) (new Dead other) k otherwise ≡ status_by (old Free other) (old Dead other) k otherwise
  status-else other k otherwise below few apart =
      ap (λ (b : ℕ). if b == 1 then free else if bit_at (new Dead other) k == 1 then dead else otherwise)
      (bit-else other k below few apart)
      ∙ ap (λ (w : ℕ). status_by (old Free other) w k otherwise) (same_dead other below)

  -- the status of what was taken
  pub status-taken : (otherwise : Status) → bit_at (old Dead block) bit ≡ 0 →
      status_by (new Free block) (new Dead block) bit otherwise ≡ otherwise
  status-taken otherwise not_dead =
      ap (λ (b : ℕ). if b == 1 then free else if bit_at (new Dead block) bit == 1 then dead else otherwise) bit-here
      ∙ ap (λ (b : ℕ). if b == 1 then dead else otherwise)
      (ap (λ (w : ℕ). bit_at w bit) (same_dead block within) ∙ not_dead)

  -- no bits are free and dead afterwards
  pub BitsAreApart-taken : BitsAreApart layout old → BitsAreApart layout new
  BitsAreApart-taken apart other k below few is_free = elim (cases_eq other block) [
    | inl same ↦ elim (cases_eq k bit) [
      | inl also ↦ absurd (
          let one : bit_at (new Free block) bit ≡ 1 =
          sym (ap (λ (b : ℕ). bit_at (new Free b) k) same ∙ ap (bit_at (new Free block)) also) ∙ is_free in
          let zero = bit-here in omega (arith, one, zero))
      | inr differs ↦ kept (λ is. differs)
    ]
    | inr differs ↦ kept (λ is. absurd (differs is))
  ]
    where
      kept : (other ≡ block → k ≢ bit) → bit_at (new Dead other) k ≡ 0
      kept elsewhere =
          ap (λ (w : ℕ). bit_at w k) (same_dead other below)
          ∙ apart other k below few (sym (bit-else other k below few elsewhere) ∙ is_free)
