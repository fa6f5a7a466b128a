-- What a bit that is set or a grey word that is taken changes for the bits of all cells.
use Rattle.std.proofs.Common.{ℕ, ◌≡◌, ◌+◌, ◌≤◌, ◌%◌, ◌==◌, sym, ◌∙◌, ap, arith, Bool, true, false, inl, inr}
use Rattle.std.proofs.lemmas.Bool.{cases_eq, eq-eqb, ne_eqb}
use Rattle.std.proofs.lemmas.Nat.Bits.{bit_at_or, bit_at-pow_same, bit_at-pow_other, bit_at-lt}
use Rattle.std.specs.Int.{bit_at}
use Rattle.std.specs.Prelude.{if◌then◌else◌, bit_or, max}
use Rattle.tide_core.specs.machine.Words.{bit_of}
use Rattle.tide_model.specs.Layout.{block_of_cell}

-- the bit of a cell is set, and no other
bit_pushed : (old : ℕ → ℕ) (cell other : ℕ) →
    bit_at (if block_of_cell other == block_of_cell cell then bit_or (old (block_of_cell cell)) (bit_of cell) else old
    (block_of_cell other)) (other % 64)
    ≡ (if cell == other then 1 else bit_at (old (block_of_cell other)) (other % 64))
bit_pushed old cell other = elim (cases_eq (block_of_cell other) (block_of_cell cell)) [
  | inl same ↦
      let here = ap (λ (b : Bool). bit_at (if b then bit_or (old (block_of_cell cell)) (bit_of cell) else old
      (block_of_cell other)) (other % 64)) (eq-eqb (block_of_cell other) (block_of_cell cell) same) in
      here ∙ bit_at_or (old (block_of_cell cell)) (bit_of cell) (other % 64) ∙ in_block same
  | inr apart ↦
      let here = ap (λ (b : Bool). bit_at (if b then bit_or (old (block_of_cell cell)) (bit_of cell) else old
      (block_of_cell other)) (other % 64)) (ne_eqb (block_of_cell other) (block_of_cell cell) apart) in
      let not_it = ap {B = ℕ} (λ (b : Bool). if b then 1 else bit_at (old (block_of_cell other)) (other % 64))
      (ne_eqb cell other (λ e. apart (ap block_of_cell (sym e)))) in
      here ∙ sym not_it
]
  where
    in_block : block_of_cell other ≡ block_of_cell cell →
        max (bit_at (old (block_of_cell cell)) (other % 64)) (bit_at (bit_of cell) (other % 64)) ≡ (if cell ==
        other then 1 else bit_at (old (block_of_cell other)) (other % 64))
    in_block same = elim (cases_eq cell other) [
      | inl is ↦
          let one = ap {B = ℕ} (λ (b : Bool). if b then 1 else bit_at (old (block_of_cell other)) (other % 64))
          (eq-eqb cell other is) in
          let set : bit_at (bit_of cell) (other % 64) ≡ 1 = ap (λ (c : ℕ). bit_at (bit_of cell) (c % 64)) (sym is) ∙
          bit_at-pow_same (cell % 64) in
          let few = bit_at-lt (old (block_of_cell cell)) (other % 64) in
          omega (arith, one, set, few)
      | inr apart ↦
          let not_it = ap {B = ℕ} (λ (b : Bool). if b then 1 else bit_at (old (block_of_cell other)) (other % 64))
          (ne_eqb cell other apart) in
          let clear = bit_at-pow_other (cell % 64) (other % 64) (λ e. apart (omega (arith, e, same))) in
          let word = ap (λ (b : ℕ). bit_at (old b) (other % 64)) same in
          omega (arith, not_it, clear, word)
    ]

-- a bit that is set counts one more for its cell, which had none there, and for no other cell
pub bit_counted : (old : ℕ → ℕ) (cell other : ℕ) →
    bit_at (old (block_of_cell other)) (other % 64) + (if cell == other then 1 else 0) ≤ 1 →
    bit_at (if block_of_cell other == block_of_cell cell then bit_or (old (block_of_cell cell)) (bit_of cell) else old
    (block_of_cell other)) (other % 64)
    ≡ bit_at (old (block_of_cell other)) (other % 64) + (if cell == other then 1 else 0)
bit_counted old cell other few = bit_pushed old cell other
    ∙ set_once (cell == other) (bit_at (old (block_of_cell other)) (other % 64)) few
  where
    set_once : (set : Bool) (bit : ℕ) → bit + (if set then 1 else 0) ≤ 1 →
        (if set then 1 else bit) ≡ bit + (if set then 1 else 0)
    set_once true bit few = omega (arith, few)
    set_once false bit few = omega arith

-- what a test counts is one at most
pub one_at_most : (b : Bool) → (if b then 1 else 0) ≤ 1
one_at_most true = omega arith
one_at_most false = omega arith
