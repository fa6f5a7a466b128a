-- How many numbers of a rising row stand at a bound or below it.
use Rattle.std.proofs.Common.{ℕ, zero, suc, ◌≡◌, ◌+◌, ◌<◌, ◌≤◌, ap, arith, Bool, inl, inr}
use Rattle.std.proofs.lemmas.Bool.{cases_lt, le-leb, lt-leb}
use Rattle.std.specs.Prelude.{if◌then◌else◌, nat_le}
use Rattle.tide_model.specs.Numbers.{count_where}
use Rattle.tide_layout.proofs.ClassWidths.{count_where-first, count_where-le}

-- each number of the row is no more than the next
abbrev pub IsRising : (ℕ → ℕ) → Type 0
IsRising row = (k : ℕ) → row k ≤ row (k + 1)

-- how many of the row's first numbers are at most the bound
abbrev pub count_up_to : (ℕ → ℕ) → ℕ → ℕ → ℕ
count_up_to row bound count = count_where (λ k. nat_le (row k) bound) count

-- a later number of a rising row is no less
pub rising-le : (row : ℕ → ℕ) → IsRising row → (low high : ℕ) → low ≤ high → row low ≤ row high
rising-le row rises low zero h =
    let same : low ≡ 0 = omega arith in
    let equal = ap row same in
    omega (arith, equal)
rising-le row rises low (suc high) h = elim (cases_lt high low) [
  | inl last ↦
      let same : low ≡ suc high = omega arith in
      let equal = ap row same in
      omega (arith, equal)
  | inr early ↦
      let before = rising-le row rises low high early in
      let step = rises high in
      let same : high + 1 ≡ suc high = omega arith in
      let equal = ap row same in
      omega (arith, before, step, equal)
]

-- one more number that is at most the bound counts, and a larger one doesn't
pub count_up_to-more : (row : ℕ → ℕ) (bound count : ℕ) → row count ≤ bound → count_up_to row bound (suc count) ≡ count_up_to row bound count + 1
count_up_to-more row bound count h = ap (λ (b : Bool). count_up_to row bound count + (if b then 1 else 0)) (le-leb (row count) bound h)

pub count_up_to-stays : (row : ℕ → ℕ) (bound count : ℕ) → bound < row count → count_up_to row bound (suc count) ≡ count_up_to row bound count
count_up_to-stays row bound count h =
    let none = ap (λ (b : Bool). count_up_to row bound count + (if b then 1 else 0)) (lt-leb (row count) bound h) in
    omega (arith, none)

pub count_up_to-le : (row : ℕ → ℕ) (bound count : ℕ) → count_up_to row bound count ≤ count
count_up_to-le row bound count = count_where-le (λ k. nat_le (row k) bound) count

-- where the numbers at most the bound are those in front, so many are counted
pub count_up_to-is : (row : ℕ → ℕ) (bound count front : ℕ) → front ≤ count
    → ((k : ℕ) → k < front → row k ≤ bound) → ((k : ℕ) → front ≤ k → k < count → bound < row k) → count_up_to row bound count ≡ front
count_up_to-is row bound count front few below above = count_where-first (λ k. nat_le (row k) bound) front count few
    (λ k inside. le-leb (row k) bound (below k inside)) (λ k past inside. lt-leb (row k) bound (above k past inside))

-- of a rising row those counted stand in front
pub counted_are_below : (row : ℕ → ℕ) → IsRising row → (bound count k : ℕ) → k < count_up_to row bound count → row k ≤ bound
counted_are_below row rises bound zero k h = absurd (omega arith)
counted_are_below row rises bound (suc count) k h = elim (cases_lt bound (row count)) [
  | inl above ↦
      let stays = count_up_to-stays row bound count above in
      counted_are_below row rises bound count k (omega (arith, stays, h))
  | inr within ↦
      let few = count_up_to-le row bound (suc count) in
      let before = rising-le row rises k count (omega (arith, few, h)) in
      omega (arith, before, within)
]

pub uncounted_are_above : (row : ℕ → ℕ) → IsRising row → (bound count k : ℕ) → count_up_to row bound count ≤ k → k < count → bound < row k
uncounted_are_above row rises bound zero k h less = absurd (omega arith)
uncounted_are_above row rises bound (suc count) k h less = elim (cases_lt bound (row count)) [
  | inl above ↦ elim (cases_lt k count) [
    | inl early ↦
        let stays = count_up_to-stays row bound count above in
        uncounted_are_above row rises bound count k (omega (arith, stays, h)) early
    | inr late ↦
        let same : k ≡ count = omega arith in
        let equal = ap row same in
        omega (arith, equal, above)
  ]
  | inr within ↦
      let more = count_up_to-more row bound count within in
      let below : (i : ℕ) → i < count → row i ≤ bound = λ i l. let before = rising-le row rises i count (omega arith) in omega (arith, before, within) in
      let all = count_up_to-is row bound count count (omega arith) below (λ i high low. absurd (omega arith)) in
      absurd (omega (arith, more, all, h))
]
