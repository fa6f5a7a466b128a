-- What single words tell is the inverse of how words are made.
use Rattle.std.proofs.Common.{ℕ, ◌≡◌, ◌≢◌, ◌+◌, ◌*◌, ◌/◌, ◌%◌, ◌^◌, ◌<◌, ◌≤◌, refl, ◌∙◌, ap, arith, Bool, true, false}
use Rattle.std.proofs.lemmas.Bool.{eq-eqb, eqb-false, eqb-true, ne_eqb}
use Rattle.std.specs.Prelude.{if◌then◌else◌, ◌==◌}
use Rattle.tide_core.specs.machine.Words.{cell_in, count_of, is_cell_word, is_nuked, nuked_word, value_of, value_of_pair}
use Rattle.tide_model.specs.declared.val.Val.{Val}
use Rattle.tide_model.specs.declared.val.Val.TheVariants.{Empty, Int, Cell}
use Rattle.tide_words.specs.declared.forms.structure.Structure.{Structure}
use Rattle.tide_words.specs.forms.PairWord.{pair_word}
use Rattle.tide_words.specs.forms.StructureWord.{structure_word}
use Rattle.tide_words.specs.forms.ValueWord.{HasU32, val_word}

-- a value is that of its word
pub value_of_word : (value : Val) → value_of (val_word value) ≡ value
value_of_word Empty = refl
value_of_word (Int n) =
    let rest : (4 * n + 1) % 4 ≡ 1 = omega arith in
    let number : (4 * n + 1) / 4 ≡ n = omega arith in
    ap (λ (r : ℕ). if r == 1 then Int ((4 * n + 1) / 4) else if r == 2 then Cell ((4 * n + 1) / 4) else Empty) rest
    ∙ ap Int number
value_of_word (Cell n) =
    let rest : (4 * n + 2) % 4 ≡ 2 = omega arith in
    let number : (4 * n + 2) / 4 ≡ n = omega arith in
    ap (λ (r : ℕ). if r == 1 then Int ((4 * n + 2) / 4) else if r == 2 then Cell ((4 * n + 2) / 4) else Empty) rest
    ∙ ap Cell number

-- so is the value of a pair's word
pub value_of_pair_word : (key : ℕ) (value : Val) → HasU32 value → value_of_pair (pair_word key value) ≡ value
value_of_pair_word key value fits =
    ap value_of (low_part key (val_word value) (below_key value fits)) ∙ value_of_word value
  where
    below_key : (v : Val) → HasU32 v → val_word v < 2 ^ 36
    below_key Empty few = omega arith
    below_key (Int n) few = omega (arith, few)
    below_key (Cell n) few = omega (arith, few)

    low_part : (k x : ℕ) → x < 2 ^ 36 → (2 ^ 36 * (k + 1) + x) % 2 ^ 36 ≡ x
    low_part k x few = omega (arith, few)

-- a cell's word is one
pub cell_word_is : (word cell : ℕ) → word ≡ val_word (Cell cell) → is_cell_word word ≡ true
cell_word_is word cell is = eq-eqb (word % 4) 2 (omega (arith, is))

-- it is the word of the cell in it
pub cell_of_word : (word : ℕ) → is_cell_word word ≡ true → word ≡ val_word (Cell (cell_in word))
cell_of_word word is = (let two = eqb-true (word % 4) 2 is in omega (arith, two))

-- a cell is that in its word
pub cell_in_word : (cell : ℕ) → cell_in (val_word (Cell cell)) ≡ cell
cell_in_word cell = omega arith

-- a structure's word tells its number of properties
pub count_of_word : (structure : Structure) → structure.count ≤ 64 → count_of (structure_word structure) ≡ structure.count
count_of_word structure few = by_mark structure.nuked
  where
    by_mark : (nuked : Bool) →
        count_of (256 * structure.shape + 2 * structure.count + (if nuked then 1 else 0)) ≡ structure.count
    by_mark true = omega (arith, few)
    by_mark false = omega (arith, few)

-- and whether it has the mark
pub is_nuked_word : (structure : Structure) → is_nuked (structure_word structure) ≡ structure.nuked
is_nuked_word structure = by_mark structure.nuked
  where
    by_mark : (nuked : Bool) →
        is_nuked (256 * structure.shape + 2 * structure.count + (if nuked then 1 else 0)) ≡ nuked
    by_mark true = eq-eqb ((256 * structure.shape + 2 * structure.count + 1) % 2) 1 (omega arith)
    by_mark false = ne_eqb ((256 * structure.shape + 2 * structure.count + 0) % 2) 1 (λ e. omega (arith, e))

-- the word of a whole structure gets the word of the same one with the mark
pub nuked_word_is : (structure : Structure) → structure.nuked ≡ false →
    nuked_word (structure_word structure) ≡ structure_word (record structure { nuked = true })
nuked_word_is structure whole =
    let none = ap {B = ℕ} (λ (b : Bool). if b then 1 else 0) whole in omega (arith, none)

-- it reads as nuked, with the count that it had
pub nuked_word_reads : (word : ℕ) → is_nuked word ≡ false →
    (is_nuked (nuked_word word) ≡ true) × (count_of (nuked_word word) ≡ count_of word)
nuked_word_reads word even =
    let rest : word % 2 ≢ 1 = eqb-false (word % 2) 1 even in
    (eq-eqb ((word + 1) % 2) 1 (omega (arith, rest)), omega (arith, rest))

-- and is that of no other word
pub same_from_nuked_word : (one other : ℕ) → nuked_word one ≡ nuked_word other → one ≡ other
same_from_nuked_word one other same = omega (arith, same)
