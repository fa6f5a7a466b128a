-- Words that were worked out by hand, at the limits of their numbers too, and words that are of nothing.
use Rattle.std.proofs.Common.{ℕ, ◌≡◌, ◌<◌, ◌^◌, refl, arith, Bool, true, false, Some, None}
use Rattle.std.specs.Prelude.{if◌then◌else◌}
use Rattle.tide_model.specs.declared.val.Val.TheVariants.{Empty, Int, Cell}
use Rattle.tide_model.specs.State.{idle, marking}
use Rattle.tide_words.specs.declared.forms.colours.Colour.TheVariants.{Black, White, Grey}
use Rattle.tide_words.specs.forms.ColourWord.{colour_word, colour_of, is_black_in, is_grey_in, is_marked_in, phase_word, phase_of}
use Rattle.tide_words.specs.forms.PairWord.{pair_word, IsPairWord}
use Rattle.tide_words.specs.forms.Reference.{array_word, claim_word}
use Rattle.tide_words.specs.forms.StructureWord.{structure_word, IsStructureWord}
use Rattle.tide_words.specs.forms.ValueWord.{val_word, IsValWord}

-- values

nothing : val_word Empty ≡ 0
nothing = refl

least_int : val_word (Int 0) ≡ 1
least_int = refl

int : val_word (Int 7) ≡ 29
int = refl

largest_int : val_word (Int 4294967295) ≡ 17179869181
largest_int = refl

first_cell : val_word (Cell 0) ≡ 2
first_cell = refl

cell : val_word (Cell 5) ≡ 22
cell = refl

largest_cell : val_word (Cell 4294967295) ≡ 17179869182
largest_cell = refl

three_is_no_value : ¬ IsValWord 3
three_is_no_value (Empty, fits, e) = absurd (omega arith)
three_is_no_value (Int n, fits, e) = absurd (omega arith)
three_is_no_value (Cell c, fits, e) = absurd (omega arith)

four_is_no_value : ¬ IsValWord 4
four_is_no_value (Empty, fits, e) = absurd (omega arith)
four_is_no_value (Int n, fits, e) = absurd (omega arith)
four_is_no_value (Cell c, fits, e) = absurd (omega arith)

last_form_is_no_value : ¬ IsValWord 17179869183
last_form_is_no_value (Empty, fits, e) = absurd (omega arith)
last_form_is_no_value (Int n, fits, e) = absurd (omega arith)
last_form_is_no_value (Cell c, fits, e) = absurd (omega arith)

larger_int_is_no_value : ¬ IsValWord 17179869185
larger_int_is_no_value (Empty, fits, e) = absurd (omega arith)
larger_int_is_no_value (Int n, fits, e) = absurd (omega arith)
larger_int_is_no_value (Cell c, fits, e) = absurd (omega arith)

largest_word_is_no_value : ¬ IsValWord 18446744073709551615
largest_word_is_no_value (Empty, fits, e) = absurd (omega arith)
largest_word_is_no_value (Int n, fits, e) = absurd (omega arith)
largest_word_is_no_value (Cell c, fits, e) = absurd (omega arith)

-- structures

no_properties : structure_word (record { shape = 0; count = 0; nuked = false }) ≡ 0
no_properties = refl

structure : structure_word (record { shape = 3; count = 3; nuked = false }) ≡ 774
structure = refl

nuked : structure_word (record { shape = 3; count = 3; nuked = true }) ≡ 775
nuked = refl

nuked_at_most_properties : structure_word (record { shape = 0; count = 64; nuked = true }) ≡ 129
nuked_at_most_properties = refl

largest_structure : structure_word (record { shape = 4294967295; count = 64; nuked = false }) ≡ 1099511627648
largest_structure = refl

one_bit : (nuked : Bool) → (if nuked then 1 else 0) < 2
one_bit true = omega arith
one_bit false = omega arith

too_many_properties : ¬ IsStructureWord 130
too_many_properties (structure, few, at_most, e) = let bit = one_bit structure.nuked in absurd (omega (arith, few, at_most, e, bit))

far_too_many_properties : ¬ IsStructureWord 255
far_too_many_properties (structure, few, at_most, e) = let bit = one_bit structure.nuked in absurd (omega (arith, few, at_most, e, bit))

too_large_a_shape : ¬ IsStructureWord 1099511627776
too_large_a_shape (structure, few, at_most, e) = let bit = one_bit structure.nuked in absurd (omega (arith, few, at_most, e, bit))

-- pairs

first_pair : pair_word 0 Empty ≡ 68719476736
first_pair = refl

pair : pair_word 1 (Cell 2) ≡ 137438953482
pair = refl

last_pair : pair_word 83886079 (Int 7) ≡ 5764607523034234909
last_pair = refl

no_word_is_no_pair : ¬ IsPairWord 0
no_word_is_no_pair (key, Empty, few, fits, e) = absurd (omega arith)
no_word_is_no_pair (key, Int n, few, fits, e) = absurd (omega arith)
no_word_is_no_pair (key, Cell c, few, fits, e) = absurd (omega arith)

word_below_all_pairs : ¬ IsPairWord 68719476735
word_below_all_pairs (key, Empty, few, fits, e) = absurd (omega arith)
word_below_all_pairs (key, Int n, few, fits, e) = absurd (omega arith)
word_below_all_pairs (key, Cell c, few, fits, e) = absurd (omega arith)

pair_with_no_value : ¬ IsPairWord 68719476739
pair_with_no_value (key, Empty, few, fits, e) = absurd (omega arith)
pair_with_no_value (key, Int n, few, fits, e) = absurd (omega arith)
pair_with_no_value (key, Cell c, few, fits, e) = absurd (omega arith)

pair_with_no_key : ¬ IsPairWord 5764607591753711616
pair_with_no_key (key, Empty, few, fits, e) = absurd (omega arith)
pair_with_no_key (key, Int n, few, fits, e) = absurd (omega arith)
pair_with_no_key (key, Cell c, few, fits, e) = absurd (omega arith)

-- claims and arrays

nobody_claims : claim_word None ≡ 0
nobody_claims = refl

first_mutator_claims : claim_word (Some 0) ≡ 1
first_mutator_claims = refl

largest_claim : claim_word (Some 4294967295) ≡ 4294967296
largest_claim = refl

claim_of_nobody : (who : ℕ) → who < 2 ^ 32 → ¬ (claim_word (Some who) ≡ 4294967297)
claim_of_nobody who few e = absurd (omega arith)

no_array : array_word None ≡ 0
no_array = refl

array : array_word (Some 5) ≡ 6
array = refl

array_of_no_number : (number : ℕ) → number < 2 ^ 32 → ¬ (array_word (Some number) ≡ 4294967297)
array_of_no_number number few e = absurd (omega arith)

-- colours

grey : colour_word 2 Grey ≡ 10
grey = refl

grey_is_marked : is_marked_in 2 10 ≡ true
grey_is_marked = refl

black_reads_as_black : is_black_in 2 8 ≡ true
black_reads_as_black = refl

grey_does_not_read_as_black : is_black_in 2 10 ≡ false
grey_does_not_read_as_black = refl

older_black_does_not_read_as_black : is_black_in 2 4 ≡ false
older_black_does_not_read_as_black = refl

later_grey_reads_as_grey : is_grey_in 2 14 ≡ true
later_grey_reads_as_grey = refl

older_grey_is_white : colour_of 6 2 ≡ White
older_grey_is_white = refl

older_grey_is_unmarked : is_marked_in 2 6 ≡ false
older_grey_is_unmarked = refl

state_three_is_white : colour_of 11 2 ≡ White
state_three_is_white = refl

state_one_is_white : colour_of 9 2 ≡ White
state_one_is_white = refl

state_three_of_an_older_cycle_is_white : colour_of 7 2 ≡ White
state_three_of_an_older_cycle_is_white = refl

older_black_is_white : colour_of 4 2 ≡ White
older_black_is_white = refl

empty_word_is_black_at_first : colour_of 0 0 ≡ Black
empty_word_is_black_at_first = refl

black : colour_of 8 2 ≡ Black
black = refl

largest_word_is_older : colour_of 18446744073709551614 4611686018427387904 ≡ White
largest_word_is_older = refl

largest_grey : colour_of 18446744073709551614 4611686018427387903 ≡ Grey
largest_grey = refl

-- phases

before_all_cycles : phase_word 0 false ≡ 0
before_all_cycles = refl

nothing_marks_at_first : phase_of 0 ≡ idle
nothing_marks_at_first = refl

second_cycle : phase_word 2 true ≡ 5
second_cycle = refl

second_cycle_marks : phase_of 5 ≡ marking 2
second_cycle_marks = refl

second_cycle_is_over : phase_of (phase_word 2 false) ≡ idle
second_cycle_is_over = refl

last_cycle_marks : phase_of 18446744073709551615 ≡ marking 9223372036854775807
last_cycle_marks = refl
