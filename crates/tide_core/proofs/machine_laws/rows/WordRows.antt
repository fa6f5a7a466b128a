-- What words tell that were worked out by hand.
use Rattle.std.proofs.Common.{◌≡◌, refl, true, false}
use Rattle.tide_core.specs.machine.Words.{cell_in, count_of, is_cell_word, is_nuked, nuked_word, value_of, value_of_pair}
use Rattle.tide_model.specs.declared.val.Val.TheVariants.{Empty, Int, Cell}

int : value_of 29 ≡ Int 7
int = refl

cell : value_of 22 ≡ Cell 5
cell = refl

nothing : value_of 0 ≡ Empty
nothing = refl

three_is_no_value : value_of 3 ≡ Empty
three_is_no_value = refl

value_in_pair : value_of_pair 137438953482 ≡ Cell 2
value_in_pair = refl

cell_is_cell : is_cell_word 22 ≡ true
cell_is_cell = refl

int_is_no_cell : is_cell_word 29 ≡ false
int_is_no_cell = refl

fifth_cell : cell_in 22 ≡ 5
fifth_cell = refl

three_properties : count_of 774 ≡ 3
three_properties = refl

most_properties_of_nuked : count_of 129 ≡ 64
most_properties_of_nuked = refl

whole : is_nuked 774 ≡ false
whole = refl

nuked : is_nuked 775 ≡ true
nuked = refl

mark_put_on : nuked_word 774 ≡ 775
mark_put_on = refl
