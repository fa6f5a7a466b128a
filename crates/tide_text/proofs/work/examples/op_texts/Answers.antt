use Rattle.std.proofs.Common.{refl}
use Rattle.tide_text.specs.work.ReadOp.{op_named, property_op_named, handle_op_named, pair_op_named}
use Rattle.tide_text.proofs.work.examples.op_texts.Goals as goal

pub returns : goal.returns
unfolding op_named property_op_named handle_op_named pair_op_named
returns c = record { alloc = refl; last_register = refl; collect = refl; get = refl; put = refl; move = refl; set = refl; drop = refl; table = refl; claim = refl; release = refl; unclaim = refl; add = refl; getp = refl; setp = refl; strong = refl; sget = refl; weak = refl; wget = refl; pair = refl; pget = refl; pdel = refl; group = refl; no_third_handle = refl; no_such_key = refl; no_slot_sixteen = refl; too_large_to_set = refl; too_large_a_group = refl; put_in_the_order_of_get = refl; several_spaces = refl; leading_zeros = refl; no_fourth_register = refl; no_class_of_tables = refl; space_before = refl; space_after = refl; other_white_space = refl; eleven_digits = refl; no_digit = refl; signed = refl; too_few = refl; too_many = refl; upper_case = refl; retire = refl; empty = refl }
