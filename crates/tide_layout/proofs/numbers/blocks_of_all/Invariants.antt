-- What holds at each turn of the loop of `blocks_of_all`.
use Rattle.std.proofs.Common.{◌≡◌, ◌*◌, ◌≤◌, sum, take}
use Rattle.tide_layout.proofs.numbers.blocks_of_all.Given as goal

abbrev pub invariant-loop-of_class : goal.invariant-loop-of_class
invariant-loop-of_class l = record {
  counted : l.count ≡ sum (take l.of_class-index l.blocks);
  small : l.count ≤ 262144 * l.of_class-index;
}
