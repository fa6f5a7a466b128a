-- What holds at each turn of the loop of `words_among`.
use Rattle.std.proofs.Common.{◌≡◌, ◌-◌, ◌*◌, ◌≤◌, min, sum, take}
use Rattle.tide_layout.specs.Slots.{words_among}
use Rattle.tide_layout.proofs.numbers.words_among.Given as goal

abbrev pub invariant-loop-class : goal.invariant-loop-class
invariant-loop-class l = record {
  rest : l.rest ≡ l.ids - 64 * sum (take l.class l.blocks);
  counted : l.words ≡ words_among l.blocks l.first (min l.ids (64 * sum (take l.class l.blocks)));
  small : l.words ≤ 2080374784;
}
