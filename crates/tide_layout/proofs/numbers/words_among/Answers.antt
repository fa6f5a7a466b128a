-- Why `words_among` meets its contract.
use Rattle.std.proofs.Common.{◌+◌, ◌*◌, ◌∙◌, ap, arith, min, sum, take}
use Rattle.std.specs.Prelude.{slice_index}
use Rattle.tide_layout.proofs.ClassWidths.{words_among-more, words_among-none}
use Rattle.tide_layout.proofs.LimitLaws.{words_among-small}
use Rattle.tide_layout.proofs.numbers.words_among.Goals as goal

pub loop-class-init : goal.loop-class-init
loop-class-init c = record {
  rest = omega arith;
  counted = omega (arith, words_among-none c.args.blocks.now c.args.first c.args.ids);
  small = omega arith;
}

pub loop-class-preserved : goal.loop-class-preserved
loop-class-preserved c =
    let blocks = c.args.blocks.now in
    let class = c.loop-class.class in
    let more = words_among-more blocks c.args.first class c.args.ids c.loop-class.rest c.loop-class.words
    (slice_index blocks c.from.result) c.from-in-loop-class.result c.min-of_class.result c.loop-class-test.true c.told-blocks
    c.loop-class.invariant.rest c.loop-class.invariant.counted (ap (slice_index blocks) c.from.ensures)
    (c.from-in-loop-class.ensures ∙ c.width.ensures.width) c.min-of_class.ensures in
    let few = words_among-small blocks c.args.first (min c.args.ids (64 * sum (take (class + 1) blocks))) c.requires.few c.told-blocks c.requires.few_blocks (omega (arith, c.requires.within)) in
    record {
      rest = more.0;
      counted = more.1;
      small = omega (arith, more.1, few);
    }
