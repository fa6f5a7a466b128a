-- Why `words_before_cell` meets its contract.
use Rattle.std.proofs.Common.{arith, sym, ◌∙◌}
use Rattle.tide_layout.specs.Layout.{layout_of}
use Rattle.tide_layout.proofs.ClassWidths.{words_before_cell-among}
use Rattle.tide_layout.proofs.numbers.Numbers.words_before_cell.Goals as goal

pub returns-clause-words : goal.returns-clause-words
returns-clause-words c = c.words_among.ensures.words ∙ sym (words_before_cell-among (layout_of c.args.self.now) c.args.cell (omega arith))
