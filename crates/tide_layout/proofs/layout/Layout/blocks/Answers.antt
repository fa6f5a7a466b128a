-- A class has few blocks.
use Rattle.tide_layout.specs.Layout.{layout_of}
use Rattle.tide_layout.proofs.LimitLaws.{few_array_blocks, few_cell_blocks}
use Rattle.tide_layout.proofs.layout.Layout.blocks.Goals as goal

pub returns-then-class-lt5-clause-few : goal.returns-then-class-lt5-clause-few
returns-then-class-lt5-clause-few c = few_cell_blocks (layout_of c.self.inside.numbers) c.self.invariant.limits c.from.result

pub returns-else-class-lt5-clause-few : goal.returns-else-class-lt5-clause-few
returns-else-class-lt5-clause-few c = few_array_blocks (layout_of c.self.inside.numbers) c.self.invariant.limits c.from-else-class-lt5.result
