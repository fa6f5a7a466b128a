-- Why `new` meets its contract.
use Rattle.std.proofs.Common.{subst, sym}
use Rattle.tide_layout.specs.Limits.{HasFewBlocks}
use Rattle.tide_layout.proofs.StartLaws.{few_of_all}
use Rattle.tide_layout.proofs.layout.Layout.new.Goals as goal

pub large-requires-clause-few_blocks : goal.large-requires-clause-few_blocks
large-requires-clause-few_blocks c = subst HasFewBlocks (sym c.wide.ensures) (few_of_all c.args.blocks c.requires.few_blocks)

pub large-requires-clause-few_arrays : goal.large-requires-clause-few_arrays
large-requires-clause-few_arrays c = subst HasFewBlocks (sym c.wide-2.ensures) (few_of_all c.args.arrays c.requires.few_arrays)
