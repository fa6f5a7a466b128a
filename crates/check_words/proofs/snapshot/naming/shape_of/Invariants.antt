-- So far it is a shape of the table.
use Rattle.std.proofs.Common.{◌<◌, length}
use Rattle.tide_shape.specs.Lists.{lists_of}
use Rattle.check_words.proofs.snapshot.naming.shape_of.Given as goal

abbrev pub invariant-loop-key : goal.invariant-loop-key
invariant-loop-key l = l.shape < length (lists_of l.table)
