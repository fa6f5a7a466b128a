-- The shape of a live cell is one of the table.
use Rattle.tide_retained.proofs.ReadLaws.{shapes_of_reads}
use Rattle.tide_retained.proofs.laws.states_may_be_taken.Goals as goal

pub returns : goal.returns
returns c = shapes_of_reads
