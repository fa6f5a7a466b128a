-- Each step retains what it leads to, and each reason to retain a cell is a step or a root.
use Rattle.tide_model.specs.Graph.{graph_of}
use Rattle.tide_retained.proofs.PathLaws.{one_distance, reached_is_retained, retained_is_reached}
use Rattle.tide_retained.proofs.laws.paths_retain.Goals as goal

pub returns-clause-retain : goal.returns-clause-retain
returns-clause-retain c = λ state cell. (retained_is_reached (graph_of state) cell, (λ (steps, path). reached_is_retained path))

pub returns-clause-alone : goal.returns-clause-alone
returns-clause-alone c = λ state. one_distance (graph_of state)
