use Rattle.tide_posts.proofs.FullCycles.{full_cycle_ran}
use Rattle.tide_posts.proofs.laws.full_cycles_run.Goals as goal

pub returns : goal.returns
returns c = record { ran = full_cycle_ran }
