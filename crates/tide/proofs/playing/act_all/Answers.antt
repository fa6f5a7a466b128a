-- What was written back in each job holds of the whole lists.
use Rattle.std.proofs.Common.{rules}
use Rattle.tide.proofs.Acting.{zip_written}
use Rattle.tide.proofs.playing.act_all.Goals as goal

pub returns : goal.returns
returns g c = zip_written _ c.args.jobs.items c.act_each.new.jobs c.args.jobs.len c.args.jobs.ok.0 (search rules) (search rules)
