use Rattle.std.proofs.Common.{rules}
use Rattle.tide_workload.proofs.TableLemmas.{list_of-items_view}
use Rattle.tide_workload.proofs.fields.values_of.Goals as goal

pub returns : goal.returns
returns c = rw (c.as_slice.ensures.value, ← list_of-items_view c.in_ok-values.values.now.items) (search (rules, c.in_ok-values.ensures))
