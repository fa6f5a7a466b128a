use Rattle.std.proofs.Common.{◌≡◌, ◌≤◌, length, take, drop, All}
use Rattle.toml.specs.View.{view}
use Rattle.tide_workload.specs.Fields.{number_in}
use Rattle.tide_workload.proofs.EachLemmas.{Reads}
use Rattle.tide_workload.proofs.fields.five_in.Given as goal

abbrev pub invariant-loop-i : goal.invariant-loop-i
invariant-loop-i l = (length l.numbers ≡ 5) × All (λ n. n ≤ l.most) (take l.i l.numbers) × Reads (number_in l.field 0 l.most) view (take l.i l.numbers) (drop l.i l.values) l.values
