-- What the loop of starting::copied_scripts keeps.
use Rattle.std.proofs.Common.{◌≡◌, ◌≤◌, length, map, take}
use Rattle.std.specs.Prelude.{All}
use Rattle.tide_workload.specs.Words.{IsOperation, limits_of}
use Rattle.tide_run.proofs.running.starting.copied_scripts.Given as goal

abbrev pub invariant-loop-m : goal.invariant-loop-m
invariant-loop-m l = record {
  copied : map (λ ops. ops.items) l.scripts.items ≡ take l.m l.load.scripts;
  short : All (λ ops. length ops ≤ 65536) (map (λ ops. ops.items) l.scripts.items);
  within : All (All (IsOperation (limits_of l.load))) (map (λ ops. ops.items) l.scripts.items);
}
