use Rattle.std.proofs.Common.{◌≡◌, replicate}
use Rattle.tide_plain.specs.parts.PartLists.{blank_mutator}
use Rattle.tide_plain.proofs.parts.mutators.Mutators.new.Given as goal

abbrev pub invariant-loop : goal.invariant-loop
invariant-loop l = l.mutators.items ≡ replicate l.counter blank_mutator
