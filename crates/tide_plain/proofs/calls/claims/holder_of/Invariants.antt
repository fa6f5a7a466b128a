use Rattle.std.proofs.Common.{◌≡◌, []}
use Rattle.tide_model.specs.Numbers.{is_among, numbers_where}
use Rattle.tide_plain.specs.stored.Contents.{state_of}
use Rattle.tide_plain.proofs.calls.claims.holder_of.Given as goal

-- no mutator before this one claims the cell
abbrev pub invariant-loop-who : goal.invariant-loop-who
invariant-loop-who l = numbers_where (λ who. is_among ((state_of l.contents).claims who) l.cell) l.who ≡ []
