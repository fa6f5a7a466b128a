-- Each class has so many blocks, or none.
use Rattle.std.proofs.Common.{ℕ, zero, suc, ◌≤◌, arith}
use Rattle.embed_heap.proofs.large.reading.layout.Goals as goal

pub large-requires-clause-few_blocks : goal.large-requires-clause-few_blocks
large-requires-clause-few_blocks c zero = (let few = c.requires.few in omega (arith, few))
large-requires-clause-few_blocks c (suc zero) = (let few = c.requires.few in omega (arith, few))
large-requires-clause-few_blocks c (suc (suc zero)) = (let few = c.requires.few in omega (arith, few))
large-requires-clause-few_blocks c (suc (suc (suc zero))) = (let few = c.requires.few in omega (arith, few))
large-requires-clause-few_blocks c (suc (suc (suc (suc zero)))) = (let few = c.requires.few in omega (arith, few))
large-requires-clause-few_blocks c (suc (suc (suc (suc (suc class))))) = omega arith

pub large-requires-clause-few_arrays : goal.large-requires-clause-few_arrays
large-requires-clause-few_arrays c zero = omega arith
large-requires-clause-few_arrays c (suc zero) = omega arith
large-requires-clause-few_arrays c (suc (suc zero)) = omega arith
large-requires-clause-few_arrays c (suc (suc (suc zero))) = omega arith
large-requires-clause-few_arrays c (suc (suc (suc (suc zero)))) = omega arith
large-requires-clause-few_arrays c (suc (suc (suc (suc (suc class))))) = omega arith
