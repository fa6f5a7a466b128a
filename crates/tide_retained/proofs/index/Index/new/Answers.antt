-- Sorting moves the entries alone.
use Rattle.std.proofs.Common.{rules}
use Rattle.std.proofs.lemmas.List.Sorted.{Contains-permutation, IsNonDecreasingBy-from_sort_by_key, IsPermutation-sym}
use Rattle.tide_retained.specs.declared.index.Entry.{Entry}
use Rattle.tide_retained.proofs.index.Index.new.Goals as goal

pub invariant_of-result : goal.invariant_of-result
invariant_of-result c = IsNonDecreasingBy-from_sort_by_key (λ (e : Entry). e.label) c.sort_unstable_by_key.new.self.items c.sort_unstable_by_key.ensures.sorted (λ a r q k. search rules)

pub returns : goal.returns
returns c = λ entry. (
  Contains-permutation c.sort_unstable_by_key.new.self.items c.args.entries.items entry
      (IsPermutation-sym c.args.entries.items c.sort_unstable_by_key.new.self.items c.sort_unstable_by_key.ensures.permutation),
  Contains-permutation c.args.entries.items c.sort_unstable_by_key.new.self.items entry c.sort_unstable_by_key.ensures.permutation,
)
