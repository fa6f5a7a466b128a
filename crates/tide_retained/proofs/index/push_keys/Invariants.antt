-- The entries of the pairs so far.
use Rattle.std.proofs.Common.{◌≡◌, [], ◌∷◌, ◌++◌, take}
use Rattle.std.specs.List.{flat_map}
use Rattle.tide_retained.specs.Index.{entry}
use Rattle.tide_retained.proofs.index.push_keys.Given as goal

abbrev pub invariant-loop-pair : goal.invariant-loop-pair
invariant-loop-pair l = l.entries.items ≡ l.initial.entries.items ++ flat_map (λ pair. entry pair.key l.table ∷ []) (take l.pair-index l.pairs)
