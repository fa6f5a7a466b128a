-- The pair stands behind those with lower keys, and before those with higher ones.
use Rattle.std.proofs.Common.{◌≡◌, ◌≤◌, true, false, List, length, rules, sym, subst}
use Rattle.std.specs.Prelude.{◌⊎◌, ◌↔◌, Contains, nat_lt}
use Rattle.std.specs.List.Sorted.{IsNonDecreasingBy, IsPartitionPoint}
use Rattle.std.proofs.lemmas.List.Sorted.{IsPartitionPoint-from_clause, IsPartitionedBy-ltb}
use Rattle.tide_retained.specs.declared.contents.Keyed.{Keyed}
use Rattle.tide_retained.specs.Holding.{AreRising}
use Rattle.tide_retained.proofs.PairLaws.{insert_contains, insert_rising, rising_by_key}
use Rattle.tide_retained.proofs.reading.insert_pair.Goals as goal

pub returns-clause-rising : goal.returns-clause-rising
returns-clause-rising c = λ rising fresh.
    let pairs = c.args.pairs.now.items in
    let key = c.args.pair.key in
    let seen = c.as_slice.ensures.value in
    let at = c.partition_point-at.result in
    let sorted = subst (IsNonDecreasingBy (λ (e : Keyed). e.key)) (sym seen) (rising_by_key pairs rising) in
    let point = IsPartitionPoint-from_clause (λ (e : Keyed). nat_lt e.key key) c.as_slice.result.now at c.partition_point-at.ensures.partitioned
    (IsPartitionedBy-ltb (λ (e : Keyed). e.key) c.as_slice.result.now key sorted) (λ a r f' k. search rules) in
    let among = subst (λ (list : List Keyed). IsPartitionPoint (λ (e : Keyed). nat_lt e.key key ≡ true) (λ (e : Keyed). nat_lt e.key key ≡ false) list at) seen point in
    subst AreRising (sym c.in_ok-insert.ensures.items) (insert_rising pairs c.args.pair at (subst (λ (list : List Keyed). at ≤ length list) seen c.partition_point-at.ensures.bound) rising fresh among)

pub returns-clause-each : goal.returns-clause-each
returns-clause-each c = λ other.
    subst (λ (list : List Keyed). Contains list other ↔ (Contains c.args.pairs.now.items other ⊎ (other ≡ c.args.pair))) (sym c.in_ok-insert.ensures.items)
    (insert_contains c.args.pairs.now.items c.partition_point-at.result c.args.pair other)
