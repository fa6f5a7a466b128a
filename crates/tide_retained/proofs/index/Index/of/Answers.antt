-- The tests below and up to the label part the entries, and those under it stand between.
use Rattle.std.proofs.Common.{◌-◌, List, rules, sym, ◌∙◌, subst, take, drop}
use Rattle.std.specs.Prelude.{nat_lt, nat_le}
use Rattle.std.specs.List.Sorted.{IsNonDecreasingBy}
use Rattle.std.proofs.lemmas.List.Sorted.{IsPartitionPoint-from_clause, IsPartitionedBy-leb, IsPartitionedBy-ltb}
use Rattle.tide_retained.specs.declared.index.Entry.{Entry}
use Rattle.tide_retained.specs.Index.{AreUnder}
use Rattle.tide_retained.proofs.IndexLaws.{under_label}
use Rattle.tide_retained.proofs.index.Index.of.Goals as goal

pub slice_bounds-result-count : goal.slice_bounds-result-count
slice_bounds-result-count c =
    let entries = c.as_slice-entries.result.now in
    let label = c.args.label in
    let sorted = subst (IsNonDecreasingBy (λ (e : Entry). e.label)) (sym c.as_slice-entries.ensures.value) c.self.invariant in
    let below = IsPartitionPoint-from_clause (λ (e : Entry). nat_lt e.label label) entries c.partition_point-from.result c.partition_point-from.ensures.partitioned
    (IsPartitionedBy-ltb (λ (e : Entry). e.label) entries label sorted) (λ a r f' k. search rules) in
    let upto = IsPartitionPoint-from_clause (λ (e : Entry). nat_le e.label label) entries c.partition_point-to.result c.partition_point-to.ensures.partitioned
    (IsPartitionedBy-leb (λ (e : Entry). e.label) entries label sorted) (λ a r f' k. search rules) in
    let all = under_label entries label c.partition_point-from.result c.partition_point-to.result c.partition_point-from.ensures.bound c.partition_point-to.ensures.bound below upto in
    all.0

pub slice_bounds-result-start : goal.slice_bounds-result-start
slice_bounds-result-start c =
    let entries = c.as_slice-entries.result.now in
    let label = c.args.label in
    let sorted = subst (IsNonDecreasingBy (λ (e : Entry). e.label)) (sym c.as_slice-entries.ensures.value) c.self.invariant in
    let below = IsPartitionPoint-from_clause (λ (e : Entry). nat_lt e.label label) entries c.partition_point-from.result c.partition_point-from.ensures.partitioned
    (IsPartitionedBy-ltb (λ (e : Entry). e.label) entries label sorted) (λ a r f' k. search rules) in
    let upto = IsPartitionPoint-from_clause (λ (e : Entry). nat_le e.label label) entries c.partition_point-to.result c.partition_point-to.ensures.partitioned
    (IsPartitionedBy-leb (λ (e : Entry). e.label) entries label sorted) (λ a r f' k. search rules) in
    let all = under_label entries label c.partition_point-from.result c.partition_point-to.result c.partition_point-from.ensures.bound c.partition_point-to.ensures.bound below upto in
    let ordered = all.0 in
    search rules

pub returns : goal.returns
returns c =
    let entries = c.as_slice-entries.result.now in
    let label = c.args.label in
    let sorted = subst (IsNonDecreasingBy (λ (e : Entry). e.label)) (sym c.as_slice-entries.ensures.value) c.self.invariant in
    let below = IsPartitionPoint-from_clause (λ (e : Entry). nat_lt e.label label) entries c.partition_point-from.result c.partition_point-from.ensures.partitioned
    (IsPartitionedBy-ltb (λ (e : Entry). e.label) entries label sorted) (λ a r f' k. search rules) in
    let upto = IsPartitionPoint-from_clause (λ (e : Entry). nat_le e.label label) entries c.partition_point-to.result c.partition_point-to.ensures.partitioned
    (IsPartitionedBy-leb (λ (e : Entry). e.label) entries label sorted) (λ a r f' k. search rules) in
    let all = under_label entries label c.partition_point-from.result c.partition_point-to.result c.partition_point-from.ensures.bound c.partition_point-to.ensures.bound below upto in
    subst (λ (l : List Entry). AreUnder l label (take (c.partition_point-to.result - c.partition_point-from.result) (drop c.partition_point-from.result entries)))
    (c.as_slice-entries.ensures.value ∙ c.self.view_is) all.1
