-- What the span of a cycle holds, and how it grows.
use Rattle.std.proofs.Common.{ℕ, suc, ◌≡◌, ◌≤◌, sym, ◌∙◌, ap, subst, arith, false, List, [], ◌∷◌, ◌++◌, length, take, length-append}
use Rattle.std.specs.Prelude.{if◌then◌else◌}
use Rattle.tide_model.specs.declared.entry.Event.{Event}
use Rattle.tide_model.specs.Layout.{Layout}
use Rattle.tide_model.specs.Graph.{IsRoot, IsLink, IsTriple, AreGroupMates, graph_of, IsWithin}
use Rattle.tide_model.specs.History.{state_after, is_begin, moment_after_last}
use Rattle.tide_model.specs.Cycle.{span_of, cycle_span}
use Rattle.tide_model.proofs.Cycles.{graph_in_span}
use Rattle.tide_model.proofs.Histories.{take-append-short, moment_after_last-le, moment_after_last-push}

-- what stands now stands in the span of the cycle
pub graph_in_cycle_span : (layout : Layout) (history : List Event) → IsWithin (graph_of (state_after layout history)) (cycle_span layout history)
graph_in_cycle_span layout history =
    let begins = λ (event : Event). is_begin event.entry in
    graph_in_span layout history (moment_after_last begins history) (moment_after_last-le begins history)

-- a span from the same moment to a later one holds no less, whatever comes behind the history
pub span_of-later : (layout : Layout) (history more : List Event) (from to later : ℕ) → to ≤ length history → to ≤ later →
    IsWithin (span_of layout history from to) (span_of layout (history ++ more) from later)
span_of-later layout history more from to later within after = record {
  roots = λ cell root. (root.0, root.1, sooner root.0 root.2, subst (λ (h : List Event). IsRoot (state_after layout h) cell) (same root.0 root.2) root.3);
  links = λ source cell link. (link.0, link.1, sooner link.0 link.2, subst (λ (h : List Event). IsLink (state_after layout h) source cell) (same link.0 link.2) link.3);
  triples = λ table key cell triple.
      (triple.0, triple.1, sooner triple.0 triple.2, subst (λ (h : List Event). IsTriple (state_after layout h) table key cell) (same triple.0 triple.2) triple.3);
  group_mates = λ one other group_mate. (group_mate.0, group_mate.1, sooner group_mate.0 group_mate.2, subst (λ (h : List Event). AreGroupMates (state_after layout h) one other) (same group_mate.0 group_mate.2) group_mate.3);
}
  where
    sooner : (moment : ℕ) → moment ≤ to → moment ≤ later
    sooner moment early = omega arith

    same : (moment : ℕ) → moment ≤ to → take moment history ≡ take moment (history ++ more)
    same moment early = sym (take-append-short history more moment (omega arith))

-- an event that begins no cycle adds to the span, and takes nothing from it
pub cycle_span-push : (layout : Layout) (history : List Event) (event : Event) → is_begin event.entry ≡ false →
    IsWithin (cycle_span layout history) (cycle_span layout (history ++ event ∷ []))
cycle_span-push layout history event goes_on =
    let begins = λ (e : Event). is_begin e.entry in
    let from : moment_after_last begins history ≡ moment_after_last begins (history ++ event ∷ []) =
    sym (moment_after_last-push begins history event ∙ ap (λ b. if b then suc (length history) else moment_after_last begins history) goes_on) in
    let longer = length-append history (event ∷ []) in
    subst (λ (m : ℕ). IsWithin (cycle_span layout history) (span_of layout (history ++ event ∷ []) m (length (history ++ event ∷ [])))) from
    (span_of-later layout history (event ∷ []) (moment_after_last begins history) (length history) (length (history ++ event ∷ [])) (omega arith) (omega (arith, longer)))
