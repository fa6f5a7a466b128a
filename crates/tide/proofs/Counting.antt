-- What is counted of the lines of some cycles are the numbers of those cycles.
use Rattle.std.proofs.Common.{ℕ, ◌≡◌, ◌+◌, refl, sym, ◌∙◌, ap, subst, arith, List, [], ◌∷◌, ◌++◌, length, append_assoc, append-nil}
use Rattle.std.proofs.lemmas.List.{length-append, length-drop, length-take-le}
use Rattle.std.proofs.lemmas.List.Elements.{All-head, All-tail}
use Rattle.std.specs.Prelude.{◌≤◌, ◌*◌, All, drop, map, min, take}
use Rattle.tide.specs.Counted.{Counts, HasCounted, kept_after, with_line, with_lines, with_part}
use Rattle.tide.specs.declared.stats.Tally.{Tally}
use Rattle.tide_server.proofs.tide_heap.tide_core.tide_layout.ClassWidths.{count_where-le}
use Rattle.tide_server.specs.tide_heap.tide_freeze.Books.{AddsEnds}
use Rattle.tide_server.specs.tide_heap.tide_core.tide_block.Places.{first_cell_of}
use Rattle.tide_server.specs.tide_model.Layout.{Layout, blocks_of}
use Rattle.tide_server.specs.tide_model.State.{State, is_live}
use Rattle.tide_server.specs.tide_model.declared.entry.Event.{Event}
use Rattle.tide_server.specs.tide_report.Ends.{CycleEnd, all_freed, end_of, ends_in}
use Rattle.tide_server.specs.tide_report.Reports.{LiesWithin, Reported}
use Rattle.tide_server.specs.tide_report.declared.report.CycleLine.{CycleLine}
use Rattle.tide_server.specs.tide_table.Census.{live_in}
use Rattle.tide_server.specs.tide_table.tide_statistics.Sums.{most}

-- one line more
pub with_lines-push : (tally : Tally) (lines : List CycleLine) (line : CycleLine) →
    with_lines tally (lines ++ line ∷ []) ≡ with_line (with_lines tally lines) line
with_lines-push tally [] line = refl
with_lines-push tally (first ∷ lines) line = with_lines-push (with_line tally first) lines line

freed-push : (ended : List CycleEnd) (one : CycleEnd) →
    length (all_freed (ended ++ one ∷ [])) ≡ length (all_freed ended) + length one.freed
freed-push [] one =
    let zero : 0 + length one.freed ≡ length one.freed = omega arith in
    ap length (append-nil one.freed) ∙ sym zero
freed-push (first ∷ ended) one =
    let rest = freed-push ended one in
    let left = length-append first.freed (all_freed (ended ++ one ∷ [])) in
    let right = length-append first.freed (all_freed ended) in
    omega (arith, rest, left, right)

kept-push : (kept : ℕ) (ended : List CycleEnd) (one : CycleEnd) → kept_after kept (ended ++ one ∷ []) ≡ one.kept
kept-push kept [] one = refl
kept-push kept (first ∷ ended) one = kept-push first.kept ended one

-- a number that is cut off, and then more is added and it is cut off again
cut_again : (n k : ℕ) → min (min n most + k) most ≡ min (n + k) most
cut_again n k = omega arith

counts_one : (tally : Tally) (parts : ℕ) (ended : List CycleEnd) (ids : List ℕ) (line : CycleLine) →
    Counts tally parts ended → LiesWithin ids line → Counts (with_line tally line) parts (ended ++ end_of ids line ∷ [])
counts_one tally parts ended ids line counts within = record {
  parts = counts.parts;
  freed = ap (λ (n : ℕ). min (n + line.freed) most) counts.freed ∙ cut_again (length (all_freed ended)) line.freed
      ∙ ap (λ (n : ℕ). min (length (all_freed ended) + n) most) (sym whole)
      ∙ ap (λ (n : ℕ). min n most) (sym (freed-push ended (end_of ids line)));
  kept = sym (kept-push 0 ended (end_of ids line));
}
  where
    whole : length (take line.freed (drop line.first ids)) ≡ line.freed
    whole = length-take-le line.freed (drop line.first ids)
        (let left = length-drop line.first ids in let inside = within in omega (arith, left, inside))

counts_more : (tally : Tally) (parts : ℕ) (ended : List CycleEnd) (ids : List ℕ) (lines : List CycleLine) →
    Counts tally parts ended → All (LiesWithin ids) lines →
    Counts (with_lines tally lines) parts (ended ++ map (end_of ids) lines)
counts_more tally parts ended ids [] counts within = subst (Counts tally parts) (sym (append-nil ended)) counts
counts_more tally parts ended ids (line ∷ lines) counts within =
    subst (Counts (with_lines (with_line tally line) lines) parts)
    (append_assoc ended (end_of ids line ∷ []) (map (end_of ids) lines))
    (counts_more (with_line tally line) parts (ended ++ end_of ids line ∷ []) ids lines
    (counts_one tally parts ended ids line counts (All-head (LiesWithin ids) line lines within))
    (All-tail (LiesWithin ids) line lines within))

counts_part : (tally : Tally) (parts : ℕ) (ended : List CycleEnd) → Counts tally parts ended →
    Counts (with_part tally) (parts + 1) ended
counts_part tally parts ended counts = record {
  parts = ap (λ (n : ℕ). min (n + 1) most) counts.parts ∙ cut_again parts 1;
  freed = counts.freed;
  kept = counts.kept;
}

-- What is counted behind a turn are one part more and the cycles that ended by then, where the report was empty before it.
module _ (layout : Layout) (first before after : List Event) (from to : ℕ) (report longer : Reported) (tally : Tally)
    (empty : report.cycles ≡ []) (adds : AddsEnds layout before after report longer)
    (counted : HasCounted layout first before from to tally) where
  all_lines : longer.cycles ≡ adds.lines
  all_lines = adds.added ∙ ap (λ (lines : List CycleLine). lines ++ adds.lines) empty

  pub counts_turn : HasCounted layout first after from (to + 1) (with_lines (with_part tally) longer.cycles)
  counts_turn = record {
    parts = counted.parts + 1;
    went_on = (let so_far = counted.went_on in omega (arith, so_far));
    ended = counted.ended ++ adds.ended;
    came = adds.came ∙ ap (λ (ends : List CycleEnd). ends ++ adds.ended) counted.came
        ∙ append_assoc (ends_in layout first) counted.ended adds.ended;
    counts = subst (λ (lines : List CycleLine).
        Counts (with_lines (with_part tally) lines) (counted.parts + 1) (counted.ended ++ adds.ended)) (sym all_lines)
        (subst (λ (more : List CycleEnd).
        Counts (with_lines (with_part tally) adds.lines) (counted.parts + 1) (counted.ended ++ more)) adds.told
        (counts_more (with_part tally) (counted.parts + 1) counted.ended longer.ids adds.lines
        (counts_part tally counted.parts counted.ended counted.counts) adds.within));
  }

-- what was counted since the first part of a history in which no cycle had ended are all parts and all cycles
module _ (layout : Layout) (first seen : List Event) (from parts : ℕ) (tally : Tally)
    (fresh : ends_in layout first ≡ []) (one : from ≡ 1) where
  pub counts_all : HasCounted layout first seen from (parts + 1) tally → Counts tally parts (ends_in layout seen)
  counts_all counted = subst (λ (n : ℕ). Counts tally n (ends_in layout seen)) count
      (subst (Counts tally counted.parts) (sym (counted.came ∙ ap (λ (ends : List CycleEnd). ends ++ counted.ended) fresh))
      counted.counts)
    where
      count : counted.parts ≡ parts
      count = let went_on = counted.went_on in omega (arith, went_on, one)

-- no more cells of a class live than it has
pub few_live : (layout : Layout) (state : State) (class : ℕ) → live_in layout state class ≤ 64 * blocks_of layout class
few_live layout state class = count_where-le
    (λ at. is_live (state.cells (first_cell_of layout class + at)).status) (64 * blocks_of layout class)
