-- One line more is counted.
use Rattle.std.proofs.Common.{ℕ, ◌+◌, ◌∙◌, ap, sym, take}
use Rattle.std.proofs.lemmas.List.{take_more}
use Rattle.std.specs.Prelude.{min, slice_index_or}
use Rattle.tide.proofs.Counting.{with_lines-push}
use Rattle.tide.specs.Counted.{with_line, with_lines}
use Rattle.tide.specs.declared.stats.Tally.{Tally}
use Rattle.tide_server.specs.tide_report.declared.report.CycleLine.{CycleLine}
use Rattle.tide_server.specs.tide_table.tide_statistics.Sums.{most}
use Rattle.tide.proofs.stats.Tally.add.Goals as goal

pub loop-line-preserved : goal.loop-line-preserved
loop-line-preserved c =
    let items = c.cycles-line-items.result.now in
    let at = c.loop-line.line-index in
    let none : CycleLine = record { number = 0; kept = 0; first = 0; freed = 0 } in
    let line = slice_index_or items at none in
    let so_far = c.loop-line.self in
    let before = c.args.self.now in
    let begun : Tally = record {
      parts = c.saturating_add-self.result;
      freed = before.freed;
      kept = before.kept;
    } in
    let freed_more = c.saturating_add-self-in-loop-line.ensures
    ∙ ap (λ (n : ℕ). min (so_far.freed + n) most) c.from.ensures in
    (λ i. record { parts = so_far.parts; freed = freed_more i; kept = line.kept })
    ∙ ap (λ (s : Tally). with_line s line) c.loop-line.invariant
    ∙ sym (with_lines-push begun (take at items) line)
    ∙ ap (with_lines begun) (sym (take_more items at none c.loop-line-test.true))
