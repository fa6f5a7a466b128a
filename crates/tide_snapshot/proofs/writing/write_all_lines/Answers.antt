-- One more line was written; where its write fails, a part of them all was.
use Rattle.std.proofs.Common.{ℕ, ◌≡◌, ◌<◌, ◌≤◌, List, length, get_or, arith, subst, sym, ◌∙◌, zero-add}
use Rattle.std.specs.List.{flat_map}
use Rattle.std.proofs.lemmas.List.{take_all}
use Rattle.std.proofs.lemmas.List.FromFn.{get_or-range_with_len, length-range_with_len}
use Rattle.std.specs.Io.KnownBytes.{Appends}
use Rattle.tide_io.specs.Faults.{AppendsPart}
use Rattle.tide_io.proofs.ChainLaws.{OnErr-from}
use Rattle.tide_retained.specs.Index.{up_to}
use Rattle.tide_snapshot.specs.Written.{line_at}
use Rattle.tide_snapshot.proofs.PieceLaws.{piece_failed, piece_written}
use Rattle.tide_snapshot.proofs.writing.write_all_lines.Goals as goal

-- the cell whose turn it is
this_cell : (n cell : ℕ) → cell < n → get_or (up_to n) cell 0 ≡ cell
this_cell n cell below = get_or-range_with_len 0 n cell 0 below ∙ zero-add cell

pub returns-in_err-write_cell_line-clause-part : goal.returns-in_err-write_cell_line-clause-part
returns-in_err-write_cell_line-clause-part g c =
    let cells = length c.args.retained.now.contents.cells.items in
    let line = line_at c.args.names.now c.args.retained.now in
    let below : c.loop-cell.cell < cells = (let test = c.loop-cell-test.true in let count = c.cells-cell-end.ensures in omega (arith, test, count)) in
    let within : c.loop-cell.cell < length (up_to cells) = (let counted = length-range_with_len 0 cells in omega (arith, below, counted)) in
    OnErr-from c.from_residual.result
    (piece_failed line (up_to cells) c.loop-cell.cell 0 _ _ _ within c.loop-cell.invariant.written
    (subst (λ (cell : ℕ). AppendsPart (g.K.Sink.held c.loop-cell.out) (g.K.Sink.held c.write_cell_line.new.out) (line cell)) (sym (this_cell cells c.loop-cell.cell below)) c.in_err-write_cell_line.ensures.part))

pub loop-cell-preserved : goal.loop-cell-preserved
loop-cell-preserved g c =
    let cells = length c.args.retained.now.contents.cells.items in
    let line = line_at c.args.names.now c.args.retained.now in
    let below : c.loop-cell.cell < cells = (let test = c.loop-cell-test.true in let count = c.cells-cell-end.ensures in omega (arith, test, count)) in
    let within : c.loop-cell.cell < length (up_to cells) = (let counted = length-range_with_len 0 cells in omega (arith, below, counted)) in
    record {
      written = piece_written line (up_to cells) c.loop-cell.cell 0 _ _ _ within c.loop-cell.invariant.written
          (subst (λ (cell : ℕ). Appends (g.K.Sink.held c.loop-cell.out) (g.K.Sink.held c.write_cell_line.new.out) (line cell)) (sym (this_cell cells c.loop-cell.cell below)) c.in_ok-write_cell_line.ensures.whole);
      later = omega (arith, c.in_ok-write_cell_line.ensures.cause.later);
    }

pub returns-clause-whole : goal.returns-clause-whole
returns-clause-whole g c =
    let cells = length c.args.retained.now.contents.cells.items in
    let all : length (up_to cells) ≤ c.loop-cell.cell =
    (let test = c.loop-cell-test.false in let count = c.cells-cell-end.ensures in let counted = length-range_with_len 0 cells in omega (arith, test, count, counted)) in
    subst (λ (list : List ℕ). Appends (g.K.Sink.held c.args.out.now) (g.K.Sink.held c.loop-cell.out) (flat_map (line_at c.args.names.now c.args.retained.now) list))
    (take_all c.loop-cell.cell (up_to cells) all) c.loop-cell.invariant.written
