-- One more cell was written, and at the end the last; where a write fails, a part of them all was.
use Rattle.std.proofs.Common.{ℕ, ◌≡◌, ◌+◌, ◌<◌, length, arith, subst, sym, ap, ◌∙◌, get_or}
use Rattle.std.specs.Io.KnownBytes.{Appends}
use Rattle.tide_io.specs.Faults.{AppendsPart}
use Rattle.tide_io.proofs.ChainLaws.{OnErr-from}
use Rattle.tide_retained.specs.Retention.{cells_on, path_of}
use Rattle.tide_snapshot.specs.Line.{cell_piece}
use Rattle.tide_snapshot.proofs.PieceLaws.{last_failed, last_written, piece_failed, piece_written}
use Rattle.tide_snapshot.proofs.writing.write_way.Goals as goal

pub cell_on_way-next-requires-clause-within : goal.cell_on_way-next-requires-clause-within
cell_on_way-next-requires-clause-within g c = (let counted = c.requires.counted in let test = c.loop-step-test.true in omega (arith, counted, test))

pub cell_on_way-last-requires-clause-within : goal.cell_on_way-last-requires-clause-within
cell_on_way-last-requires-clause-within g c = (let counted = c.requires.counted in omega (arith, counted))

pub returns-in_err-write_id-clause-part : goal.returns-in_err-write_id-clause-part
returns-in_err-write_id-clause-part g c =
    let cells = cells_on (path_of c.args.retained.now c.args.cell) in
    let within : c.loop-step.step < length cells = (let counted = c.requires.counted in let test = c.loop-step-test.true in omega (arith, counted, test)) in
    OnErr-from c.from_residual.result
    (piece_failed cell_piece cells c.loop-step.step 0 _ _ _ within c.loop-step.invariant.written
    (subst (λ (cell : ℕ). AppendsPart (g.K.Sink.held c.loop-step.out) (g.K.Sink.held c.write_id.new.out) (cell_piece cell)) c.cell_on_way-next.ensures.cell c.in_err-write_id.ensures.part))

pub loop-step-preserved : goal.loop-step-preserved
loop-step-preserved g c =
    let cells = cells_on (path_of c.args.retained.now c.args.cell) in
    let within : c.loop-step.step < length cells = (let counted = c.requires.counted in let test = c.loop-step-test.true in omega (arith, counted, test)) in
    record {
      written = piece_written cell_piece cells c.loop-step.step 0 _ _ _ within c.loop-step.invariant.written
          (subst (λ (cell : ℕ). Appends (g.K.Sink.held c.loop-step.out) (g.K.Sink.held c.write_id.new.out) (cell_piece cell)) c.cell_on_way-next.ensures.cell c.in_ok-write_id.ensures.whole);
      later = omega (arith, c.in_ok-write_id.ensures.cause.later);
      room = c.cell_on_way-next.ensures.same_size ∙ c.loop-step.invariant.room;
      stretch = c.cell_on_way-next.ensures.stretch;
    }

pub returns-clause-whole : goal.returns-clause-whole
returns-clause-whole g c =
    let all : c.loop-step.step ≡ c.args.steps = (let test = c.loop-step-test.false in let most = c.loop-step.auto.step-end in omega (arith, test, most)) in
    last_written cell_piece (cells_on (path_of c.args.retained.now c.args.cell)) c.loop-step.step 0 c.cell_on_way-last.result _ _ _ c.write_id-2.result
    (c.requires.counted ∙ ap (λ (n : ℕ). n + 1) (sym all)) (subst (λ (n : ℕ). c.cell_on_way-last.result ≡ get_or (cells_on (path_of c.args.retained.now c.args.cell)) n 0) (sym all) c.cell_on_way-last.ensures.cell)
    c.loop-step.invariant.written c.write_id-2.ensures.whole

pub returns-clause-part : goal.returns-clause-part
returns-clause-part g c =
    let all : c.loop-step.step ≡ c.args.steps = (let test = c.loop-step-test.false in let most = c.loop-step.auto.step-end in omega (arith, test, most)) in
    last_failed cell_piece (cells_on (path_of c.args.retained.now c.args.cell)) c.loop-step.step 0 c.cell_on_way-last.result _ _ _ c.write_id-2.result
    (c.requires.counted ∙ ap (λ (n : ℕ). n + 1) (sym all)) (subst (λ (n : ℕ). c.cell_on_way-last.result ≡ get_or (cells_on (path_of c.args.retained.now c.args.cell)) n 0) (sym all) c.cell_on_way-last.ensures.cell)
    c.loop-step.invariant.written c.write_id-2.ensures.part
