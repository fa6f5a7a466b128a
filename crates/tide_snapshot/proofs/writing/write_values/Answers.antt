-- One more was written; where its write fails, a part of them all was.
use Rattle.std.proofs.Common.{arith}
use Rattle.tide_io.proofs.ChainLaws.{OnErr-from}
use Rattle.tide_snapshot.specs.Line.{value_piece}
use Rattle.tide_snapshot.proofs.PieceLaws.{piece_failed, piece_written}
use Rattle.tide_snapshot.proofs.writing.write_values.Goals as goal

pub returns-in_err-write_value-clause-part : goal.returns-in_err-write_value-clause-part
returns-in_err-write_value-clause-part g c =
    OnErr-from c.from_residual.result
    (piece_failed value_piece c.args.values.now c.loop-value.value-index _ _ _ _ c.loop-value-test.true
    c.loop-value.invariant.written c.in_err-write_value.ensures.part)

pub loop-value-preserved : goal.loop-value-preserved
loop-value-preserved g c = record {
  written = piece_written value_piece c.args.values.now c.loop-value.value-index _ _ _ _ c.loop-value-test.true
      c.loop-value.invariant.written c.in_ok-write_value.ensures.whole;
  later = omega (arith, c.in_ok-write_value.ensures.cause.later);
}
