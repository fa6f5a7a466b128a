-- One more was written; where its write fails, a part of them all was.
use Rattle.std.proofs.Common.{arith}
use Rattle.tide_io.proofs.ChainLaws.{OnErr-from}
use Rattle.tide_snapshot.specs.Line.{pair_piece}
use Rattle.tide_snapshot.proofs.PieceLaws.{piece_failed, piece_written}
use Rattle.tide_snapshot.proofs.writing.write_pairs.Goals as goal

pub returns-in_err-write_pair-clause-part : goal.returns-in_err-write_pair-clause-part
returns-in_err-write_pair-clause-part g c =
    OnErr-from c.from_residual.result
    (piece_failed pair_piece c.args.pairs.now c.loop-pair.pair-index _ _ _ _ c.loop-pair-test.true
    c.loop-pair.invariant.written c.in_err-write_pair.ensures.part)

pub loop-pair-preserved : goal.loop-pair-preserved
loop-pair-preserved g c = record {
  written = piece_written pair_piece c.args.pairs.now c.loop-pair.pair-index _ _ _ _ c.loop-pair-test.true
      c.loop-pair.invariant.written c.in_ok-write_pair.ensures.whole;
  later = omega (arith, c.in_ok-write_pair.ensures.cause.later);
}
