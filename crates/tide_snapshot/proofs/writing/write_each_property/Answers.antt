-- One more was written; where its write fails, a part of them all was.
use Rattle.std.proofs.Common.{arith}
use Rattle.tide_io.proofs.ChainLaws.{OnErr-from}
use Rattle.tide_snapshot.specs.Line.{property_piece}
use Rattle.tide_snapshot.proofs.PieceLaws.{piece_failed, piece_written}
use Rattle.tide_snapshot.proofs.writing.write_each_property.Goals as goal

pub returns-in_err-write_property-clause-part : goal.returns-in_err-write_property-clause-part
returns-in_err-write_property-clause-part g c =
    OnErr-from c.from_residual.result
    (piece_failed (property_piece c.args.names.now) c.args.properties.now c.loop-property.property-index _ _ _ _ c.loop-property-test.true
    c.loop-property.invariant.written c.in_err-write_property.ensures.part)

pub loop-property-preserved : goal.loop-property-preserved
loop-property-preserved g c = record {
  written = piece_written (property_piece c.args.names.now) c.args.properties.now c.loop-property.property-index _ _ _ _ c.loop-property-test.true
      c.loop-property.invariant.written c.in_ok-write_property.ensures.whole;
  later = omega (arith, c.in_ok-write_property.ensures.cause.later);
}
