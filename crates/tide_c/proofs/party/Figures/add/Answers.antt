-- One more cycle is counted.
use Rattle.tide.specs.tide_report.declared.report.CycleLine.{CycleLine}
use Rattle.tide_c.proofs.Counting.{counts_line}
use Rattle.tide_c.proofs.party.Figures.add.Goals as goal

abbrev none : CycleLine
none = record { number = 0; kept = 0; first = 0; freed = 0 }

pub loop-line-preserved : goal.loop-line-preserved
loop-line-preserved c =
    counts_line c.args.report.now c.cycles-line-items.result.now c.loop-line.line-index none c.from.result c.from-self.result
    c.args.self.now c.loop-line.self c.loop-line-test.true c.from.ensures c.from-self.ensures c.loop-line.invariant
