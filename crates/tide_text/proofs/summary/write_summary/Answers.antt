-- The three lines make the summary, and a failed write leaves a part of it.
use Rattle.std.proofs.Common.{◌++◌}
use Rattle.tide_text.specs.lines.Line.{live_line}
use Rattle.tide_text.specs.Summary.{calls_line, replies_line}
use Rattle.tide_io.proofs.ChainLaws.{Appends-then, AppendsPart-then, AppendsPart-grown, OnErr-from, OnErr-then, OnOk-then}
use Rattle.tide_text.proofs.summary.write_summary.Goals as goal

pub returns-in_err-write_calls_line-clause-part : goal.returns-in_err-write_calls_line-clause-part
returns-in_err-write_calls_line-clause-part g c =
    OnErr-from c.from_residual.result
    (AppendsPart-grown _ _ _ (live_line c.args.counts.live)
    (AppendsPart-grown _ _ (calls_line c.args.counts) (replies_line c.args.counts) c.in_err-write_calls_line.ensures.part))

pub returns-in_err-write_replies_line-clause-part : goal.returns-in_err-write_replies_line-clause-part
returns-in_err-write_replies_line-clause-part g c =
    let both = AppendsPart-then _ _ _ (calls_line c.args.counts) (replies_line c.args.counts)
    c.in_ok-write_calls_line.ensures.whole c.in_err-write_replies_line.ensures.part in
    OnErr-from c.from_residual-in_err-write_replies_line.result (AppendsPart-grown _ _ _ (live_line c.args.counts.live) both)

pub returns-clause-whole : goal.returns-clause-whole
returns-clause-whole g c =
    let both = Appends-then _ _ _ (calls_line c.args.counts) (replies_line c.args.counts)
    c.in_ok-write_calls_line.ensures.whole c.in_ok-write_replies_line.ensures.whole in
    OnOk-then _ _ _ (calls_line c.args.counts ++ replies_line c.args.counts) (live_line c.args.counts.live) c.write_live.result both c.write_live.ensures.whole

pub returns-clause-part : goal.returns-clause-part
returns-clause-part g c =
    let both = Appends-then _ _ _ (calls_line c.args.counts) (replies_line c.args.counts)
    c.in_ok-write_calls_line.ensures.whole c.in_ok-write_replies_line.ensures.whole in
    OnErr-then _ _ _ (calls_line c.args.counts ++ replies_line c.args.counts) (live_line c.args.counts.live) c.write_live.result both c.write_live.ensures.part
