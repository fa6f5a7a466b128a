-- The lines that would be written.
use Rattle.std.proofs.Common.{subst}
use Rattle.tide_retained.specs.declared.contents.Contents.{Contents}
use Rattle.tide_snapshot.specs.Line.{AreLinesIn}
use Rattle.tide_snapshot.specs.Written.{lines_text}
use Rattle.tide_snapshot.proofs.LineLaws.{all_lines_are}
use Rattle.tide_snapshot.proofs.snapshot.Snapshot.has_lines.Goals as goal

pub returns : goal.returns
returns c = λ names.
    let kept = c.self.inside.retained in
    (lines_text names kept, subst (λ (contents : Contents). AreLinesIn contents names (lines_text names kept)) c.self.view_is (all_lines_are kept names c.self.invariant))
