-- The text and then the lines are what is printed, and a failed write leaves a part of that.
use Rattle.std.proofs.Common.{◌++◌, refl}
use Rattle.std.proofs.KnownBytes.{Appends-kept}
use Rattle.tide_io.proofs.ChainLaws.{Appends-then, AppendsPart-grown, AppendsPart-then, OnErr-from}
use Rattle.tide_run.specs.Asked.{printed_with, statistics_of}
use Rattle.tide_run.proofs.Printed.{OnOk-from, kept_is_part}
use Rattle.tide_run.proofs.printing.print_run.Goals as goal

pub returns-in_err-write_run-clause-part : goal.returns-in_err-write_run-clause-part
returns-in_err-write_run-clause-part g c =
    let (lines, are) = c.has_lines.ensures in
    let text = printed_with c.args.done.now.counts c.args.done.now.outcome in
    let cycles = statistics_of c.args.done.now.stats c.args.done.now.outcome in
    OnErr-from c.from_residual.result (
      text ++ (cycles ++ lines),
      record { lines = lines; are = are; is = refl },
      AppendsPart-grown _ _ text (cycles ++ lines) c.in_err-write_run.ensures.part,
    )

pub returns-in_err-write_told_of-clause-part : goal.returns-in_err-write_told_of-clause-part
returns-in_err-write_told_of-clause-part g c =
    let (lines, are) = c.has_lines.ensures in
    let text = printed_with c.args.done.now.counts c.args.done.now.outcome in
    let cycles = statistics_of c.args.done.now.stats c.args.done.now.outcome in
    OnErr-from c.from_residual-in_err-write_told_of.result (
      text ++ (cycles ++ lines),
      record { lines = lines; are = are; is = refl },
      AppendsPart-then _ _ _ text (cycles ++ lines) c.in_ok-write_run.ensures.whole
          (AppendsPart-grown _ _ cycles lines c.in_err-write_told_of.ensures.part),
    )

pub returns-in_err-write_snapshot-clause-part : goal.returns-in_err-write_snapshot-clause-part
returns-in_err-write_snapshot-clause-part g c =
    let (lines, are, part) = c.in_err-write_snapshot.ensures.part in
    let text = printed_with c.args.done.now.counts c.args.done.now.outcome in
    let cycles = statistics_of c.args.done.now.stats c.args.done.now.outcome in
    OnErr-from c.from_residual-in_err-write_snapshot.result (
      text ++ (cycles ++ lines),
      record { lines = lines; are = are; is = refl },
      AppendsPart-then _ _ _ text (cycles ++ lines) c.in_ok-write_run.ensures.whole
          (AppendsPart-then _ _ _ cycles lines c.in_ok-write_told_of.ensures.whole part),
    )

pub returns-clause-whole : goal.returns-clause-whole
returns-clause-whole g c =
    let (lines, are, whole) = c.in_ok-write_snapshot.ensures.whole in
    let text = printed_with c.args.done.now.counts c.args.done.now.outcome in
    let cycles = statistics_of c.args.done.now.stats c.args.done.now.outcome in
    let behind = Appends-then _ _ _ cycles lines c.in_ok-write_told_of.ensures.whole whole in
    let both = Appends-then _ _ _ text (cycles ++ lines) c.in_ok-write_run.ensures.whole behind in
    OnOk-from c.flush.result (
      text ++ (cycles ++ lines),
      record { lines = lines; are = are; is = refl },
      Appends-kept _ _ _ (text ++ (cycles ++ lines)) both c.flush.ensures.same,
    )

pub returns-clause-part : goal.returns-clause-part
returns-clause-part g c =
    let (lines, are, whole) = c.in_ok-write_snapshot.ensures.whole in
    let text = printed_with c.args.done.now.counts c.args.done.now.outcome in
    let cycles = statistics_of c.args.done.now.stats c.args.done.now.outcome in
    let behind = Appends-then _ _ _ cycles lines c.in_ok-write_told_of.ensures.whole whole in
    let both = Appends-then _ _ _ text (cycles ++ lines) c.in_ok-write_run.ensures.whole behind in
    OnErr-from c.flush.result (
      text ++ (cycles ++ lines),
      record { lines = lines; are = are; is = refl },
      kept_is_part _ _ _ (text ++ (cycles ++ lines)) both c.flush.ensures.same,
    )
