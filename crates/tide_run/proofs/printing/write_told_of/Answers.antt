-- The lines are those of the run's cycles, where they are wanted.
use Rattle.std.proofs.Common.{◌∙◌, ℕ, Bool, List, ap, subst, sym}
use Rattle.std.proofs.KnownBytes.{Appends-nil}
use Rattle.std.specs.List.{flat_map}
use Rattle.std.specs.Prelude.{OnErr, OnOk}
use Rattle.std.specs.Io.KnownBytes.{Appends}
use Rattle.tide_io.specs.Faults.{AppendsPart}
use Rattle.tide_run.specs.Asked.{statistics_of, told_line}
use Rattle.tide_run.proofs.printing.write_told_of.Goals as goal

pub returns-then-done : goal.returns-then-done
returns-then-done g c =
    let done = c.args.done.now in
    let old = g.K.Sink.held c.args.out.now in
    let new = g.K.Sink.held c.write_told.new.out in
    let lines = ap (flat_map told_line) (c.statistics.ensures (done.on_heap c.if-done.true))
    ∙ ap (λ (b : Bool). statistics_of b done.outcome) (sym c.if-done.true) in
    let wrote = c.write_told.ensures in record {
      whole = subst (λ (l : List ℕ). OnOk c.write_told.result (Appends old new l)) lines wrote.whole;
      part = subst (λ (l : List ℕ). OnErr c.write_told.result (AppendsPart old new l)) lines wrote.part;
      cause = wrote.cause;
    }

pub returns-else-done-clause-whole : goal.returns-else-done-clause-whole
returns-else-done-clause-whole g c =
    subst (λ (b : Bool). Appends (g.K.Sink.held c.args.out.now) (g.K.Sink.held c.args.out.now) (statistics_of b c.args.done.now.outcome))
    (sym c.if-done.false) (Appends-nil (g.K.Sink.held c.args.out.now))
