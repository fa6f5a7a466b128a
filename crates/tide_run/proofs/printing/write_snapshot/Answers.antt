-- The lines are those of the snapshot, if there is one.
use Rattle.std.proofs.Common.{ℕ, List, [], Option, refl, sym, subst}
use Rattle.std.proofs.KnownBytes.{Appends-nil}
use Rattle.std.specs.Prelude.{IfSome, OnErr, OnOk}
use Rattle.std.specs.Io.KnownBytes.{Appends}
use Rattle.tide_io.specs.Faults.{AppendsPart}
use Rattle.tide_retained.specs.declared.contents.Contents.{Contents}
use Rattle.tide_retained.specs.Contents.{HasKeysOf}
use Rattle.tide_shape.specs.Shapes.{shapes_of_paths}
use Rattle.tide_run.specs.Printing.{AreShownLines}
use Rattle.tide_run.proofs.printing.write_snapshot.Goals as goal

pub write_lines-requires : goal.write_lines-requires
write_lines-requires g c = record { shapes = subst (λ (o : Option Contents). IfSome o (HasKeysOf (shapes_of_paths c.args.done.now.load.paths))) c.in-Some.is c.requires.shapes }

pub returns-in-Some-clause-whole : goal.returns-in-Some-clause-whole
returns-in-Some-clause-whole g c =
    subst (λ (o : Option Contents). OnOk c.write_lines.result ((lines : List ℕ) × AreShownLines c.args.done.now.load.keys o lines
    × Appends (g.K.Sink.held c.args.out.now) (g.K.Sink.held c.write_lines.new.out) lines)) (sym c.in-Some.is) c.write_lines.ensures.whole

pub returns-in-Some-clause-part : goal.returns-in-Some-clause-part
returns-in-Some-clause-part g c =
    subst (λ (o : Option Contents). OnErr c.write_lines.result ((lines : List ℕ) × AreShownLines c.args.done.now.load.keys o lines
    × AppendsPart (g.K.Sink.held c.args.out.now) (g.K.Sink.held c.write_lines.new.out) lines)) (sym c.in-Some.is) c.write_lines.ensures.part

pub returns-in-None-clause-whole : goal.returns-in-None-clause-whole
returns-in-None-clause-whole g c =
    subst (λ (o : Option Contents). (lines : List ℕ) × AreShownLines c.args.done.now.load.keys o lines
    × Appends (g.K.Sink.held c.args.out.now) (g.K.Sink.held c.args.out.now) lines) (sym c.in-None.is) ([], refl, Appends-nil (g.K.Sink.held c.args.out.now))
