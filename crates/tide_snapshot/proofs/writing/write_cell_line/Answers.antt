-- The line is that of what the cell holds, if it holds something.
use Rattle.std.proofs.Common.{◌<◌, length, Option, subst, sym}
use Rattle.std.specs.Prelude.{All, OnErr, OnOk}
use Rattle.std.proofs.KnownBytes.{Appends-nil}
use Rattle.std.specs.Io.KnownBytes.{Appends}
use Rattle.tide_io.specs.Faults.{AppendsPart}
use Rattle.tide_retained.specs.declared.contents.Held.{Held}
use Rattle.tide_retained.specs.Contents.{properties_in}
use Rattle.tide_snapshot.specs.Written.{line_from}
use Rattle.tide_snapshot.proofs.writing.write_cell_line.Goals as goal

pub write_line-requires : goal.write_line-requires
write_line-requires g c =
    record { keys = subst (λ (o : Option Held). All (λ property. property.key < length c.args.names.now) (properties_in o)) c.in-Some.ensures.some (c.requires.keys c.args.cell) }

pub returns-in-Some-clause-whole : goal.returns-in-Some-clause-whole
returns-in-Some-clause-whole g c =
    subst (λ (o : Option Held). OnOk c.write_line.result (Appends (g.K.Sink.held c.args.out.now) (g.K.Sink.held c.write_line.new.out) (line_from c.args.names.now c.args.retained.now c.args.cell o)))
    (sym c.in-Some.ensures.some) c.write_line.ensures.whole

pub returns-in-Some-clause-part : goal.returns-in-Some-clause-part
returns-in-Some-clause-part g c =
    subst (λ (o : Option Held). OnErr c.write_line.result (AppendsPart (g.K.Sink.held c.args.out.now) (g.K.Sink.held c.write_line.new.out) (line_from c.args.names.now c.args.retained.now c.args.cell o)))
    (sym c.in-Some.ensures.some) c.write_line.ensures.part

pub returns-in-None-clause-whole : goal.returns-in-None-clause-whole
returns-in-None-clause-whole g c =
    subst (λ (o : Option Held). Appends (g.K.Sink.held c.args.out.now) (g.K.Sink.held c.args.out.now) (line_from c.args.names.now c.args.retained.now c.args.cell o))
    (sym c.in-None.ensures.none) (Appends-nil (g.K.Sink.held c.args.out.now))
