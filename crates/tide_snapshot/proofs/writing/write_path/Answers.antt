-- A cell without a way has no path.
use Rattle.std.proofs.Common.{◌≡◌, Option, None, Some, sym, ◌∙◌, subst, refl}
use Rattle.std.specs.Prelude.{OnErr, OnOk, option_map}
use Rattle.std.specs.Io.KnownBytes.{Appends}
use Rattle.tide_io.specs.Faults.{AppendsPart}
use Rattle.tide_retained.specs.Retention.{path_of, way_on, Path}
use Rattle.tide_snapshot.specs.Written.{way_text}
use Rattle.tide_snapshot.proofs.writing.write_path.Goals as goal

no_path : (o : Option Path) → None ≡ option_map way_on o → None ≡ o
no_path None none = refl
no_path (Some path) none = absurd (cc)

pub write_found-requires : goal.write_found-requires
write_found-requires g c = record { way = sym c.way.ensures ∙ c.in-Some.is }

pub returns-in-None-clause-whole : goal.returns-in-None-clause-whole
returns-in-None-clause-whole g c =
    subst (λ (o : Option Path). OnOk c.write_all.result (Appends (g.K.Sink.held c.args.out.now) (g.K.Sink.held c.write_all.new.out) (way_text o)))
    (no_path (path_of c.args.retained.now c.args.cell) (sym c.in-None.is ∙ c.way.ensures)) c.write_all.ensures.whole

pub returns-in-None-clause-part : goal.returns-in-None-clause-part
returns-in-None-clause-part g c =
    subst (λ (o : Option Path). OnErr c.write_all.result (AppendsPart (g.K.Sink.held c.args.out.now) (g.K.Sink.held c.write_all.new.out) (way_text o)))
    (no_path (path_of c.args.retained.now c.args.cell) (sym c.in-None.is ∙ c.way.ensures)) c.write_all.ensures.part
