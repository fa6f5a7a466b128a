-- The root, the cells and the end of the line make the text, and a failed write leaves a part of it.
use Rattle.std.proofs.Common.{ℕ, ◌≡◌, ◌+◌, List, ◌∷◌, ◌++◌, length, Option, None, Some, ap, subst, refl, sym, arith, ◌∙◌}
use Rattle.std.specs.Prelude.{codes, option_map, OnErr, OnOk}
use Rattle.std.specs.Io.KnownBytes.{Appends}
use Rattle.tide_io.specs.Faults.{AppendsPart}
use Rattle.std.specs.List.{flat_map}
use Rattle.tide_io.proofs.ChainLaws.{Appends-then, AppendsPart-then, AppendsPart-grown, OnErr-from, OnErr-then, OnOk-then}
use Rattle.tide_retained.specs.declared.retained.Way.{Way}
use Rattle.tide_retained.specs.Retention.{cells_on, path_of, way_on, Path}
use Rattle.tide_snapshot.specs.Line.{cell_piece, root_text}
use Rattle.tide_snapshot.specs.Written.{way_text}
use Rattle.tide_snapshot.proofs.writing.write_found.Goals as goal

some_way : (o : Option Path) (way : Way) → option_map way_on o ≡ Some way → (path : Path) × (o ≡ Some path) × (way_on path ≡ way)
some_way None way at = absurd (cc)
some_way (Some path) way at = (path, refl, (let same : way_on path ≡ way = cc in same))

counted : (o : Option Path) (way : Way) → option_map way_on o ≡ Some way → length (cells_on o) ≡ way.steps + 1
counted o way at =
    let (path, is, on) = some_way o way at in
    let long : length (cells_on o) ≡ length (path.first ∷ path.others) = ap (λ (p : Option Path). length (cells_on p)) is in
    let steps : length path.others ≡ way.steps = ap (λ (w : Way). w.steps) on in
    omega (arith, long, steps)

-- what is written makes the text
text_is : (o : Option Path) (way : Way) → option_map way_on o ≡ Some way → ((codes " path" ++ root_text way.root) ++ flat_map cell_piece (cells_on o)) ++ codes "\n" ≡ way_text o
text_is o way at =
    let (path, is, on) = some_way o way at in
    ap (λ (p : Option Path). ((codes " path" ++ root_text way.root) ++ flat_map cell_piece (cells_on p)) ++ codes "\n") is
    ∙ ap (λ (w : Way). ((codes " path" ++ root_text w.root) ++ flat_map cell_piece (cells_on (Some path))) ++ codes "\n") (sym on)
    ∙ ap way_text (sym is)

pub write_way-requires : goal.write_way-requires
write_way-requires g c = record { counted = counted (path_of c.args.retained.now c.args.cell) c.args.way c.requires.way }

pub returns-in_err-write_root-clause-part : goal.returns-in_err-write_root-clause-part
returns-in_err-write_root-clause-part g c =
    OnErr-from c.from_residual.result
    (subst (AppendsPart _ _) (text_is (path_of c.args.retained.now c.args.cell) c.args.way c.requires.way)
    (AppendsPart-grown _ _ _ (codes "\n") (AppendsPart-grown _ _ _ (flat_map cell_piece (cells_on (path_of c.args.retained.now c.args.cell))) c.in_err-write_root.ensures.part)))

pub returns-in_err-write_way-clause-part : goal.returns-in_err-write_way-clause-part
returns-in_err-write_way-clause-part g c =
    OnErr-from c.from_residual-in_err-write_way.result
    (subst (AppendsPart _ _) (text_is (path_of c.args.retained.now c.args.cell) c.args.way c.requires.way)
    (AppendsPart-grown _ _ _ (codes "\n") (AppendsPart-then _ _ _ _ _ c.in_ok-write_root.ensures.whole c.in_err-write_way.ensures.part)))

pub returns-clause-whole : goal.returns-clause-whole
returns-clause-whole g c =
    subst (λ (text : List ℕ). OnOk c.write_all.result (Appends (g.K.Sink.held c.args.out.now) (g.K.Sink.held c.write_all.new.out) text)) (text_is (path_of c.args.retained.now c.args.cell) c.args.way c.requires.way)
    (OnOk-then _ _ _ _ (codes "\n") c.write_all.result (Appends-then _ _ _ _ _ c.in_ok-write_root.ensures.whole c.in_ok-write_way.ensures.whole) c.write_all.ensures.whole)

pub returns-clause-part : goal.returns-clause-part
returns-clause-part g c =
    subst (λ (text : List ℕ). OnErr c.write_all.result (AppendsPart (g.K.Sink.held c.args.out.now) (g.K.Sink.held c.write_all.new.out) text)) (text_is (path_of c.args.retained.now c.args.cell) c.args.way c.requires.way)
    (OnErr-then _ _ _ _ (codes "\n") c.write_all.result (Appends-then _ _ _ _ _ c.in_ok-write_root.ensures.whole c.in_ok-write_way.ensures.whole) c.write_all.ensures.part)
