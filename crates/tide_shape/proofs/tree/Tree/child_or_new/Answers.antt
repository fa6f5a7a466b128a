-- A child that is found adds no shape, and one that isn't found is added.
use Rattle.std.proofs.Common.{◌≡◌, ◌∷◌, [], ◌++◌, sym, subst}
use Rattle.std.specs.Prelude.{OnOk}
use Rattle.tide_shape.specs.ShapeTable.{keys_of}
use Rattle.tide_shape.proofs.ShapesLaws.{Contains-slice_get, add_known, add_new}
use Rattle.tide_shape.proofs.tree.Tree.child_or_new.Goals as goal

pub returns-in-Some-clause-shapes : goal.returns-in-Some-clause-shapes
returns-in-Some-clause-shapes c =
    let shapes = c.args.self.now in
    let keys = keys_of shapes c.args.shape ++ c.args.key ∷ [] in
    sym (add_known shapes keys (Contains-slice_get shapes c.in-Some.child keys c.in-Some.ensures.added))

pub returns-in-None-clause-shapes : goal.returns-in-None-clause-shapes
returns-in-None-clause-shapes c =
    let shapes = c.args.self.now in
    let keys = keys_of shapes c.args.shape ++ c.args.key ∷ [] in
    subst (λ grown. OnOk c.add_child.result (c.add_child.new.self ≡ grown)) (sym (add_new shapes keys c.in-None.ensures.none)) c.add_child.ensures.shapes
