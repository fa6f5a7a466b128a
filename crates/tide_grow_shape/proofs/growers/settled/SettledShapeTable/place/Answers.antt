-- The first place with the key has it, and where there is none the key is none of the shape's.
use Rattle.std.proofs.Common.{ℕ, ◌≡◌, ◌==◌, List, Option, None, Some, sym, subst}
use Rattle.std.specs.Prelude.{position, Contains, IfNone}
use Rattle.tide_shape.specs.ShapeTable.{keys_of}
use Rattle.tide_model.proofs.PositionLaws.{slice_get-position, absent-position}
use Rattle.tide_grow_shape.proofs.growers.settled.SettledShapeTable.place.Goals as goal

pub returns-in_err-place-clause-none : goal.returns-in_err-place-clause-none
returns-in_err-place-clause-none c =
    let keys = keys_of c.args.self.now.numbered c.args.shape in
    let first : None ≡ position (λ other. other == c.args.key) keys =
    subst (λ (xs : List ℕ). None ≡ position (λ other. other == c.args.key) xs) c.keys.ensures c.in_err-place.ensures.first in
    subst (λ (o : Option ℕ). IfNone o (¬ (Contains keys c.args.key))) (sym c.from_residual.ensures) (absent-position keys c.args.key (sym first))

pub returns-clause-there : goal.returns-clause-there
returns-clause-there c =
    let keys = keys_of c.args.self.now.numbered c.args.shape in
    let first : Some c.in_ok-place.place ≡ position (λ other. other == c.args.key) keys =
    subst (λ (xs : List ℕ). Some c.in_ok-place.place ≡ position (λ other. other == c.args.key) xs) c.keys.ensures c.in_ok-place.ensures.first in
    slice_get-position keys c.args.key c.in_ok-place.place (sym first)
