use Rattle.std.proofs.Common.{◌∙◌, ap, arith, length, List, [], ◌∷◌, ◌++◌, ℕ}
use Rattle.std.proofs.lemmas.Option.{get_or_from_slice_get}
use Rattle.tide_model.specs.Refused.{ShapeLists}
use Rattle.tide_model.specs.State.{State}
use Rattle.tide_shape.specs.ShapeTable.{keys_of}
use Rattle.tide_plain.specs.stored.Contents.{state_of}
use Rattle.tide_plain.specs.stored.Properties.{with_array, with_property}
use Rattle.tide_plain.proofs.stored_laws.AdditionLaws.{keys_between, with_property-array}
use Rattle.tide_plain.proofs.stored.contents.Contents.add_property.Goals as goal

pub append-requires-clause-room : goal.append-requires-clause-room
append-requires-clause-room c =
    let same = ap length (keys_between c.args.self.now c.make_room.new.self c.args.cell c.in_ok-took.took c.in_ok-took.ensures.leaves.state) in
    omega (arith, same, c.in-Some.ensures.fewer)

pub returns-clause-leaves : goal.returns-clause-leaves
returns-clause-leaves c =
    let now = c.args.self.now in
    let between = c.make_room.new.self in
    let left = c.in_ok-took.ensures.leaves in
    record {
      state = c.append.ensures.state
          ∙ ap (λ (s : State). with_property s c.args.cell (keys_of between.shapes c.in-Some.shape) c.args.value) left.state
          ∙ ap (λ (keys : List ℕ). with_property (with_array (state_of now) c.args.cell c.in_ok-took.took) c.args.cell keys c.args.value)
          (ap (λ (shapes : ShapeLists). keys_of shapes c.in-Some.shape) left.shapes
          ∙ get_or_from_slice_get now.shapes c.in-Some.shape (((state_of now).cells c.args.cell).keys ++ c.args.key ∷ []) [] c.in-Some.ensures.next)
          ∙ with_property-array (state_of now) c.args.cell c.args.key c.args.value c.in_ok-took.took;
      layout = c.append.ensures.layout ∙ left.layout;
      shapes = c.append.ensures.shapes ∙ left.shapes;
    }
