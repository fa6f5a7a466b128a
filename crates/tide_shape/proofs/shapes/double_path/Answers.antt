-- No path before names a key twice.
use Rattle.std.proofs.Common.{◌≡◌, length, [], get_or, arith, sym, ◌∙◌, ap, below_more}
use Rattle.std.proofs.lemmas.Option.{slice_get_within, get_or_from_slice_get}
use Rattle.tide_shape.specs.Shapes.{names_twice}
use Rattle.tide_model.proofs.PositionLaws.{position_at, position_nowhere}
use Rattle.tide_shape.proofs.shapes.double_path.Goals as goal

pub returns-then-has_double : goal.returns-then-has_double
returns-then-has_double c =
    let paths = c.args.paths.now in
    let here : get_or paths c.loop-path.path [] ≡ c.path.result.now = get_or_from_slice_get paths c.loop-path.path c.path.result.now [] c.path.ensures in
    sym (position_at names_twice paths c.loop-path.path [] (slice_get_within paths c.loop-path.path c.path.result.now c.path.ensures) c.loop-path.invariant
    (ap names_twice here ∙ sym c.has_double.ensures ∙ c.if-has_double.true))

pub loop-path-preserved : goal.loop-path-preserved
loop-path-preserved c =
    let paths = c.args.paths.now in
    let here : get_or paths c.loop-path.path [] ≡ c.path.result.now = get_or_from_slice_get paths c.loop-path.path c.path.result.now [] c.path.ensures in
    below_more _ _ c.loop-path.invariant (ap names_twice here ∙ sym c.has_double.ensures ∙ c.if-has_double.false)

pub returns : goal.returns
returns c =
    let paths = c.args.paths.now in
    let count : length paths ≡ c.len-path-end.result = sym c.len-path-end.ensures.count in
    sym (position_nowhere names_twice paths [] (λ k within. c.loop-path.invariant k (let past = c.loop-path-test.false in omega (arith, past, count, within))))
