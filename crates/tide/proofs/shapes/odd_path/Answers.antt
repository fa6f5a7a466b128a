-- Each path before has keys, and no more than 64.
use Rattle.std.proofs.Common.{◌≡◌, length, [], get_or, arith, sym, ◌∙◌, ap, below_more}
use Rattle.std.proofs.lemmas.Option.{slice_get_within, get_or_from_slice_get}
use Rattle.tide.specs.Sizes.{is_no_path}
use Rattle.tide_server.proofs.tide_model.PositionLaws.{position_at, position_nowhere}
use Rattle.tide.proofs.shapes.odd_path.Goals as goal

pub returns-then-is_no_path-clause-first : goal.returns-then-is_no_path-clause-first
returns-then-is_no_path-clause-first c =
    let paths = c.args.paths.now in
    let here : get_or paths c.loop-path.path [] ≡ c.path.result.now = get_or_from_slice_get paths c.loop-path.path c.path.result.now [] c.path.ensures in
    sym (position_at is_no_path paths c.loop-path.path [] (slice_get_within paths c.loop-path.path c.path.result.now c.path.ensures) c.loop-path.invariant
    (ap is_no_path here ∙ sym c.is_no_path.ensures ∙ c.if-is_no_path.true))

pub loop-path-preserved : goal.loop-path-preserved
loop-path-preserved c =
    let paths = c.args.paths.now in
    let here : get_or paths c.loop-path.path [] ≡ c.path.result.now = get_or_from_slice_get paths c.loop-path.path c.path.result.now [] c.path.ensures in
    below_more _ _ c.loop-path.invariant (ap is_no_path here ∙ sym c.is_no_path.ensures ∙ c.if-is_no_path.false)

pub returns-clause-first : goal.returns-clause-first
returns-clause-first c =
    let paths = c.args.paths.now in
    let count : length paths ≡ c.len-path-end.result = sym c.len-path-end.ensures.count in
    sym (position_nowhere is_no_path paths [] (λ k within. c.loop-path.invariant k (let past = c.loop-path-test.false in omega (arith, past, count, within))))
