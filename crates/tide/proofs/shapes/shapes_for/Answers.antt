-- The sizes come first, and then the paths.
use Rattle.std.proofs.Common.{◌∙◌, sym}
use Rattle.tide.proofs.Refusals.{no_refusal, one_refusal, path_refused, size_refused}
use Rattle.tide.specs.Sizes.{refusal_of}
use Rattle.tide.proofs.shapes.shapes_for.Goals as goal

pub returns-in-Some-clause-refused : goal.returns-in-Some-clause-refused
returns-in-Some-clause-refused c = λ why is.
    let sizes = c.args.sizes.now in
    let paths = c.args.paths.now in
    one_refusal (refusal_of sizes paths) c.in-Some.refused why
    (size_refused sizes paths c.in-Some.refused (sym c.in-Some.ensures.first)) is

pub returns-in-Some-clause-made : goal.returns-in-Some-clause-made
returns-in-Some-clause-made c = λ none.
    let sizes = c.args.sizes.now in
    let paths = c.args.paths.now in
    no_refusal (refusal_of sizes paths) c.in-Some.refused none
    (size_refused sizes paths c.in-Some.refused (sym c.in-Some.ensures.first))

pub returns-clause-refused : goal.returns-clause-refused
returns-clause-refused c = λ why is. c.shapes_of.ensures.refused why
    (sym (path_refused c.args.sizes.now c.args.paths.now (sym c.in_default.ensures.first)) ∙ is)

pub returns-clause-made : goal.returns-clause-made
returns-clause-made c = λ none. c.shapes_of.ensures.made
    (sym (path_refused c.args.sizes.now c.args.paths.now (sym c.in_default.ensures.first)) ∙ none)
