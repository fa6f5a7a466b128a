-- Paths of which none is odd may be given to the shapes, which tell the first that names a key twice.
use Rattle.std.proofs.Common.{◌∙◌, Err, ap, sym}
use Rattle.tide.proofs.Limits.{all_are_paths}
use Rattle.tide.proofs.Refusals.{double_refused, no_path_refused, no_refusal, one_refusal}
use Rattle.tide.specs.Sizes.{refusal_of_paths}
use Rattle.tide.specs.declared.sizes.Refused.TheVariants.{DoubleKey}
use Rattle.tide.proofs.shapes.shapes_of.Goals as goal

pub new-requires-clause-sized : goal.new-requires-clause-sized
new-requires-clause-sized c = all_are_paths c.args.paths.now (sym c.in_default.ensures.first)

pub returns-in-Ok-clause-refused : goal.returns-in-Ok-clause-refused
returns-in-Ok-clause-refused c = λ why is.
    let paths = c.args.paths.now in
    no_refusal (refusal_of_paths paths) why (no_path_refused paths (sym c.in_default.ensures.first) (λ path double.
    (let clash = sym c.in-Ok.is ∙ (c.new.ensures.double path).1 double in absurd (cc)))) is

pub returns-in-Ok-clause-taken : goal.returns-in-Ok-clause-taken
returns-in-Ok-clause-taken c = no_path_refused c.args.paths.now (sym c.in_default.ensures.first) (λ path double.
    (let clash = sym c.in-Ok.is ∙ (c.new.ensures.double path).1 double in absurd (cc)))

pub returns-in-Err-DoubleKey-clause-refused : goal.returns-in-Err-DoubleKey-clause-refused
returns-in-Err-DoubleKey-clause-refused c = λ why is.
    let paths = c.args.paths.now in
    let path = c.in-Err-DoubleKey.path in
    let double = (c.new.ensures.double path).0 (c.in-Err-DoubleKey.is ∙ ap Err c.in-Err-DoubleKey.field-0-is) in
    one_refusal (refusal_of_paths paths) (DoubleKey path) why
    (double_refused paths (sym c.in_default.ensures.first) path double) is

pub returns-in-Err-DoubleKey-clause-made : goal.returns-in-Err-DoubleKey-clause-made
returns-in-Err-DoubleKey-clause-made c = λ none.
    let paths = c.args.paths.now in
    let path = c.in-Err-DoubleKey.path in
    let double = (c.new.ensures.double path).0 (c.in-Err-DoubleKey.is ∙ ap Err c.in-Err-DoubleKey.field-0-is) in
    no_refusal (refusal_of_paths paths) (DoubleKey path) none
    (double_refused paths (sym c.in_default.ensures.first) path double)

pub returns-in-Err-Memory-clause-refused : goal.returns-in-Err-Memory-clause-refused
returns-in-Err-Memory-clause-refused c = λ why is.
    let paths = c.args.paths.now in
    no_refusal (refusal_of_paths paths) why (no_path_refused paths (sym c.in_default.ensures.first) (λ path double.
    (let clash = sym (c.in-Err-Memory.is ∙ ap Err c.in-Err-Memory.field-0-is) ∙ (c.new.ensures.double path).1 double in
    absurd (cc)))) is
