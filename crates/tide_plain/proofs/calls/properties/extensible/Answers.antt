use Rattle.std.proofs.Common.{◌≡◌, ◌∙◌, refl, sym, rules, true, false}
use Rattle.std.proofs.lemmas.Result.{err_from_is_err_and}
use Rattle.tide_model.specs.Refused.{has_key, may_add}
use Rattle.tide_plain.specs.stored.Contents.{state_of}
use Rattle.tide_plain.proofs.calls_laws.Additions.{addition_refusals, refusal_of-add}
use Rattle.tide_plain.proofs.calls.properties.extensible.Goals as goal

pub returns-in_err-cell-clause-refused : goal.returns-in_err-cell-clause-refused
returns-in_err-cell-clause-refused c =
    let failed = err_from_is_err_and c.from_residual.result c.from_residual.ensures.1 in
    rw (failed.1, failed.2) (λ val. c.in_err-cell.ensures.refused (addition_refusals c.args.contents.now.shapes (state_of c.args.contents.now) c.args.key))

pub returns-then-is_some-clause-refused : goal.returns-then-is_some-clause-refused
returns-then-is_some-clause-refused c = λ val.
    let contents = c.args.contents.now in
    let cell = c.in_ok-cell.cell in
    let told = c.is_some.ensures ∙ c.place.ensures.known in
    let known : has_key (state_of contents) cell c.args.key ≡ true = sym told ∙ c.if-is_some.true in
    refusal_of-add contents.layout contents.shapes (state_of contents) c.args.who c.args.src c.args.key val cell true (may_add contents.shapes (state_of contents) cell c.args.key) known refl
    (c.in_ok-cell.ensures.granted (addition_refusals contents.shapes (state_of contents) c.args.key))

pub returns-then-not-may_add-clause-refused : goal.returns-then-not-may_add-clause-refused
returns-then-not-may_add-clause-refused c = λ val.
    let contents = c.args.contents.now in
    let cell = c.in_ok-cell.cell in
    let told = c.is_some.ensures ∙ c.place.ensures.known in
    let known : has_key (state_of contents) cell c.args.key ≡ false = sym told ∙ c.if-is_some.false in
    let none : c.may_add.result ≡ false = search rules in
    let new : may_add contents.shapes (state_of contents) cell c.args.key ≡ false = sym c.may_add.ensures ∙ none in
    refusal_of-add contents.layout contents.shapes (state_of contents) c.args.who c.args.src c.args.key val cell false false known new
    (c.in_ok-cell.ensures.granted (addition_refusals contents.shapes (state_of contents) c.args.key))

pub returns-clause-granted : goal.returns-clause-granted
returns-clause-granted c = λ val.
    let contents = c.args.contents.now in
    let cell = c.in_ok-cell.cell in
    let told = c.is_some.ensures ∙ c.place.ensures.known in
    let known : has_key (state_of contents) cell c.args.key ≡ false = sym told ∙ c.if-is_some.false in
    let some : c.may_add.result ≡ true = search rules in
    let new : may_add contents.shapes (state_of contents) cell c.args.key ≡ true = sym c.may_add.ensures ∙ some in
    refusal_of-add contents.layout contents.shapes (state_of contents) c.args.who c.args.src c.args.key val cell false true known new
    (c.in_ok-cell.ensures.granted (addition_refusals contents.shapes (state_of contents) c.args.key))
