use Rattle.std.proofs.Common.{◌≡◌, ◌∙◌, sym, ap, true, false, Bool, [], ◌∷◌, ℕ}
use Rattle.std.proofs.lemmas.Result.{err_from_is_err_and}
use Rattle.std.specs.Prelude.{not}
use Rattle.tide_model.specs.declared.op.Refusal.TheVariants.{Absent}
use Rattle.tide_model.specs.Refused.{first_of, has_key, refuse_if}
use Rattle.tide_plain.specs.stored.Contents.{state_of}
use Rattle.tide_plain.proofs.calls.properties.find_property.Goals as goal

pub returns-in_err-cell-clause-refused : goal.returns-in_err-cell-clause-refused
returns-in_err-cell-clause-refused c =
    let failed = err_from_is_err_and c.from_residual.result c.from_residual.ensures.1 in
    rw (failed.1, failed.2) (c.in_err-cell.ensures.refused (λ cell. refuse_if (not (has_key (state_of c.args.contents.now) cell c.args.key)) Absent ∷ []))

pub returns-in-Some-clause-granted : goal.returns-in-Some-clause-granted
returns-in-Some-clause-granted c =
    let contents = c.args.contents.now in
    let cell = c.in_ok-cell.cell in
    let further = λ (at : ℕ). refuse_if (not (has_key (state_of contents) at c.args.key)) Absent ∷ [] in
    let known : has_key (state_of contents) cell c.args.key ≡ true = sym c.in-Some.ensures.known in
    c.in_ok-cell.ensures.granted further ∙ ap (λ (b : Bool). first_of (refuse_if (not b) Absent ∷ [])) known

pub returns-in-None-clause-refused : goal.returns-in-None-clause-refused
returns-in-None-clause-refused c =
    let contents = c.args.contents.now in
    let cell = c.in_ok-cell.cell in
    let further = λ (at : ℕ). refuse_if (not (has_key (state_of contents) at c.args.key)) Absent ∷ [] in
    let known : has_key (state_of contents) cell c.args.key ≡ false = sym c.in-None.ensures.known in
    c.in_ok-cell.ensures.granted further ∙ ap (λ (b : Bool). first_of (refuse_if (not b) Absent ∷ [])) known
