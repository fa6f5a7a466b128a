-- A release is refused unless the caller's claims have the cell.
use Rattle.std.proofs.Common.{ℕ, ◌≡◌, refl, sym, ◌∙◌, ap, Bool, true, false, List}
use Rattle.std.specs.Prelude.{not}
use Rattle.tide_model.specs.declared.op.Refusal.TheVariants.{NotHeld}
use Rattle.tide_model.specs.declared.val.Val.{Val}
use Rattle.tide_model.specs.declared.val.Val.TheVariants.{Cell}
use Rattle.tide_model.specs.Numbers.{is_among}
use Rattle.tide_model.specs.Refused.{holds, refusal_at, refuse_if}
use Rattle.tide_model.specs.State.{State}
use Rattle.tide_call.proofs.planner.Planner.plan_release.Goals as goal

-- what refuses it where the register has a cell, by the answer whether that is among the claims
by_claims : (state : State) (who register cell : ℕ) (own claims : List ℕ) (answer held : Bool) →
    state.registers who register ≡ Cell cell → state.claims who ≡ own → claims ≡ own → answer ≡ is_among claims cell →
    answer ≡ held →
    refusal_at (state.registers who register) register (λ at. refuse_if (not (holds state who at)) NotHeld)
    ≡ refuse_if (not held) NotHeld
by_claims state who register cell own claims answer held source are same is known =
    ap (λ (value : Val). refusal_at value register (λ at. refuse_if (not (holds state who at)) NotHeld)) source
    ∙ ap (λ (all : List ℕ). refuse_if (not (is_among all cell)) NotHeld) (are ∙ sym same)
    ∙ ap (λ (has : Bool). refuse_if (not has) NotHeld) (sym is ∙ known)

pub returns-in-Ok-clause-action : goal.returns-in-Ok-clause-action
returns-in-Ok-clause-action g c = λ heap state calls.
    let source = c.in-Ok.ensures.cell heap state calls in (
      by_claims state c.args.self.now.who c.args.src c.in-Ok.cell c.args.self.now.claims c.claims.result.now c.contains.result true
          source calls.is_caller.claims c.claims.ensures c.contains.ensures c.if-contains.true,
      (c.in-Ok.cell, source, refl),
    )

pub returns-in-Ok-clause-owns : goal.returns-in-Ok-clause-owns
returns-in-Ok-clause-owns g c = c.cell_in.ensures.owns

pub returns-in-Ok-2-clause-action : goal.returns-in-Ok-2-clause-action
returns-in-Ok-2-clause-action g c = λ heap state calls.
    by_claims state c.args.self.now.who c.args.src c.in-Ok.cell c.args.self.now.claims c.claims.result.now c.contains.result false
    (c.in-Ok.ensures.cell heap state calls) calls.is_caller.claims c.claims.ensures c.contains.ensures c.if-contains.false

pub returns-in-Ok-2-clause-owns : goal.returns-in-Ok-2-clause-owns
returns-in-Ok-2-clause-owns g c = c.cell_in.ensures.owns

pub returns-in-Err-clause-action : goal.returns-in-Err-clause-action
returns-in-Err-clause-action g c = λ heap state calls.
    c.in-Err.ensures.refused heap state calls (λ at. refuse_if (not (holds state c.args.self.now.who at)) NotHeld)

pub returns-in-Err-clause-owns : goal.returns-in-Err-clause-owns
returns-in-Err-clause-owns g c = c.cell_in.ensures.owns
