use Rattle.std.proofs.Common.{rules, ℕ}
use Rattle.std.specs.Prelude.{◌==◌, not}
use Rattle.tide_model.proofs.Retaining.{filter_in_turns}
use Rattle.tide_call.proofs.claims.Claims.release.Goals as goal

pub returns : goal.returns
returns c =
    rw (← c.self.view_is)
    (filter_in_turns _ (λ (claimed : ℕ). not (claimed == c.args.cell)) _ (λ x b t y h. search rules) _ _ c.retain.ensures.filtered)
