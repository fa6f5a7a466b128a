-- What a call leaves of its mutator's claims.
use Rattle.std.specs.Prelude.{ℕ, ◌==◌, not, List, [], ◌∷◌, ◌++◌, drop, filter}
use Rattle.tide_model.specs.declared.op.Op.{Op}
use Rattle.tide_model.specs.declared.op.Op.TheVariants.{Claim, Release, Unclaim}
use Rattle.tide_model.specs.declared.op.Reply.{Reply}
use Rattle.tide_model.specs.declared.op.Reply.TheVariants.{Done}
use Rattle.tide_call.specs.declared.action.Action.{Action}
use Rattle.tide_call.specs.declared.action.Action.TheVariants as action

-- the claims that a call leaves, by its reply and its action: a claim that was granted comes last, a release takes its
-- cell out, an unclaim the oldest
abbrev pub claims_by_action : Reply → Op → Action → List ℕ → List ℕ
claims_by_action Done (Claim src) (action.Claim cell full) claims = claims ++ cell ∷ []
claims_by_action Done (Release src) (action.Release cell) claims = filter (λ claimed. not (claimed == cell)) claims
claims_by_action Done Unclaim does claims = drop 1 claims
claims_by_action reply op does claims = claims
