-- What is behind the handle is what the keeper took in its turn.
use Rattle.std.proofs.Common.{ℕ, ◌≡◌, subst}
use Rattle.std.specs.Prelude.{◌⊎◌, IfSome, None, Option}
use Rattle.tide.specs.tide_snapshot.tide_retained.declared.contents.Contents.{Contents}
use Rattle.tide_c.specs.Looks.{HasPut, IsTaken}
use Rattle.tide_c.specs.Statuses.{AsKeeper, Through}
use Rattle.tide_c.specs.Turns.{HasLooked}
use Rattle.tide_c.specs.declared.party.Party.{Party}
use Rattle.tide_c.proofs.exports.tide_look.Goals as goal
use mathlib.Core.Logic.{inl, inr}

is_put : (taken : Option Contents) (old new value : Option Party) (answer : ℕ) →
    IfSome taken (λ one. Through (AsKeeper (HasLooked one)) old new answer) → (value ≡ None) ⊎ IsTaken taken value →
    (value ≡ None) ⊎ HasPut old new value answer
is_put taken old new value answer did (inl none) = inl none
is_put taken old new value answer did (inr is) = inr (
  is.0,
  is.2,
  subst (λ (t : Option Contents). IfSome t (λ one. Through (AsKeeper (HasLooked one)) old new answer)) is.1 did,
)

pub returns-clause-looked : goal.returns-clause-looked
returns-clause-looked c empty =
    is_put c.turn_all-code.result.1 c.args.keeper.now.value c.turn_all-code.new.keeper.value c.put_snapshot.new.handle.value
    c.turn_all-code.result.0 c.turn_all-code.ensures.looked c.put_snapshot.ensures
