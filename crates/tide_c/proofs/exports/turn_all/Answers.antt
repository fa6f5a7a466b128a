-- The party that was behind the handle has done it, and is behind it again.
use Rattle.std.proofs.Common.{ℕ, ◌≡◌, ◌∙◌, ap, sym}
use Rattle.std.specs.Prelude.{IfSome, None, Option, Some}
use Rattle.tide.specs.tide_snapshot.tide_retained.declared.contents.Contents.{Contents}
use Rattle.tide_c.proofs.Exported.{through}
use Rattle.tide_c.specs.Turns.{HasLooked, HasTurnedTo}
use Rattle.tide_c.specs.Statuses.{AsKeeper, Through, code_of}
use Rattle.tide_c.specs.declared.party.Party.{Party}
use Rattle.tide_c.specs.declared.status.Status.{Status}
use Rattle.tide_c.proofs.exports.turn_all.Goals as goal

pub returns-clause-turned : goal.returns-clause-turned
returns-clause-turned c =
    through (AsKeeper HasTurnedTo) c.args.keeper.now.value c.put.new.handle.value c.code-2.result c.deref_mut.result.now
    c.turn-status.new.self c.turn-status.result.0 (c.in-Some.ensures.value ∙ ap (λ (p : Party). Some p) (sym c.deref_mut.ensures.value))
    c.put.ensures c.code-2.ensures c.turn-status.ensures.turned

-- what was taken is of that turn
looked : (taken : Option Contents) (old new : Option Party) (answer : ℕ) (before after : Party) (status : Status) →
    old ≡ Some before → new ≡ Some after → answer ≡ code_of status →
    IfSome taken (λ one. AsKeeper (HasLooked one) before after status) →
    IfSome taken (λ one. Through (AsKeeper (HasLooked one)) old new answer)
looked None old new answer before after status is_old is_new is_answer did = did
looked (Some one) old new answer before after status is_old is_new is_answer did =
    through (AsKeeper (HasLooked one)) old new answer before after status is_old is_new is_answer did

pub returns-clause-looked : goal.returns-clause-looked
returns-clause-looked c =
    looked c.turn-status.result.1 c.args.keeper.now.value c.put.new.handle.value c.code-2.result c.deref_mut.result.now
    c.turn-status.new.self c.turn-status.result.0 (c.in-Some.ensures.value ∙ ap (λ (p : Party). Some p) (sym c.deref_mut.ensures.value))
    c.put.ensures c.code-2.ensures c.turn-status.ensures.looked
