-- Those of the registrations with the token are not in use any more.
use Rattle.std.proofs.Common.{refl, sym, subst}
use Rattle.std.specs.Prelude.{filter, not}
use Rattle.tide_weakref.proofs.ClosingLaws.{uses_are}
use Rattle.tide_weakref.proofs.StandingLaws.{kept_fewer, stays_reference}
use Rattle.tide_weakref.specs.Jobs.{HasKeptJobs}
use Rattle.tide_weakref.specs.Roles.{is_chosen}
use Rattle.tide_weakref.specs.Uses.{GoesOn}
use Rattle.tide_weakref.specs.Viewed.{jobs_of, view_of}
use Rattle.tide_weakref.specs.declared.weak.Chosen.TheVariants.{Token}
use Rattle.tide_weakref.specs.declared.weak.Weak.{Weak}
use Rattle.tide_weakref.proofs.realm.Realm.unregister.Goals as goal

pub returns-clause-jobs : goal.returns-clause-jobs
returns-clause-jobs c =
    let jobs = jobs_of c.args.self.now in
    uses_are jobs c.give_up.new.self.handles c.give_up.new.self.uses.items
    (filter (λ (one : Weak). not (is_chosen (Token c.args.token) one)) jobs.uses) c.give_up.ensures.handles c.give_up.ensures.uses

pub returns-clause-goes_on : goal.returns-clause-goes_on
returns-clause-goes_on c =
    let jobs = jobs_of c.args.self.now in
    subst (GoesOn jobs) (sym (returns-clause-jobs c)) (record {
      scratch = refl;
      strong = refl;
      weak = refl;
      references = λ number is. stays_reference jobs (is_chosen (Token c.args.token)) number (λ target. refl) is;
    })

pub returns-clause-ready : goal.returns-clause-ready
returns-clause-ready c = λ id layout ready.
    let jobs = jobs_of c.args.self.now in
    record {
      running = ready.running;
      kept_jobs = subst (HasKeptJobs layout (view_of c.args.self.now)) (sym (returns-clause-jobs c))
          (kept_fewer layout (view_of c.args.self.now) jobs (λ (one : Weak). not (is_chosen (Token c.args.token) one)) ready.kept_jobs);
    }
