-- The weak handle of a reference isn't in use any more.
use Rattle.std.proofs.Common.{sym, subst}
use Rattle.std.proofs.lemmas.Bool.{ne_eqb}
use Rattle.std.specs.Prelude.{filter, not}
use Rattle.tide_weakref.proofs.ClosingLaws.{uses_are}
use Rattle.tide_weakref.proofs.StandingLaws.{kept_fewer, stays_reference}
use Rattle.tide_weakref.specs.Jobs.{HasKeptJobs, Jobs}
use Rattle.tide_weakref.specs.Roles.{is_chosen}
use Rattle.tide_weakref.specs.Uses.{IsReference}
use Rattle.tide_weakref.specs.Viewed.{jobs_of, view_of}
use Rattle.tide_weakref.specs.declared.weak.Chosen.TheVariants.{Number}
use Rattle.tide_weakref.specs.declared.weak.Weak.{Weak}
use Rattle.tide_weakref.proofs.realm.Realm.drop_ref.Goals as goal

pub returns-clause-jobs : goal.returns-clause-jobs
returns-clause-jobs c =
    let jobs = jobs_of c.args.self.now in
    uses_are jobs c.give_up.new.self.handles c.give_up.new.self.uses.items
    (filter (λ (one : Weak). not (is_chosen (Number c.args.r) one)) jobs.uses) c.give_up.ensures.handles c.give_up.ensures.uses

pub returns-clause-others : goal.returns-clause-others
returns-clause-others c = λ other apart is.
    let jobs = jobs_of c.args.self.now in
    subst (λ (j : Jobs). IsReference j other) (sym (returns-clause-jobs c))
    (stays_reference jobs (is_chosen (Number c.args.r)) other (λ target. ne_eqb other c.args.r apart) is)

pub returns-clause-ready : goal.returns-clause-ready
returns-clause-ready c = λ id layout ready.
    let jobs = jobs_of c.args.self.now in
    record {
      running = ready.running;
      kept_jobs = subst (HasKeptJobs layout (view_of c.args.self.now)) (sym (returns-clause-jobs c))
          (kept_fewer layout (view_of c.args.self.now) jobs (λ (one : Weak). not (is_chosen (Number c.args.r) one)) ready.kept_jobs);
    }
