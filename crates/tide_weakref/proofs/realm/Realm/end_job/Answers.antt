-- The job ends: its cells aren't kept any more.
use Rattle.std.proofs.Common.{arith, refl, sym, subst, [], inl}
use Rattle.tide_mutator.specs.calls.Viewed as works
use Rattle.tide_weakref.proofs.CalledLaws.{worked_by}
use Rattle.tide_weakref.proofs.EmptyingLaws.{kept_nothing}
use Rattle.tide_weakref.proofs.KeepLaws.{kept_are}
use Rattle.tide_weakref.proofs.SettingLaws.{takes_kept}
use Rattle.tide_weakref.proofs.StandingLaws.{goes_keeping}
use Rattle.tide_weakref.proofs.StepLaws.{scratch_kept}
use Rattle.tide_weakref.specs.Jobs.{HasKeptJobs, Jobs}
use Rattle.tide_weakref.specs.Setting.{SetsWhatItTakes}
use Rattle.tide_weakref.specs.Uses.{GoesOn}
use Rattle.tide_weakref.specs.Viewed.{jobs_of, view_of}
use Rattle.tide_weakref.proofs.realm.Realm.end_job.Goals as goal

pub empty-requires-clause-register : goal.empty-requires-clause-register
empty-requires-clause-register g c κs met = c.requires.ready.kept_jobs.keeps.holds.of_layout.scratch

pub empty-requires-clause-within : goal.empty-requires-clause-within
empty-requires-clause-within g c κs met =
    let holds = c.requires.ready.kept_jobs.keeps.holds in
    let few = holds.within.cells in
    let of = holds.of_layout.strong in
    let count = c.count.ensures in
    omega (arith, few, of, count)

pub returns : goal.returns
returns g c =
    let layout = c.args.heap.now.key.layout in
    let v = view_of c.args.self.now in
    let u = works.view_of c.empty.new.mutator in
    let jobs = jobs_of c.args.self.now in
    let kept = c.requires.ready.kept_jobs in
    let none : Jobs = record jobs { cells = [] } in
    let same = kept_are jobs c.clear.new.self.handles c.clear.new.self.cells.items [] c.clear.ensures.handles c.clear.ensures.cells in
    let count = c.count.ensures in
    let few = kept.keeps.holds.within.cells in
    record {
      worked = worked_by c.args.self.now _ c.empty.ensures.stepped (subst (GoesOn jobs) (sym same) (goes_keeping jobs []))
          (subst (SetsWhatItTakes v u jobs) (sym same) (takes_kept v u jobs none (record {
            strong = λ handle was. inl (
                let within = c.empty.ensures.sets.strong handle was in
                let last = within.1 in
                (within.0, omega (arith, last, count)));
            weak = c.empty.ensures.sets.weak;
          }) (λ one has. has)))
          (subst (HasKeptJobs layout u) (sym same) (c.empty.ensures.kept_jobs none refl (kept_nothing layout v jobs kept)));
      registers = c.empty.ensures.registers;
      emptied = λ spare place below. c.empty.ensures.emptied jobs refl (omega (arith, few, count)) spare
          (λ own. scratch_kept layout v jobs kept own) place (omega (arith, below, count));
      ended = same;
    }
