-- Why the log has what the history says behind the freeze.
use Rattle.std.proofs.Common.{ℕ, ◌<◌, ◌∙◌, ap, arith, subst, sym}
use Rattle.std.proofs.lemmas.Result.{err_from_is_err_and}
use Rattle.std.specs.Prelude.{◌^◌}
use Rattle.tide_heap.specs.tide_core.declared.machine.view.View.{View}
use Rattle.tide_heap.specs.tide_freeze.Freezing.{HasFrozenWhole}
use Rattle.tide_model.specs.Freeze.{marks_after}
use Rattle.tide_periods.specs.Periods.{RanFreeze}
use Rattle.tide_periods.specs.Recorded.{IsSettled, recorded_at}
use Rattle.tide_sched.specs.Paces.{last_run}
use Rattle.tide_table.proofs.ForeseenLaws.{HasLogged-froze}
use Rattle.tide_table.proofs.tide_statistics.FewLaws.{AreFew-told}
use Rattle.tide_table.specs.Foreseen.{told_of}
use Rattle.tide_table.specs.Pauses.{last_pauses}
use Rattle.tide_table.specs.Standing.{EntersTold, MayEnterVisits}
use Rattle.tide_table.specs.tide_statistics.Few.{AreFew}
use Rattle.tide_table.specs.tide_statistics.Statistics.{HasLogged}
use Rattle.tide_table.specs.tide_statistics.Told.{with_freeze}
use Rattle.tide_threads.proofs.Logs.{visited-few}
use Rattle.tide_threads.proofs.Standing.{Stands-read}
use Rattle.tide_threads.specs.OnThreads.{pace_on, recorded_in, setting_in}
use Rattle.tide_threads.specs.Standing.{MayOpenPart}
use Rattle.tide_threads.proofs.on_threads.OnThreads.freeze_and_tell.Goals as goal

pub foresee-foreseen-requires : goal.foresee-foreseen-requires
foresee-foreseen-requires c =
    let stands = c.requires.stands in
    let begun = c.begun.ensures ∙ c.requires.logged.begun in
    let room = c.requires.room in record {
      own = stands.of_heap;
      still = stands.still;
      visits = c.requires.visits;
      books = stands.books;
      begun = begun;
      few = omega (arith, begun, room);
    }

pub freeze-requires : goal.freeze-requires
freeze-requires c =
    let o = c.args.self.now in
    let e = c.foresee-foreseen.ensures in
    let same = sym e.same in record {
      settled = subst (λ (v : View). IsSettled (recorded_at (setting_in o) v.seen)) same c.requires.settled;
      stands = Stands-read o c.foresee-foreseen.new.collector e.own e.same c.requires.stands;
      opened = subst (λ (v : View). 0 < (recorded_at (setting_in o) v.seen).parts) same c.requires.opened;
      room = subst (λ (v : View). (recorded_at (setting_in o) v.seen).cycles < 2 ^ 60) same c.requires.room;
      visits = subst (MayEnterVisits o.heap.key.layout) same c.requires.visits;
    }

pub told-told-requires : goal.told-told-requires
told-told-requires c =
    let stands = c.in_ok-next.ensures.stands in record { own = stands.of_heap; still = stands.still }

pub tell_freeze-requires : goal.tell_freeze-requires
tell_freeze-requires c =
    let few = c.requires.few in
    let visited = few.visited in
    let paused = few.paused in
    let parts = few.parts in
    let most = c.requires.parts in
    let begun = c.requires.logged.begun in
    let room = c.requires.room in
    let foreseen = c.foresee-foreseen.ensures.foreseen.visited in
    let noted = visited-few c.args.self.now c.requires.stands c.requires.visits c.requires.opened c.requires.run in record {
      visited = omega (arith, visited, parts, most, foreseen, noted);
      paused = omega (arith, paused, parts, most);
      begun = omega (arith, begun, room);
      parts = omega (arith, parts, most);
    }

pub returns-in_err-next : goal.returns-in_err-next
returns-in_err-next c =
    let failed = err_from_is_err_and c.from_residual.result c.from_residual.ensures.1 in
    rw failed.1 (record { ran = tt; stands = tt; pacing = tt; cursors = tt; opens = tt; logged = tt; few = tt })

pub returns-in_err-tell_freeze : goal.returns-in_err-tell_freeze
returns-in_err-tell_freeze c =
    let failed = err_from_is_err_and c.from_residual-in_err-tell_freeze.result c.from_residual-in_err-tell_freeze.ensures.1 in
    rw failed.1 (record { ran = tt; stands = tt; pacing = tt; cursors = tt; opens = tt; logged = tt; few = tt })

pub returns : goal.returns
returns c =
    let o = c.args.self.now in
    let frozen = c.freeze.new.self in
    let q = recorded_in frozen in
    let layout = o.heap.key.layout in
    let v = o.collector.seat.me.0 in
    let log = c.args.log.now in
    let next = c.in_ok-next.next in
    let foreseen = c.foresee-foreseen.result in
    let f = c.foresee-foreseen.ensures in
    let is = f.foreseen in
    let e = c.in_ok-next.ensures in
    let t = c.told-told.ensures in
    let births = c.requires.stands.books.births in
    let froze : HasFrozenWhole (pace_on o) layout (last_run v.seen) v.seen q.history c.args.is_forced =
    subst (λ (x : View). HasFrozenWhole (pace_on o) layout (last_run x.seen) x.seen q.history c.args.is_forced) f.same e.froze in
    let told : EntersTold layout v q.history = subst (λ (x : View). EntersTold layout x q.history) f.same e.told in
    let has = HasLogged-froze (pace_on o) layout v q.history c.args.is_forced log froze told c.requires.logged in
    let logged : HasLogged q.history c.tell_freeze.new.log =
    subst (HasLogged q.history)
    (sym (c.in_ok-tell_freeze.ensures
    ∙ (λ i. with_freeze log (is.visited i) ((t.is
    ∙ (λ j. told_of (is.marked j) (is.begun j) (last_pauses q.history) (marks_after (e.same j).layout q.history))) i)
    (births.since_end i) (births.in_cycle i)))) has in
    let noted = visited-few o c.requires.stands c.requires.visits c.requires.opened c.requires.run in
    record {
      ran = subst (λ (x : View × View). RanFreeze (recorded_at (setting_in o) x.0.seen) (recorded_at (setting_in frozen) x.1.seen)
          (pace_on o) c.args.is_forced next) (λ i. (f.same i, sym t.same i)) e.ran;
      stands = Stands-read frozen c.told-told.new.collector t.own t.same e.stands;
      pacing = e.pacing;
      cursors = e.cursors;
      opens = subst (λ (x : View). MayOpenPart frozen.heap.key.layout x next) (sym t.same) e.opens;
      logged = subst (λ (x : View). HasLogged x.seen c.tell_freeze.new.log) (sym t.same) logged;
      few = subst (λ (n : ℕ). AreFew n c.tell_freeze.new.log)
          (sym (ap (λ (x : View). (recorded_at (setting_in frozen) x.seen).parts) t.same ∙ e.ran.parts
          ∙ ap (λ (x : View). (recorded_at (setting_in o) x.seen).parts) f.same))
          (subst (AreFew (recorded_in o).parts) (sym c.in_ok-tell_freeze.ensures)
          (AreFew-told (recorded_in o).parts foreseen.visited log c.told-told.result o.books.births.since_end o.books.births.in_cycle
          (subst (λ (n : ℕ). n < 2 ^ 32) (sym is.visited) noted) t.few c.requires.few));
    }
