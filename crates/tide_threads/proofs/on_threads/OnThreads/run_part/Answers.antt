-- Why a part may be run, and why the heap stands after it.
use Rattle.std.proofs.Common.{◌∙◌, sym, ap, subst, arith, List, length}
use Rattle.std.proofs.lemmas.List.{with_items_is}
use Rattle.std.proofs.lemmas.Result.{err_from_is_err_and}
use Rattle.crossbeam_utils.specs.declared.cache_padded.CachePadded.{CachePadded}
use Rattle.tide_periods.specs.Part.{AreCursors, RanPartBy}
use Rattle.tide_periods.specs.Recorded.{recorded_at}
use Rattle.tide_threads.specs.Acting.{cursors_in}
use Rattle.tide_threads.specs.OnThreads.{cursors_on, recorded_in, setting_in}
use Rattle.tide_threads.specs.Playing.{AllStandBy}
use Rattle.tide_threads.specs.declared.participant.Participant.{Participant}
use Rattle.tide_threads.proofs.on_threads.OnThreads.run_part.Goals as goal

pub run_whole_part-requires-clause-own : goal.run_whole_part-requires-clause-own
run_whole_part-requires-clause-own g c κs within = c.requires.stands.of_heap

pub run_whole_part-requires-clause-still : goal.run_whole_part-requires-clause-still
run_whole_part-requires-clause-still g c κs within = c.requires.stands.still

pub run_whole_part-requires-clause-opens : goal.run_whole_part-requires-clause-opens
run_whole_part-requires-clause-opens g c κs within = c.requires.opens

pub run_whole_part-requires-clause-all : goal.run_whole_part-requires-clause-all
run_whole_part-requires-clause-all g c κs within =
    subst (AllStandBy c.args.self.now.heap.table.shared.table_id c.args.self.now.heap.key.layout c.args.self.now.collector.seat.me.0)
    (sym c.as_mut_slice.ensures.value) c.requires.stands.all

pub run_whole_part-requires-clause-books : goal.run_whole_part-requires-clause-books
run_whole_part-requires-clause-books g c κs within = c.requires.stands.books

pub run_whole_part-requires-clause-told : goal.run_whole_part-requires-clause-told
run_whole_part-requires-clause-told g c κs within = c.requires.stands.told

pub run_whole_part-requires-clause-settled : goal.run_whole_part-requires-clause-settled
run_whole_part-requires-clause-settled g c κs within = c.requires.settled

pub run_whole_part-requires-clause-cursors : goal.run_whole_part-requires-clause-cursors
run_whole_part-requires-clause-cursors g c κs within =
    subst (λ (l : List (CachePadded Participant)). AreCursors (recorded_in c.args.self.now) (cursors_in l))
    (sym c.as_mut_slice.ensures.value) c.requires.cursors

pub run_whole_part-requires-clause-few : goal.run_whole_part-requires-clause-few
run_whole_part-requires-clause-few g c κs within =
    (let few = c.requires.few in let period = c.requires.stands.still.period in omega (arith, few, period))

pub returns-in_err-ended : goal.returns-in_err-ended
returns-in_err-ended g c =
    let failed = err_from_is_err_and c.from_residual.result c.from_residual.ensures.1 in
    rw failed.1 (record { ran = tt; stands = tt; visits = tt; pacing = tt })

pub returns : goal.returns
returns g c =
    let self = c.args.self.now in
    let stands = c.requires.stands in
    let e = c.in_ok-ended.ensures in
    let made = c.run_whole_part.new.participants in
    let w = c.run_whole_part.new.collector.seat.me.0 in
    let new = recorded_at (setting_in self) w.seen in
    let many = e.all.one_each in
    let had = stands.all.one_each in
    let value = ap length c.as_mut_slice.ensures.value in
    let whole = with_items_is self.participants made (omega (arith, many, had, value, c.as_mut_slice.ensures.len)) in
    record {
      ran = subst (λ (l : List (CachePadded Participant)). RanPartBy (recorded_in self) new c.args.run (cursors_on self) (cursors_in l)
          c.in_ok-ended.ended) (sym whole)
          (subst (λ (l : List (CachePadded Participant)). RanPartBy (recorded_in self) new c.args.run (cursors_in l) (cursors_in made)
          c.in_ok-ended.ended) c.as_mut_slice.ensures.value e.ran);
      stands = record {
        of_heap = e.own ∙ stands.of_heap;
        still = e.still;
        books = e.books;
        told = e.told;
        all = subst (AllStandBy self.heap.table.shared.table_id self.heap.key.layout w) (sym whole) e.all;
        no_calls = stands.no_calls;
      };
      visits = e.visits;
      pacing = e.pacing;
    }
