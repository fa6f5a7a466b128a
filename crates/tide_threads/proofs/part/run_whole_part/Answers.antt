-- Why a part may be played, noted and frozen, and what it leaves.
use Rattle.std.proofs.Common.{ℕ, ◌≡◌, ◌∙◌, refl, sym, ap, subst, List, [], ◌∷◌, ◌++◌, ◌+◌}
use Rattle.std.proofs.lemmas.Result.{err_from_is_err_and}
use Rattle.std.specs.Prelude.{Some, slice_get}
use Rattle.crossbeam_utils.specs.Padded.{padded_value}
use Rattle.crossbeam_utils.specs.declared.cache_padded.CachePadded.{CachePadded}
use Rattle.tide_heap.proofs.tide_freeze.RunningLaws.{open_keeps_books}
use Rattle.tide_heap.specs.tide_freeze.Books.{AreBooks}
use Rattle.tide_heap.specs.tide_freeze.declared.books.Books.{Books}
use Rattle.tide_report.proofs.EndLaws.{TellsEnds-part}
use Rattle.tide_heap.specs.Turns.{open_entry, opened}
use Rattle.tide_heap.proofs.tide_core.machine_laws.freezes.Entering.{FrozenWave-of}
use Rattle.tide_heap.specs.tide_core.machine.Frozen.{FrozenWith}
use Rattle.tide_heap.specs.tide_core.declared.machine.view.View.{View}
use Rattle.tide_model.specs.declared.entry.Event.{Event}
use Rattle.tide_report.specs.Ends.{TellsEnds}
use Rattle.tide_shape.specs.Lists.{lists_of}
use Rattle.tide_heap.specs.declared.steps.notes.Note.{Note}
use Rattle.tide_table.proofs.Standing.{blacks_stay, no_ends}
use Rattle.tide_threads.proofs.Acting.{cursors_at, note_among}
use Rattle.tide_threads.proofs.Shares.{AllIn-turns, AllStandBy-frozen, RanPartBy-frozen}
use Rattle.tide_threads.proofs.Standing.{MayEnterVisits-part, RunsPart-taken, seen_part}
use Rattle.tide_threads.proofs.Taking.{IsTold, IsTold-all, TookNotes, TookNotes-all}
use Rattle.tide_threads.proofs.Turns.{AreParted-standing, Both-left, MayHear-opened, MayTake-turn, TellsAt-turn}
use Rattle.tide_threads.proofs.Visits.{HaveTold-all}
use Rattle.tide_threads.specs.Acting.{noted_all, notes_in}
use Rattle.tide_table.specs.VisitsTold.{HaveTold, most_visits}
use Rattle.tide_threads.specs.Playing.{MayTake, TookTurn}
use Rattle.tide_threads.specs.declared.participant.Participant.{Participant}
use Rattle.tide_heap.specs.tide_words.heap.Heap.{heap_of}
use Rattle.tide_threads.proofs.part.run_whole_part.Goals as goal

pub open-requires : goal.open-requires
open-requires g c =
    let layout = c.args.heap.now.key.layout in
    let shapes = lists_of c.args.heap.now.key.shapes in
    let v = c.args.collector.now.seat.me.0 in
    let s = c.requires.still in
    let wave = subst (FrozenWith layout shapes (heap_of layout v.words) v.seen) c.requires.opens.entered s.wave in
    record {
      own = c.requires.own;
      frozen = s.frozen;
      wave = FrozenWave-of layout shapes (heap_of layout v.words) v.seen wave;
      swept = wave.swept;
      told = wave.swept_told;
      clean = wave.clean;
      stopped = s.stopped;
      may = c.requires.opens.may;
      entered = c.requires.opens.entered;
      blacks = blacks_stay layout shapes v s;
    }

pub play_part-requires-clause-own : goal.play_part-requires-clause-own
play_part-requires-clause-own g c κs within = c.open.ensures.same.0 ∙ c.requires.own

pub play_part-requires-clause-running : goal.play_part-requires-clause-running
play_part-requires-clause-running g c κs within = ap (λ (v : View). v.frozen) c.in-Ok.ensures.opened

pub play_part-requires-clause-may : goal.play_part-requires-clause-may
play_part-requires-clause-may g c κs within = λ at padded found.
    let key = c.args.heap.now.key in
    let id = c.args.heap.now.table.shared.table_id in
    let v0 = c.args.collector.now.seat.me.0 in
    let v1 = c.open.new.self.seat.me.0 in
    let xs = c.args.participants.now in
    let is_opened : v1 ≡ opened key.layout c.args.run v0 = c.in-Ok.ensures.opened in
    MayHear-opened id key.layout (lists_of key.shapes) v0 v1 c.args.run at (padded_value padded) c.requires.still is_opened
    (c.requires.all.each at padded found)
    (λ cursor is. (c.requires.cursors.each at cursor
    (cursors_at key.layout.mutators xs (AreParted-standing id key.layout v0 xs c.requires.all) at padded cursor found is)).1)

pub returns-in_err-ended : goal.returns-in_err-ended
returns-in_err-ended g c =
    let failed = err_from_is_err_and c.from_residual.result c.from_residual.ensures.1 in
    rw failed.1 (record {
      own = c.play_part.ensures.same.0 ∙ c.open.ensures.same.0;
      still = tt;
      visits = tt;
      all = tt;
      books = tt;
      told = tt;
      pacing = tt;
      ran = tt;
    })

pub take_in-requires : goal.take_in-requires
take_in-requires g c =
    let key = c.args.heap.now.key in
    let id = c.args.heap.now.table.shared.table_id in
    let v0 = c.args.collector.now.seat.me.0 in
    let v1 = c.open.new.self.seat.me.0 in
    let is_opened : v1 ≡ opened key.layout c.args.run v0 = c.in-Ok.ensures.opened in
    let w1 = c.play_part.new.collector.seat.me.0 in
    let same : w1 ≡ v1 = c.play_part.ensures.same.1 in record {
      own = c.play_part.ensures.same.0 ∙ c.open.ensures.same.0 ∙ c.requires.own;
      running = ap (λ (v : View). v.frozen) (same ∙ is_opened);
      may = λ at padded note found out.
          (let x = Both-left (TookTurn id key.layout (lists_of key.shapes) v1) c.args.participants.now c.play_part.new.participants
          c.in_ok-ended.ensures.turns at padded found in
          subst (λ (v : View). MayTake id v.period note) (sym same)
          (MayTake-turn id key.layout (lists_of key.shapes) v0 v1 at (padded_value x.0) (padded_value padded) note
          (c.requires.all.each at x.0 x.1) x.2 out));
    }

pub freeze_part-requires : goal.freeze_part-requires
freeze_part-requires g c =
    let key = c.args.heap.now.key in
    let id = c.args.heap.now.table.shared.table_id in
    let v0 = c.args.collector.now.seat.me.0 in
    let v1 = c.open.new.self.seat.me.0 in
    let is_opened : v1 ≡ opened key.layout c.args.run v0 = c.in-Ok.ensures.opened in
    let v2 = c.take_in.new.collector.seat.me.0 in
    let xs = c.args.participants.now in
    let ys = c.play_part.new.participants in
    let all : v2 ≡ noted_all (notes_in ys) v1 = c.take_in.ensures.taken
    ∙ ap (noted_all (notes_in ys)) c.play_part.ensures.same.1 in
    let taken : TookNotes v1 v2 = subst (TookNotes v1) (sym all) (TookNotes-all (notes_in ys) v1) in
    let turns = c.in_ok-ended.ensures.turns in record {
      own = c.take_in.ensures.same ∙ c.play_part.ensures.same.0 ∙ c.open.ensures.same.0 ∙ c.requires.own;
      part = RunsPart-taken key.layout (lists_of key.shapes) v0 v1 v2 c.args.run c.requires.still is_opened taken;
      all = AllIn-turns id key.layout (lists_of key.shapes) v0 v1 v2 c.args.run is_opened taken xs ys c.requires.all turns
          (λ at y note found out. subst (λ (v : View). IsTold v note.seat.me.0) (sym all)
          (IsTold-all (notes_in ys) v1 note.seat.me.0 (note_among ys at y note found out)));
      books = subst (λ (h : List Event). AreBooks key.layout h c.args.books.now) (sym (taken.start ∙ ap (λ (v : View). v.start) is_opened))
          (open_keeps_books key.layout v0.seen (v0.period + 1) c.args.run c.args.books.now c.requires.books);
    }

pub returns : goal.returns
returns g c =
    let key = c.args.heap.now.key in
    let layout = key.layout in
    let shapes = lists_of key.shapes in
    let id = c.args.heap.now.table.shared.table_id in
    let v0 = c.args.collector.now.seat.me.0 in
    let v1 = c.open.new.self.seat.me.0 in
    let is_opened : v1 ≡ opened layout c.args.run v0 = c.in-Ok.ensures.opened in
    let v2 = c.take_in.new.collector.seat.me.0 in
    let xs = c.args.participants.now in
    let ys = c.play_part.new.participants in
    let all : v2 ≡ noted_all (notes_in ys) v1 = c.take_in.ensures.taken
    ∙ ap (noted_all (notes_in ys)) c.play_part.ensures.same.1 in
    let taken : TookNotes v1 v2 = subst (TookNotes v1) (sym all) (TookNotes-all (notes_in ys) v1) in
    let turns = c.in_ok-ended.ensures.turns in
    let told : (at : ℕ) (y : CachePadded Participant) (note : Note) → slice_get ys at ≡ Some y →
    (padded_value y).note ≡ Some note → IsTold v2 note.seat.me.0 =
    λ at y note found out. subst (λ (v : View). IsTold v note.seat.me.0) (sym all)
    (IsTold-all (notes_in ys) v1 note.seat.me.0 (note_among ys at y note found out)) in
    let v3 = c.freeze_part.new.self.seat.me.0 in
    let zs = c.take_in.new.participants in
    let freezes = c.freeze_part.ensures.frozen in
    let seen = seen_part layout shapes v0 v1 v2 v3 c.args.run c.requires.still is_opened taken freezes in
    let begun : List Event = v0.seen ++ open_entry c.args.run v0 ∷ [] in
    let visits = HaveTold-all layout.mutators layout.visitors (most_visits v1) ys v1 (ap (λ (v : View). v.visited) is_opened)
    (ap (λ (v : View). v.done) is_opened) (turns.as_many ∙ c.requires.all.one_each)
    (λ at y found. let x = Both-left (TookTurn id layout shapes v1) xs ys turns at y found in
    TellsAt-turn id layout shapes v0 v1 at (padded_value x.0) (padded_value y) c.requires.still.limits
    (c.requires.all.each at x.0 x.1) x.2) in record {
      own = c.freeze_part.ensures.own ∙ c.take_in.ensures.same ∙ c.play_part.ensures.same.0 ∙ c.open.ensures.same.0;
      still = c.freeze_part.ensures.still;
      visits = MayEnterVisits-part layout shapes v0 v1 v2 v3 c.args.run c.requires.still is_opened taken freezes
          c.freeze_part.ensures.still (subst (λ (v : View). HaveTold (most_visits v1) layout.visitors v.visited) (sym all) visits.0)
          (ap (λ (v : View). v.done) all ∙ visits.1) c.take_in.new.collector.told;
      all = AllStandBy-frozen id layout shapes v0 v1 v2 v3 c.args.run c.requires.still is_opened taken freezes xs ys zs
          c.requires.all turns c.take_in.ensures.gave told;
      books = subst (λ (h : List Event). AreBooks layout h c.freeze_part.new.books) (sym (ap (λ (v : View). v.seen) freezes.view)) c.freeze_part.ensures.books;
      told = subst (λ (b : Books). TellsEnds layout v3.seen b.report) (sym c.freeze_part.ensures.others)
          (subst (λ (h : List Event). TellsEnds layout h c.args.books.now.report) (sym seen)
          (TellsEnds-part layout begun freezes.part c.args.books.now.report (no_ends freezes.part freezes.of_part)
          (TellsEnds-part layout v0.seen (open_entry c.args.run v0 ∷ []) c.args.books.now.report refl c.requires.told)));
      pacing = ap (λ (b : Books). b.pacing) c.freeze_part.ensures.others;
      ran = RanPartBy-frozen id layout shapes v0 v1 v2 v3 c.args.run c.requires.still is_opened taken freezes xs ys zs
          c.requires.all turns c.take_in.ensures.gave told c.shares_make_a_part.ensures.part c.in_ok-ended.ended
          c.in_ok-ended.ensures.served c.requires.settled c.requires.cursors;
    }
