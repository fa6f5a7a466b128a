-- Behind each turn the part and the cycles that ended in it are counted.
use Rattle.std.proofs.Common.{ℕ, ◌+◌, ◌∙◌, ap, append-nil, subst, sym, arith, of_calls, []}
use Rattle.tide.proofs.Counting.{counts_turn}
use Rattle.tide.proofs.Watching.{watched_none, watched_turn}
use Rattle.tide.specs.Counted.{HasCounted, with_lines, with_part}
use Rattle.tide.specs.Watched.{HasWatched}
use Rattle.tide_server.specs.Keepers.{view_of}
use Rattle.tide_server.specs.Turned.{HasFinished, HasOpenedPart, HasTurned}
use Rattle.tide_server.specs.tide_model.Periods.{open_count}
use Rattle.tide_server.specs.tide_report.Ends.{ends_in}
use Rattle.tide_server.specs.tide_report.Reports.{Reported}
use Rattle.tide_server.specs.tide_shape.Lists.{lists_of}
use Rattle.tide.proofs.keeping.keep.Goals as goal

pub loop-init : goal.loop-init
loop-init g c =
    record {
      stands = c.requires.stands;
      empty = c.requires.empty;
      pacing = λ i. c.args.keeper.books.pacing;
      counted = record {
        parts = 0;
        went_on = omega arith;
        ended = [];
        came = sym (append-nil (ends_in c.args.standing.now.heap.key.layout (view_of c.args.keeper).start));
        counts = c.new-tally.ensures;
      };
      watches = c.requires.watches;
      watched = watched_none g.W.FnMut c.args.standing.now.heap.key.layout (view_of c.args.keeper).start
          (view_of c.args.keeper).period c.args.watch;
    }

pub loop-preserved : goal.loop-preserved
loop-preserved g c =
    let s = c.args.standing.now in
    let layout = s.heap.key.layout in
    let first = view_of c.args.keeper in
    let old = c.loop.keeper in
    let new = c.turn.new.self in
    let did : HasOpenedPart layout (lists_of s.heap.key.shapes) s.heap.table.shared.table_id s.hands.shared.table_id old
    new c.loop.report c.turn.new.report =
    subst (HasTurned layout (lists_of s.heap.key.shapes) s.heap.table.shared.table_id s.hands.shared.table_id old new
    c.loop.report c.turn.new.report) c.in-Opened.is c.in-Ok.ensures.turned in
    record {
      stands = did.stands;
      empty = ap (λ (r : Reported). r.cycles) c.forget.ensures;
      pacing = c.in-Ok.ensures.pacing ∙ c.loop.invariant.pacing;
      counted = subst (HasCounted layout first.start (view_of new).start first.period (view_of new).period)
          (sym c.add.ensures)
          (subst (λ (n : ℕ). HasCounted layout first.start (view_of new).start first.period n
          (with_lines (with_part c.loop.tally) c.turn.new.report.cycles)) (sym did.period)
          (counts_turn layout first.start (view_of old).start (view_of new).start first.period (view_of old).period
          c.loop.report c.turn.new.report c.loop.tally c.loop.invariant.empty did.told c.loop.invariant.counted));
      watches = search of_calls;
      watched = subst (λ (n : ℕ). HasWatched g.W.FnMut layout first.start (view_of new).start first.period n c.args.watch
          c.watch.new.self) (sym did.period)
          (watched_turn g.W.FnMut layout first.start first.period c.args.watch (view_of old).start (view_of new).start
          (view_of old).period c.loop.report c.turn.new.report c.loop.watch c.watch.new.self c.loop.invariant.empty
          did.told c.loop.invariant.watched (search of_calls));
    }

pub returns-in-Over-clause-counted : goal.returns-in-Over-clause-counted
returns-in-Over-clause-counted g c =
    let s = c.args.standing.now in
    let layout = s.heap.key.layout in
    let first = view_of c.args.keeper in
    let old = c.loop.keeper in
    let new = c.turn.new.self in
    let did : HasFinished layout (lists_of s.heap.key.shapes) s.heap.table.shared.table_id old new c.loop.report
    c.turn.new.report =
    subst (HasTurned layout (lists_of s.heap.key.shapes) s.heap.table.shared.table_id s.hands.shared.table_id old new
    c.loop.report c.turn.new.report) c.in-Over.is c.in-Ok.ensures.turned in
    subst (HasCounted layout first.start (view_of new).seen first.period (open_count (view_of new).seen + 1))
    (sym c.add.ensures)
    (subst (λ (n : ℕ). HasCounted layout first.start (view_of new).seen first.period (n + 1)
    (with_lines (with_part c.loop.tally) c.turn.new.report.cycles)) (sym did.parts)
    (counts_turn layout first.start (view_of old).start (view_of new).seen first.period (view_of old).period
    c.loop.report c.turn.new.report c.loop.tally c.loop.invariant.empty did.told c.loop.invariant.counted))

pub returns-in-Over-clause-watched : goal.returns-in-Over-clause-watched
returns-in-Over-clause-watched g c =
    let s = c.args.standing.now in
    let layout = s.heap.key.layout in
    let first = view_of c.args.keeper in
    let old = c.loop.keeper in
    let new = c.turn.new.self in
    let did : HasFinished layout (lists_of s.heap.key.shapes) s.heap.table.shared.table_id old new c.loop.report
    c.turn.new.report =
    subst (HasTurned layout (lists_of s.heap.key.shapes) s.heap.table.shared.table_id s.hands.shared.table_id old new
    c.loop.report c.turn.new.report) c.in-Over.is c.in-Ok.ensures.turned in
    subst (λ (n : ℕ). HasWatched g.W.FnMut layout first.start (view_of new).seen first.period (n + 1) c.args.watch
    c.watch.new.self) (sym did.parts)
    (watched_turn g.W.FnMut layout first.start first.period c.args.watch (view_of old).start (view_of new).seen
    (view_of old).period c.loop.report c.turn.new.report c.loop.watch c.watch.new.self c.loop.invariant.empty
    did.told c.loop.invariant.watched (search of_calls))
