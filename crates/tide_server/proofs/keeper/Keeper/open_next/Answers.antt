-- Why the next part may be opened, and what its tickets tell.
use Rattle.std.proofs.Common.{sym, ap, arith, subst}
use Rattle.tide_posts.proofs.tide_heap.tide_core.machine_laws.freezes.Entering.{FrozenWave-of}
use Rattle.tide_posts.specs.Posts.{TicketTells}
use Rattle.tide_posts.specs.tide_heap.tide_core.declared.machine.view.View.{View}
use Rattle.tide_posts.specs.tide_heap.tide_core.machine.Frozen.{FrozenWith}
use Rattle.tide_posts.specs.tide_heap.tide_words.heap.Heap.{heap_of}
use Rattle.tide_server.proofs.Freezes.{TicketTells-opened}
use Rattle.tide_table.proofs.Standing.{blacks_stay}
use Rattle.tide_server.proofs.keeper.Keeper.open_next.Goals as goal

pub open-requires : goal.open-requires
open-requires g c =
    let key = c.args.standing.now.heap.key in
    let layout = key.layout in
    let shapes = g.S.HeapShapes.lists key.shapes in
    let v = c.args.self.now.collector.seat.me.0 in
    let s = c.requires.still in
    let wave = subst (FrozenWith layout shapes (heap_of layout v.words) v.seen) c.requires.entered s.wave in
    record {
      own = c.requires.of.table;
      frozen = s.frozen;
      wave = FrozenWave-of layout shapes (heap_of layout v.words) v.seen wave;
      swept = wave.swept;
      told = wave.swept_told;
      clean = wave.clean;
      stopped = s.stopped;
      may = c.requires.may;
      entered = c.requires.entered;
      blacks = blacks_stay layout shapes v s;
    }

pub hand_out-requires-clause-running : goal.hand_out-requires-clause-running
hand_out-requires-clause-running g c = ap (λ (v : View). v.frozen) c.in-Ok.ensures.opened

pub hand_out-requires-clause-tells : goal.hand_out-requires-clause-tells
hand_out-requires-clause-tells g c =
    let key = c.args.standing.now.heap.key in
    subst (TicketTells key.layout) (sym c.in-Ok.ensures.opened)
    (TicketTells-opened key.layout (g.S.HeapShapes.lists key.shapes) c.args.self.now.collector.seat.me.0 c.args.run
    c.requires.still c.requires.some c.requires.periods)

pub hand_out-requires-clause-rounds : goal.hand_out-requires-clause-rounds
hand_out-requires-clause-rounds g c = λ place below isnt.
    let were = c.requires.rounds place below isnt in
    let period = ap (λ (v : View). v.period) c.in-Ok.ensures.opened in
    omega (arith, were, period)
