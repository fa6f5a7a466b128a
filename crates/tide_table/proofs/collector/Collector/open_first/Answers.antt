-- A heap that has started may be opened.
use Rattle.std.proofs.Common.{◌≡◌, sym, ◌∙◌, ap, subst, true, false, List, []}
use Rattle.tide_heap.specs.tide_core.wave.FrozenWave.{FrozenWave}
use Rattle.tide_heap.proofs.tide_freeze.BookLaws.{IsSwept-none}
use Rattle.tide_heap.proofs.tide_freeze.FrozenLaws.{marks-same}
use Rattle.tide_heap.specs.tide_core.machine.points.Sweeps.{SweptAreTold, TakenAreClean}
use Rattle.tide_model.specs.History.{state_after}
use Rattle.tide_model.specs.declared.entry.Event.{Event}
use Rattle.tide_table.specs.VisitsTold.{unentered}
use Rattle.tide_heap.specs.tide_words.heap.Heap.{heap_of}
use Rattle.tide_table.proofs.collector.Collector.open_first.Goals as goal

pub open-requires : goal.open-requires
open-requires g c =
    let s = c.requires.started in
    let layout = c.args.heap.now.key.layout in
    let shapes = g.S.HeapShapes.lists c.args.heap.now.key.shapes in
    let heap = heap_of layout c.args.self.now.seat.me.0.words in
    record {
      own = c.requires.own;
      frozen = s.frozen;
      wave = subst (λ (h : List Event). FrozenWave layout shapes heap h) (sym s.seen) s.wave;
      swept = s.swept;
      told = subst (SweptAreTold layout heap) (sym s.seen) s.told;
      clean = subst (λ (h : List Event). TakenAreClean layout heap (state_after layout h)) (sym s.seen)
          (λ block within taken. IsSwept-none layout block);
      stopped = s.stopped;
      entered = ap unentered s.visited;
      blacks = s.blacks;
      may = λ marks visitors. absurd (let clash : false ≡ true = marks-same layout shapes heap [] s.wave ∙ marks in cc);
    }
