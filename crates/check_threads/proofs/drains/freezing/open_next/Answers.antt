-- What a pause left is what the opening asks.
use Rattle.std.proofs.Common.{ℕ, Bool, sym, ◌∙◌, ap}
use Rattle.tide_heap.proofs.tide_core.machine_laws.freezes.Entering.{FrozenWave-of}
use Rattle.tide_heap.specs.tide_words.heap.Heap.{heap_of}
use Rattle.check_threads.proofs.drains.freezing.open_next.Goals as goal

pub open-requires-clause-wave : goal.open-requires-clause-wave
open-requires-clause-wave g c =
    let h = c.args.heap.now in
    let v = c.args.collector.now.seat.me.0 in
    FrozenWave-of h.key.layout (g.S.HeapShapes.lists h.key.shapes) (heap_of h.key.layout v.words) v.seen
    c.requires.freeze.wave

pub open-requires-clause-swept : goal.open-requires-clause-swept
open-requires-clause-swept g c = c.requires.freeze.wave.swept

pub open-requires-clause-clean : goal.open-requires-clause-clean
open-requires-clause-clean g c = c.requires.freeze.wave.clean

pub open-requires-clause-told : goal.open-requires-clause-told
open-requires-clause-told g c = c.requires.freeze.wave.swept_told

pub open-requires-clause-stopped : goal.open-requires-clause-stopped
open-requires-clause-stopped g c = c.requires.freeze.stopped

pub open-requires-clause-blacks : goal.open-requires-clause-blacks
open-requires-clause-blacks g c = λ some cell within was.
    ap (λ (black : ℕ → Bool). black cell) (sym c.requires.freeze.blacks) ∙ was

pub open-requires-clause-may : goal.open-requires-clause-may
open-requires-clause-may g c = λ marks visitors. (c.requires.some, c.requires.shared)
