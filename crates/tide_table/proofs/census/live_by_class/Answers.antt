-- Why these are the cells of each class that live after the history.
use Rattle.std.proofs.Common.{◌∙◌, sym, ap, arith}
use Rattle.tide_heap.specs.tide_words.heap.Heap.{heap_of}
use Rattle.tide_heap.specs.tide_words.heap.Live.{is_live_at}
use Rattle.tide_model.specs.History.{state_after}
use Rattle.tide_model.specs.Layout.{Layout}
use Rattle.tide_model.specs.State.{is_live}
use Rattle.tide_table.proofs.ClassCounts.{count_in_class-same}
use Rattle.tide_table.specs.Census.{count_in_class}
use Rattle.tide_table.specs.declared.collector.Collector.{Collector}
use Rattle.tide_table.proofs.census.live_by_class.Goals as goal

pub frozen-frozen-requires : goal.frozen-frozen-requires
frozen-frozen-requires g c = record {
  own = c.requires.own;
  frozen = c.requires.still.frozen;
  long = c.requires.still.long;
  few = (let few = c.requires.still.few in omega (arith, few));
}

pub returns-clause-live : goal.returns-clause-live
returns-clause-live g c class below =
    let layout = c.args.heap.now.key.layout in
    let v = c.args.collector.now.seat.me.0 in
    let still = c.requires.still in
    c.count_classes.ensures.count class below
    ∙ ap (λ (l : Layout). count_in_class (is_live_at (heap_of l c.frozen-frozen.result.collector.now.seat.me.0.words)) l class) c.layout.ensures
    ∙ ap (λ (x : Collector). count_in_class (is_live_at (heap_of layout x.seat.me.0.words)) layout class) c.frozen-frozen.ensures.is
    ∙ count_in_class-same (is_live_at (heap_of layout v.words)) (λ cell. is_live ((state_after layout v.seen).cells cell).status) layout class
    still.limits.five_cell_classes below (λ cell within. ap is_live (sym (still.wave.marking.reads.parts.cells cell within).status))
