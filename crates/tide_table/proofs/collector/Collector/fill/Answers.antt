-- Why the places so far hold the word.
use Rattle.std.proofs.Common.{ℕ, ◌∙◌, refl, ap, arith}
use Rattle.tide_heap.specs.tide_layout.Region.{place_in}
use Rattle.tide_model.specs.Layout.{Layout}
use Rattle.tide_table.proofs.Starting.{filled_none, filled_more}
use Rattle.tide_heap.specs.Turns.{restored}
use Rattle.tide_table.proofs.collector.Collector.fill.Goals as goal

pub loop-index-init : goal.loop-index-init
loop-index-init g c = record {
  own = c.requires.own;
  id = refl;
  filled = filled_none c.args.heap.now.key.layout c.args.region c.args.word c.args.self.now.seat.me.0;
}

pub loop-index-preserved : goal.loop-index-preserved
loop-index-preserved g c =
    let inv = c.loop-index.invariant in record {
      own = c.store.ensures.same.0 ∙ inv.own;
      id = c.store.ensures.same.1 ∙ inv.id;
      filled = filled_more c.args.heap.now.key.layout c.args.region c.args.word c.loop-index.index c.args.self.now.seat.me.0
          c.loop-index.self.seat.me.0 c.store.new.self.seat.me.0 c.requires.long (omega arith) inv.filled
          (c.store.ensures.word
          ∙ ap (λ (at : ℕ). restored at c.args.word c.loop-index.self.seat.me.0) (c.place-at.ensures.place
          ∙ ap (λ (l : Layout). place_in l c.args.region c.loop-index.index) c.layout.ensures));
    }
