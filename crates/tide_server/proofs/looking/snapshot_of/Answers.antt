-- Why a snapshot may be taken of a heap that stands still, and of which state it is.
use Rattle.std.proofs.Common.{ℕ, ◌≡◌, List, arith, sym, ap, subst}
use Rattle.std.proofs.lemmas.Result.{IfOk-weaker}
use Rattle.std.specs.Prelude.{IfOk}
use Rattle.tide_model.specs.History.{state_after}
use Rattle.tide_model.specs.Layout.{Layout}
use Rattle.tide_model.specs.Refused.{ShapeLists}
use Rattle.tide_model.specs.State.{State}
use Rattle.tide_retained.proofs.ReadLaws.{shapes_of_reads}
use Rattle.tide_snapshot.specs.tide_retained.Contents.{HasKeysOf}
use Rattle.tide_snapshot.specs.tide_retained.Holding.{IsSnapshotOf}
use Rattle.tide_table.specs.declared.collector.Collector.{Collector}
use Rattle.tide_posts.specs.tide_heap.tide_words.heap.Heap.{heap_of}
use Rattle.tide_posts.specs.tide_heap.tide_words.heap.Reading.{ReadsAs}
use Rattle.tide_server.proofs.looking.snapshot_of.Goals as goal

-- what the words read as, under other names for all three
reads_alike : (layout l : Layout) (shapes s : ShapeLists) (words ws : List ℕ) (state : State) → l ≡ layout → s ≡ shapes → ws ≡ words →
    ReadsAs layout shapes (heap_of layout words) state → ReadsAs l s (heap_of l ws) state
reads_alike layout l shapes s words ws state one two three reads =
    subst (λ (x : Layout). ReadsAs x s (heap_of x ws) state) (sym one)
    (subst (λ (x : ShapeLists). ReadsAs layout x (heap_of layout ws) state) (sym two)
    (subst (λ (x : List ℕ). ReadsAs layout shapes (heap_of layout x) state) (sym three) reads))

pub frozen-frozen-requires : goal.frozen-frozen-requires
frozen-frozen-requires g c = record {
  own = c.requires.own;
  frozen = c.requires.still.frozen;
  long = c.requires.still.long;
  few = (let few = c.requires.still.few in omega (arith, few));
}

pub take-requires-clause-names : goal.take-requires-clause-names
take-requires-clause-names g c κs lives =
    let layout = c.args.heap.now.key.layout in
    let v = c.args.collector.now.seat.me.0 in
    shapes_of_reads _ _ _ (state_after layout v.seen)
    (reads_alike layout c.layout.result.now (g.S.ShapeTable.lists c.args.heap.now.key.shapes) (g.S.ShapeTable.lists c.shapes.result.now) v.words c.frozen-frozen.result.collector.now.seat.me.0.words
    (state_after layout v.seen) c.layout.ensures (ap g.S.ShapeTable.lists c.shapes.ensures) (ap (λ (x : Collector). x.seat.me.0.words) c.frozen-frozen.ensures.is)
    c.requires.still.wave.marking.reads)

pub returns-clause-snapshot : goal.returns-clause-snapshot
returns-clause-snapshot g c =
    let layout = c.args.heap.now.key.layout in
    let v = c.args.collector.now.seat.me.0 in
    let state = state_after layout v.seen in
    IfOk-weaker c.take.result _ _
    (λ snapshot is. subst (λ (l : Layout). IsSnapshotOf l state snapshot) c.layout.ensures
    (is state
    (reads_alike layout c.layout.result.now (g.S.ShapeTable.lists c.args.heap.now.key.shapes) (g.S.ShapeTable.lists c.shapes.result.now) v.words c.frozen-frozen.result.collector.now.seat.me.0.words
    state c.layout.ensures (ap g.S.ShapeTable.lists c.shapes.ensures) (ap (λ (x : Collector). x.seat.me.0.words) c.frozen-frozen.ensures.is) c.requires.still.wave.marking.reads)))
    c.take.ensures.snapshot

pub returns-clause-keys : goal.returns-clause-keys
returns-clause-keys g c = subst (λ (s : ShapeLists). IfOk c.take.result (HasKeysOf s)) (ap g.S.ShapeTable.lists c.shapes.ensures) c.take.ensures.keys
