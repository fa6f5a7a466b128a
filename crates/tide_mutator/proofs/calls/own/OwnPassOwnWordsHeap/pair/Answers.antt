-- Why the word that is loaded is known from then on.
use Rattle.std.proofs.Common.{ℕ, refl, ◌∙◌, sym, subst, ap}
use Rattle.tide_heap.specs.tide_layout.Region.{place_of_slot}
use Rattle.tide_heap.specs.tide_layout.Slots.{HasSlot, index_of_slot}
use Rattle.tide_heap.specs.tide_layout.declared.region.Region.TheVariants.{Slots}
use Rattle.tide_model.specs.Layout.{Layout}
use Rattle.tide_mutator.proofs.calls_laws.OwnWords.{is_read_there, may_load_pair, narrows, pair_owned, unread_same, within}
use Rattle.tide_mutator.proofs.calls.own.OwnPassOwnWordsHeap.pair.Goals as goal

pub load_pair_at-requires-clause-within : goal.load_pair_at-requires-clause-within
load_pair_at-requires-clause-within g c =
    let (heap, owns) = c.requires.known in
    subst (λ (l : Layout). HasSlot l c.args.table c.args.place) owns.1.same_layout c.requires.of_layout

pub load_pair_at-requires-clause-at : goal.load_pair_at-requires-clause-at
load_pair_at-requires-clause-at g c =
    let (heap, owns) = c.requires.known in
    c.requires.at ∙ ap (λ (l : Layout). place_of_slot l c.args.table c.args.place) owns.1.same_layout

pub load_pair_at-requires-clause-may : goal.load_pair_at-requires-clause-may
load_pair_at-requires-clause-may g c =
    let h = c.args.context.now in
    let layout = h.key.layout in
    let shapes = g.S.HeapShapes.lists h.key.shapes in
    let v = c.args.self.now.pass.seat.me.0 in
    let (heap, owns) = c.requires.known in
    record {
      own = owns.0;
      runs = owns.1.runs;
      may = may_load_pair layout shapes v c.args._layout.now c.args._who heap owns.1
          c.requires.mutator c.args.table c.requires.of_layout.cell_within (c.requires.claimed heap owns) c.args.place c.requires.table c.requires.of_layout;
    }

pub returns-clause-word : goal.returns-clause-word
returns-clause-word g c = λ heap owns.
    let h = c.args.context.now in
    let layout = h.key.layout in
    let shapes = g.S.HeapShapes.lists h.key.shapes in
    let v = c.args.self.now.pass.seat.me.0 in
    let u = c.load_pair_at.new.self.seat.me.0 in
    let f = c.load_pair_at.ensures.step.follows in
    sym (is_read_there layout shapes v u Slots (index_of_slot h.key.layout c.args.table c.args.place) c.load_pair_at.result
    f.view refl c.args._layout.now c.args._who heap owns.1)
    ∙ ap (λ (l : Layout). heap Slots (index_of_slot l c.args.table c.args.place)) (sym owns.1.same_layout)

pub returns-clause-owns : goal.returns-clause-owns
returns-clause-owns g c =
    let h = c.args.context.now in
    let layout = h.key.layout in
    let shapes = g.S.HeapShapes.lists h.key.shapes in
    let v = c.args.self.now.pass.seat.me.0 in
    let u = c.load_pair_at.new.self.seat.me.0 in
    let f = c.load_pair_at.ensures.step.follows in
    let (heap, owns) = c.requires.known in
    let step = c.load_pair_at.ensures.step in (
      (
        f.moment.settled,
        (
          step.table ∙ owns.0,
          pair_owned layout shapes v c.args._layout.now c.args._who heap owns.1
              c.requires.mutator c.args.table c.requires.of_layout.cell_within (c.requires.claimed heap owns) u c.load_pair_at.result c.args.place c.requires.table c.requires.of_layout f,
        ),
      ),
      (λ other now. (
        sym step.table ∙ now.0,
        narrows layout shapes v u Slots (index_of_slot h.key.layout c.args.table c.args.place) c.load_pair_at.result f.view c.args._layout.now
            c.args._who other now.1,
      )),
      (λ i. (step.table i, step.seat i, unread_same layout shapes v u Slots (index_of_slot h.key.layout c.args.table c.args.place) c.load_pair_at.result f.view i)),
    )
