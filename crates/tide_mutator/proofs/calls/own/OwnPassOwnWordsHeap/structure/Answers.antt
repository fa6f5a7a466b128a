-- Why the word that is loaded is known from then on.
use Rattle.std.proofs.Common.{ℕ, refl, ◌∙◌, sym, subst, ap}
use Rattle.tide_heap.specs.tide_layout.declared.region.Region.TheVariants.{Structure}
use Rattle.tide_model.specs.Layout.{Layout}
use Rattle.tide_mutator.proofs.calls_laws.OwnWords.{is_read_there, may_load_structure, narrows, structure_owned, unread_same, within}
use Rattle.tide_mutator.proofs.calls.own.OwnPassOwnWordsHeap.structure.Goals as goal

pub load_own_structure-requires-clause-within : goal.load_own_structure-requires-clause-within
load_own_structure-requires-clause-within g c =
    let h = c.args.context.now in
    let layout = h.key.layout in
    let shapes = g.S.HeapShapes.lists h.key.shapes in
    let v = c.args.self.now.pass.seat.me.0 in
    let (heap, owns) = c.requires.known in
    within layout shapes v c.args._layout.now c.args._who heap owns.1
    c.requires.mutator c.args.cell c.requires.of_layout (c.requires.claimed heap owns)

pub load_own_structure-requires-clause-may : goal.load_own_structure-requires-clause-may
load_own_structure-requires-clause-may g c =
    let h = c.args.context.now in
    let layout = h.key.layout in
    let shapes = g.S.HeapShapes.lists h.key.shapes in
    let v = c.args.self.now.pass.seat.me.0 in
    let (heap, owns) = c.requires.known in
    record {
      own = owns.0;
      runs = owns.1.runs;
      may = may_load_structure layout shapes v c.args._layout.now c.args._who heap owns.1
          c.requires.mutator c.args.cell c.requires.of_layout (c.requires.claimed heap owns);
    }

pub returns-clause-word : goal.returns-clause-word
returns-clause-word g c = λ heap owns.
    let h = c.args.context.now in
    let layout = h.key.layout in
    let shapes = g.S.HeapShapes.lists h.key.shapes in
    let v = c.args.self.now.pass.seat.me.0 in
    let u = c.load_own_structure.new.self.seat.me.0 in
    let f = c.load_own_structure.ensures.step.follows in
    sym (is_read_there layout shapes v u Structure c.args.cell c.load_own_structure.result f.view refl
    c.args._layout.now c.args._who heap owns.1)

pub returns-clause-owns : goal.returns-clause-owns
returns-clause-owns g c =
    let h = c.args.context.now in
    let layout = h.key.layout in
    let shapes = g.S.HeapShapes.lists h.key.shapes in
    let v = c.args.self.now.pass.seat.me.0 in
    let u = c.load_own_structure.new.self.seat.me.0 in
    let f = c.load_own_structure.ensures.step.follows in
    let (heap, owns) = c.requires.known in
    let step = c.load_own_structure.ensures.step in (
      (
        f.moment.settled,
        (
          step.table ∙ owns.0,
          structure_owned layout shapes v c.args._layout.now c.args._who heap owns.1
              c.requires.mutator c.args.cell c.requires.of_layout (c.requires.claimed heap owns) u c.load_own_structure.result f,
        ),
      ),
      (λ other now. (
        sym step.table ∙ now.0,
        narrows layout shapes v u Structure c.args.cell c.load_own_structure.result f.view c.args._layout.now
            c.args._who other now.1,
      )),
      (λ i. (step.table i, step.seat i, unread_same layout shapes v u Structure c.args.cell c.load_own_structure.result f.view i)),
    )
