-- Why the word that is loaded is the register's wherever its mutator may stand.
use Rattle.std.proofs.Common.{ℕ, ◌<◌, sym, ◌∙◌, ap, subst}
use Rattle.tide_heap.specs.tide_layout.Region.{index_of_register}
use Rattle.tide_heap.specs.tide_layout.declared.region.Region.TheVariants.{Registers}
use Rattle.tide_heap.specs.tide_core.declared.machine.view.View.{View}
use Rattle.tide_model.specs.Layout.{Layout}
use Rattle.tide_mutator.proofs.calls_laws.OwnRegister.{register_word}
use Rattle.tide_mutator.specs.calls.Owning.{OwnsAt, unread}
use Rattle.tide_mutator.proofs.calls.own.OwnPassOwnRegistersHeap.register.Goals as goal

pub returns-clause-word : goal.returns-clause-word
returns-clause-word g c = λ heap owns.
    let h = c.args.context.now in
    let layout = h.key.layout in
    let shapes = g.S.HeapShapes.lists h.key.shapes in
    let v = c.args.self.now.pass.seat.me.0 in
    let f = c.load_register.ensures.step.follows in
    let o = subst (λ (x : View). OwnsAt layout shapes x c.args._layout.now c.args._who heap) f.view owns.1 in
    register_word layout shapes v c.load_register.new.self.seat.me.0 heap o.log
    c.args.register c.load_register.result o.calm (subst (λ (l : Layout). v.who < l.mutators) o.same_layout
    (subst (λ (n : ℕ). n < c.args._layout.now.mutators) o.same_who c.requires.mutator))
    (subst (λ (l : Layout). c.args.register < l.registers) o.same_layout c.requires.of_layout)
    o.stands f
    ∙ ap (λ (l : Layout). heap Registers (index_of_register l v.who c.args.register)) (sym o.same_layout)
    ∙ ap (λ (n : ℕ). heap Registers (index_of_register c.args._layout.now n c.args.register)) (sym o.same_who)

pub returns-clause-owns : goal.returns-clause-owns
returns-clause-owns g c =
    let h = c.args.context.now in
    let layout = h.key.layout in
    let shapes = g.S.HeapShapes.lists h.key.shapes in
    let step = c.load_register.ensures.step in
    let view = step.follows.view in
    let (heap, owns) = c.requires.known in (
      (
        heap,
        (
          step.table ∙ owns.0,
          subst (λ (x : View). OwnsAt layout shapes x c.args._layout.now c.args._who heap) (sym view) owns.1,
        ),
      ),
      (λ other now. (
        sym step.table ∙ now.0,
        subst (λ (x : View). OwnsAt layout shapes x c.args._layout.now c.args._who other) view now.1,
      )),
      (λ i. (step.table i, step.seat i, unread (view i))),
    )
