-- Why a closed heap's history is lawful, and its mutators have retired.
use Rattle.std.proofs.Common.{◌≡◌, ℕ, ◌<◌, ◌∙◌, List, inl, sym, subst, ap, false}
use Rattle.std.specs.Slots.{slots_items}
use Rattle.tide_heap.specs.tide_core.declared.machine.view.View.{View}
use Rattle.tide_model.specs.History.{state_after}
use Rattle.tide_model.specs.Lawful.{IsLawful}
use Rattle.tide_model.specs.Layout.{Layout}
use Rattle.tide_model.specs.Refused.{ShapeLists}
use Rattle.tide_heap.proofs.steps_laws.BeginsAndStops.{zero_below}
use Rattle.tide_table.proofs.Tabled.{tickets, closes}
use Rattle.tide_heap.specs.Parties.{In}
use Rattle.tide_table.proofs.collector.Collector.close.Goals as goal

pub split_seat-copy-requires : goal.split_seat-copy-requires
split_seat-copy-requires g c =
    let h = c.args.heap in
    let seat = c.args.self.seat in (
      c.requires.own,
      zero_below h.key.layout h.table.shared.table_id.words h.sized,
      tickets h.table.shared.key.layout (g.S.HeapShapes.lists h.table.shared.key.shapes) seat.id seat.me.0
          c.args.self.collects,
    )

pub returns-clause-lawful : goal.returns-clause-lawful
returns-clause-lawful g c =
    let h = c.args.heap in
    let e = c.split_seat-copy.ensures in
    let f = c.close_with.ensures.values in
    let v = c.split_seat-copy.new.seat.me.0 in
    let same : v ≡ c.args.self.seat.me.0 = ap (λ (m : View × List (ℕ × Unit {0})). m.0) e.2 in
    let closed = closes h.table.shared.key.layout (g.S.HeapShapes.lists h.table.shared.key.shapes)
    c.split_seat-copy.new.seat.id v (slots_items c.close_with.result.words) (slots_items c.close_with.result.slots)
    (ap (λ (x : View). x.role) same ∙ c.args.self.collects) (ap (λ (x : View). x.frozen) same ∙ c.requires.frozen)
    f.2 in
    subst (λ (x : Layout × ShapeLists). IsLawful x.0 x.1 c.args.self.seat.me.0.seen)
    (λ i. ((sym h.same_layout) i, (ap g.S.HeapShapes.lists (sym h.same_shapes)) i))
    (subst (λ (x : View). IsLawful h.table.shared.key.layout (g.S.HeapShapes.lists h.table.shared.key.shapes) x.seen) same
    closed.lawful)

pub returns-clause-retired : goal.returns-clause-retired
returns-clause-retired g c =
    let h = c.args.heap in
    let e = c.split_seat-copy.ensures in
    let f = c.close_with.ensures.values in
    let v = c.split_seat-copy.new.seat.me.0 in
    let same : v ≡ c.args.self.seat.me.0 = ap (λ (m : View × List (ℕ × Unit {0})). m.0) e.2 in
    let closed = closes h.table.shared.key.layout (g.S.HeapShapes.lists h.table.shared.key.shapes)
    c.split_seat-copy.new.seat.id v (slots_items c.close_with.result.words) (slots_items c.close_with.result.slots)
    (ap (λ (x : View). x.role) same ∙ c.args.self.collects) (ap (λ (x : View). x.frozen) same ∙ c.requires.frozen)
    f.2 in
    λ i below. subst (λ (x : Layout). (state_after x c.args.self.seat.me.0.seen).active i ≡ false) (sym h.same_layout)
    (subst (λ (x : View). (state_after h.table.shared.key.layout x.seen).active i ≡ false) same
    (closed.retired i (inl (subst (λ (x : Layout). i < x.mutators) h.same_layout below))
    (subst (λ (x : View). In i x.gone) (sym same) (c.requires.gone i below))))
