-- Why a participant may stop.
use Rattle.std.proofs.Common.{◌≡◌, ◌<◌, ◌∙◌, sym, subst, ap, ℕ}
use Rattle.tide_core.specs.tide_layout.Region.{place_in, size_of, word_count}
use Rattle.tide_core.specs.tide_layout.declared.region.Region.TheVariants as region
use Rattle.tide_core.specs.machine.Kind.{index_of_stopped}
use Rattle.tide_model.specs.Layout.{Layout}
use Rattle.tide_heap.proofs.steps_laws.BeginsAndStops.{ends}
use Rattle.tide_heap.proofs.steps.pass.Pass.store_stopped.Goals as goal

pub store-requires : goal.store-requires
store-requires g c =
    let h = c.args.heap.now in
    let seat = c.args.self.now.seat in
    let layout = h.table.shared.key.layout in
    let shapes = g.S.HeapShapes.lists h.table.shared.key.shapes in
    let who = seat.me.0.who in
    let index = c.stopped_index-index.ensures.index ∙ ap (index_of_stopped h.key.layout) c.args.self.now.tied.who in (
      c.requires.own,
      subst (λ (n : ℕ). c.place-at.result < n) (ap word_count c.layout.ensures ∙ sym h.sized) c.place-at.ensures.within,
      ends layout shapes h.table.shared.table_id.slots seat.id seat.me c.place-at.result c.from-part.result
          c.args.self.now.member c.requires.runs c.requires.owes_nothing
          (c.place-at.ensures.place ∙ ap (λ (x : Layout). place_in x region.Stopped c.stopped_index-index.result) c.layout.ensures
          ∙ ap (place_in h.key.layout region.Stopped) index
          ∙ ap (λ (x : Layout). place_in x region.Stopped (index_of_stopped x who)) h.same_layout)
          (subst (λ (x : Layout). index_of_stopped x who < size_of x region.Stopped) h.same_layout
          (subst (λ (n : ℕ). n < size_of h.key.layout region.Stopped) index c.stopped_index-index.ensures.within))
          (let part = c.args.self.now.tied.part in let same : c.from-part.result ≡ seat.me.0.ticket = cc in same),
    )
