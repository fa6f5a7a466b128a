-- Why a participant may hand out its note, and that it tells rightly whether the participant has done its part.
use Rattle.std.proofs.Common.{◌≡◌, ◌∙◌, subst, sym, Bool, true, false}
use Rattle.std.specs.Prelude.{◌||◌, ◌↔◌}
use Rattle.tide_heap.specs.Done.{HasDonePart, done_by_numbers}
use Rattle.tide_core.specs.machine.Progress.{HasWholeRound}
use Rattle.tide_model.specs.Layout.{Layout}
use Rattle.tide_heap.proofs.steps_laws.BeginsAndStops.{notes, tells_done, zero_below}
use Rattle.tide_heap.proofs.steps.pass.Pass.split.Goals as goal
use Rattle.tide_heap.proofs.steps.pass.Pass.split.Goals.{then-done, else-done}

pub split_seat-seat-requires : goal.split_seat-seat-requires
split_seat-seat-requires g c =
    let h = c.args.heap.now in
    let seat = c.args.self.now.seat in
    let whole = c.args.whole in
    let shapes = g.S.HeapShapes.lists h.table.shared.key.shapes in (
      c.requires.own,
      zero_below h.key.layout h.table.shared.table_id.words h.sized,
      notes h.table.shared.key.layout shapes seat.id seat.me.0 c.args.self.now.member c.requires.stopped
          c.requires.began c.requires.once whole
          (subst (λ (x : Layout). done_by_numbers seat.me.0 ≡ false → ((whole ≡ true) ↔ HasWholeRound x seat.me.0))
          h.same_layout c.requires.round)
          true (sym c.if-done.true ∙ c.has_done-done.ensures),
    )

pub split_seat-seat-requires-else-done : goal.split_seat-seat-requires-else-done
split_seat-seat-requires-else-done g c =
    let h = c.args.heap.now in
    let seat = c.args.self.now.seat in
    let whole = c.args.whole in
    let shapes = g.S.HeapShapes.lists h.table.shared.key.shapes in (
      c.requires.own,
      zero_below h.key.layout h.table.shared.table_id.words h.sized,
      notes h.table.shared.key.layout shapes seat.id seat.me.0 c.args.self.now.member c.requires.stopped
          c.requires.began c.requires.once whole
          (subst (λ (x : Layout). done_by_numbers seat.me.0 ≡ false → ((whole ≡ true) ↔ HasWholeRound x seat.me.0))
          h.same_layout c.requires.round)
          false (sym c.if-done.false ∙ c.has_done-done.ensures),
    )

pub returns-clause-done : goal.returns-clause-done
returns-clause-done g c =
    let layout = c.args.heap.now.key.layout in
    let v = c.args.self.now.seat.me.0 in
    let same : c.if-done.seat.me.0.done ≡ (done_by_numbers v || c.args.whole) = elim c.if-done.branch [
      | then-done w ↦
          let note : c.if-done.seat.me.0.done ≡ w.split_seat-seat.result.me.0.done = (λ i. (w.seat-is i).me.0.done) in
          let done : w.split_seat-seat.result.me.0.done ≡ true = (λ i. (w.split_seat-seat.ensures.4 i).0.done) in
          note ∙ done ∙ sym w.if-done.true ∙ c.has_done-done.ensures
      | else-done w ↦
          let note : c.if-done.seat.me.0.done ≡ w.split_seat-seat-else-done.result.me.0.done =
          (λ i. (w.seat-is i).me.0.done) in
          let done : w.split_seat-seat-else-done.result.me.0.done ≡ false =
          (λ i. (w.split_seat-seat-else-done.ensures.4 i).0.done) in
          note ∙ done ∙ sym w.if-done.false ∙ c.has_done-done.ensures
    ] in
    subst (λ (b : Bool). (b ≡ true) ↔ HasDonePart layout v) (sym same)
    (tells_done layout v c.args.whole c.requires.round)
