-- What visitors told is added up where a cycle marks.
use Rattle.std.proofs.Common.{◌≡◌, ◌∙◌, Bool, [], ap, sym, true}
use Rattle.std.specs.Prelude.{if◌then◌else◌, sum}
use Rattle.tide_model.specs.Freeze.{marks_after}
use Rattle.tide_table.proofs.ForeseenLaws.{unentered-told}
use Rattle.tide_table.specs.VisitsTold.{visits_told}
use Rattle.tide_table.proofs.foreseeing.visited.Goals as goal

pub visits_told-requires : goal.visits_told-requires
visits_told-requires g c = record { told = c.requires.visits.marked (sym c.requires.marks ∙ c.if-marks.true) }

pub returns-then-marks : goal.returns-then-marks
returns-then-marks g c =
    let layout = c.args.heap.now.key.layout in
    let v = c.args.collector.now.seat.me.0 in
    let marks : marks_after layout v.seen ≡ true = sym c.requires.marks ∙ c.if-marks.true in
    c.visits_told.ensures ∙ unentered-told layout v.run v.visited (c.requires.visits.marked marks)
    ∙ ap (λ (b : Bool). sum (if b then visits_told v.visited 0 layout.visitors else [])) (sym marks)

pub returns-else-marks : goal.returns-else-marks
returns-else-marks g c =
    let layout = c.args.heap.now.key.layout in
    let v = c.args.collector.now.seat.me.0 in
    ap (λ (b : Bool). sum (if b then visits_told v.visited 0 layout.visitors else []))
    (sym c.if-marks.false ∙ c.requires.marks)
