-- What a turn with a snapshot answers.
use Rattle.std.proofs.Common.{◌∙◌, sym, ap, List, Bool, false, not, get_or}
use Rattle.std.proofs.lemmas.Result.{IfOk-weaker}
use Rattle.tide_model.specs.Layout.{Layout}
use Rattle.tide_model.specs.Numbers.{any_below}
use Rattle.tide_posts.specs.Among.{times}
use Rattle.tide_posts.specs.Name.{Name}
use Rattle.tide_posts.specs.declared.handed.HandedIn.{HandedIn}
use Rattle.tide_posts.specs.tide_hands.declared.keeper.KeeperSeat.{KeeperSeat}
use Rattle.tide_posts.specs.tide_heap.declared.steps.notes.Ticket.{Ticket}
use Rattle.tide_server.proofs.Ending.{is_forced-here}
use Rattle.tide_server.proofs.Freezes.{MakesPeriod-frozen, OpensPart-frozen, period_is}
use Rattle.tide_server.proofs.GoneOn.{HasSnapshot-on, HasTurned-on}
use Rattle.tide_server.specs.Keepers.{has_left}
use Rattle.tide_server.proofs.keeper.Keeper.end_part_and_look.Goals as goal

pub returns-clause-turned : goal.returns-clause-turned
returns-clause-turned g c =
    let s = c.args.standing.now in
    let layout = s.heap.key.layout in
    let heap = s.heap.table.shared.table_id in
    let hands = s.hands.shared.table_id in
    let shapes = g.S.ShapeTable.lists s.heap.key.shapes in
    let k = c.args.self.now in
    let new = c.freeze_and_look-run.new.self in
    let run = c.freeze_and_look-run.result.0 in
    let did = c.freeze_and_look-run.ensures.frozen in
    let forces = c.is_forced-is_forced.result in
    let goes = c.is_any_active-goes_on.ensures ∙ ap (λ (l : Layout). any_below (λ who. not (get_or k.left who false)) l.mutators) c.layout.ensures in
    let forced = c.is_forced-is_forced.ensures
    ∙ is_forced-here layout shapes heap hands k c.requires.stands c.requires.all did.stopped did.freezes c.is_any_active-goes_on.result goes in
    let makes = MakesPeriod-frozen layout shapes heap hands k c.requires.stands c.requires.all forces run new c.args.report.now c.freeze_and_look-run.new.report did forced in
    let same = c.freeze_and_look-run.ensures.same in
    HasTurned-on layout shapes heap hands k c.requires.stands c.requires.all forces run new c.args.report.now c.freeze_and_look-run.new.report did
    c.is_any_active-goes_on.result goes makes c.freeze_and_look-run.ensures.pacing c.freeze_and_look-run.ensures.seat same.2 same.3
    c.go_on.new.self c.go_on.ensures.books c.go_on.ensures.of c.go_on.result c.go_on.ensures.went_on

pub returns-clause-snapshot : goal.returns-clause-snapshot
returns-clause-snapshot g c =
    let s = c.args.standing.now in
    let layout = s.heap.key.layout in
    let heap = s.heap.table.shared.table_id in
    let hands = s.hands.shared.table_id in
    let shapes = g.S.ShapeTable.lists s.heap.key.shapes in
    let k = c.args.self.now in
    let new = c.freeze_and_look-run.new.self in
    let run = c.freeze_and_look-run.result.0 in
    let did = c.freeze_and_look-run.ensures.frozen in
    let forces = c.is_forced-is_forced.result in
    let goes = c.is_any_active-goes_on.ensures ∙ ap (λ (l : Layout). any_below (λ who. not (get_or k.left who false)) l.mutators) c.layout.ensures in
    let forced = c.is_forced-is_forced.ensures
    ∙ is_forced-here layout shapes heap hands k c.requires.stands c.requires.all did.stopped did.freezes c.is_any_active-goes_on.result goes in
    let makes = MakesPeriod-frozen layout shapes heap hands k c.requires.stands c.requires.all forces run new c.args.report.now c.freeze_and_look-run.new.report did forced in
    let same = c.freeze_and_look-run.ensures.same in
    IfOk-weaker c.freeze_and_look-run.result.1 _ _
    (λ snapshot. HasSnapshot-on layout shapes heap hands k c.requires.stands c.requires.all forces run new c.args.report.now
    c.freeze_and_look-run.new.report did c.is_any_active-goes_on.result goes makes c.freeze_and_look-run.ensures.pacing
    c.freeze_and_look-run.ensures.seat same.2 same.3 c.go_on.new.self c.go_on.ensures.books c.go_on.ensures.of
    c.go_on.result snapshot c.go_on.ensures.went_on)
    c.freeze_and_look-run.ensures.snapshot

pub go_on-requires-clause-rounds : goal.go_on-requires-clause-rounds
go_on-requires-clause-rounds g c = λ place below isnt.
    let s = c.args.standing.now in
    let layout = s.heap.key.layout in
    let k = c.args.self.now in
    ap (λ (q : KeeperSeat Ticket HandedIn Name). times place q.seat.me.0.tickets) c.freeze_and_look-run.ensures.seat
    ∙ c.requires.stands.rounds place below (ap (λ (l : List Bool). has_left layout l place) (sym c.freeze_and_look-run.ensures.same.2) ∙ isnt)
    ∙ sym (period_is layout (g.S.ShapeTable.lists s.heap.key.shapes) s.heap.table.shared.table_id s.hands.shared.table_id k
    c.requires.stands c.requires.all c.is_forced-is_forced.result c.freeze_and_look-run.result.0 c.freeze_and_look-run.new.self c.args.report.now
    c.freeze_and_look-run.new.report c.freeze_and_look-run.ensures.frozen)

pub go_on-requires-clause-periods : goal.go_on-requires-clause-periods
go_on-requires-clause-periods g c =
    let s = c.args.standing.now in
    let layout = s.heap.key.layout in
    let heap = s.heap.table.shared.table_id in
    let hands = s.hands.shared.table_id in
    let shapes = g.S.ShapeTable.lists s.heap.key.shapes in
    let k = c.args.self.now in
    let new = c.freeze_and_look-run.new.self in
    let run = c.freeze_and_look-run.result.0 in
    let did = c.freeze_and_look-run.ensures.frozen in
    let forces = c.is_forced-is_forced.result in
    let goes = c.is_any_active-goes_on.ensures ∙ ap (λ (l : Layout). any_below (λ who. not (get_or k.left who false)) l.mutators) c.layout.ensures in
    let forced = c.is_forced-is_forced.ensures
    ∙ is_forced-here layout shapes heap hands k c.requires.stands c.requires.all did.stopped did.freezes c.is_any_active-goes_on.result goes in
    OpensPart-frozen layout shapes heap hands k c.requires.stands c.requires.all forces run new c.args.report.now
    c.freeze_and_look-run.new.report did (MakesPeriod-frozen layout shapes heap hands k c.requires.stands c.requires.all
    forces run new c.args.report.now c.freeze_and_look-run.new.report did forced)
