-- Why the mutator may begin, call and stop, and what its note tells.
use Rattle.std.proofs.Common.{ℕ, ◌<◌, ◌∙◌, sym, ap, subst, arith}
use Rattle.tide.proofs.Parts.{has_begun, idle_then, in_part_kept, mutator_done}
use Rattle.tide.specs.tide_core.declared.machine.view.View.{View}
use Rattle.tide.specs.tide_mutator.calls.Viewed.{view_of}
use Rattle.tide.specs.tide_mutator.owed.Calling.{Kept}
use Rattle.embed_heap.proofs.visitor.working.make_calls.Goals as goal

pub begin-requires-clause-parked : goal.begin-requires-clause-parked
begin-requires-clause-parked g c =
    c.requires.idle.1.stopped

pub begin-requires-clause-stays : goal.begin-requires-clause-stays
begin-requires-clause-stays g c =
    c.requires.idle.1.stays

pub begin-requires-clause-later : goal.begin-requires-clause-later
begin-requires-clause-later g c =
    let period = c.requires.idle.1.period in
    let later = c.requires.idle.2 in
    omega (arith, period, later)

pub call_each-last-requires-clause-mutator : goal.call_each-last-requires-clause-mutator
call_each-last-requires-clause-mutator g c κs within =
    let begun = has_begun 0 (view_of c.args.mutator) c.args.ticket.seat.me.0 (view_of c.begin.new.self) c.requires.idle c.begin.ensures.begun in
    (let is = begun.part.is in let one = c.requires.one in omega (arith, is, one))

pub call_each-last-requires-clause-runs : goal.call_each-last-requires-clause-runs
call_each-last-requires-clause-runs g c κs within =
    let begun = has_begun 0 (view_of c.args.mutator) c.args.ticket.seat.me.0 (view_of c.begin.new.self) c.requires.idle c.begin.ensures.begun in
    begun.part.runs

pub call_each-last-requires-clause-stays : goal.call_each-last-requires-clause-stays
call_each-last-requires-clause-stays g c κs within =
    let begun = has_begun 0 (view_of c.args.mutator) c.args.ticket.seat.me.0 (view_of c.begin.new.self) c.requires.idle c.begin.ensures.begun in
    begun.part.stays

pub call_each-last-requires-clause-none : goal.call_each-last-requires-clause-none
call_each-last-requires-clause-none g c κs within =
    let begun = has_begun 0 (view_of c.args.mutator) c.args.ticket.seat.me.0 (view_of c.begin.new.self) c.requires.idle c.begin.ensures.begun in
    begun.born

pub stop-note-requires-clause-mutator : goal.stop-note-requires-clause-mutator
stop-note-requires-clause-mutator g c =
    let begun = has_begun 0 (view_of c.args.mutator) c.args.ticket.seat.me.0 (view_of c.begin.new.self) c.requires.idle c.begin.ensures.begun in
    let part = in_part_kept 0 c.args.ticket.seat.me.0.period (view_of c.begin.new.self) (view_of c.call_each-last.new.mutator) c.call_each-last.ensures.kept c.call_each-last.ensures.stays begun.part in
    (let is = part.is in let one = c.requires.one in omega (arith, is, one))

pub stop-note-requires-clause-begun : goal.stop-note-requires-clause-begun
stop-note-requires-clause-begun g c =
    let begun = has_begun 0 (view_of c.args.mutator) c.args.ticket.seat.me.0 (view_of c.begin.new.self) c.requires.idle c.begin.ensures.begun in
    let part = in_part_kept 0 c.args.ticket.seat.me.0.period (view_of c.begin.new.self) (view_of c.call_each-last.new.mutator) c.call_each-last.ensures.kept c.call_each-last.ensures.stays begun.part in
    part.runs

pub stop-note-requires-clause-of_part : goal.stop-note-requires-clause-of_part
stop-note-requires-clause-of_part g c =
    let begun = has_begun 0 (view_of c.args.mutator) c.args.ticket.seat.me.0 (view_of c.begin.new.self) c.requires.idle c.begin.ensures.begun in
    let part = in_part_kept 0 c.args.ticket.seat.me.0.period (view_of c.begin.new.self) (view_of c.call_each-last.new.mutator) c.call_each-last.ensures.kept c.call_each-last.ensures.stays begun.part in
    part.begun ∙ sym part.ticket

pub stop-note-requires-clause-once : goal.stop-note-requires-clause-once
stop-note-requires-clause-once g c =
    let begun = has_begun 0 (view_of c.args.mutator) c.args.ticket.seat.me.0 (view_of c.begin.new.self) c.requires.idle c.begin.ensures.begun in
    let part = in_part_kept 0 c.args.ticket.seat.me.0.period (view_of c.begin.new.self) (view_of c.call_each-last.new.mutator) c.call_each-last.ensures.kept c.call_each-last.ensures.stays begun.part in
    subst (λ (n : ℕ). (view_of c.call_each-last.new.mutator).period < n) (sym part.ticket) part.once

pub returns-clause-idle : goal.returns-clause-idle
returns-clause-idle g c =
    let begun = has_begun 0 (view_of c.args.mutator) c.args.ticket.seat.me.0 (view_of c.begin.new.self) c.requires.idle c.begin.ensures.begun in
    let part = in_part_kept 0 c.args.ticket.seat.me.0.period (view_of c.begin.new.self) (view_of c.call_each-last.new.mutator) c.call_each-last.ensures.kept c.call_each-last.ensures.stays begun.part in
    idle_then 0 c.args.ticket.seat.me.0.period (view_of c.call_each-last.new.mutator) (view_of c.stop-note.new.self) part c.stop-note.ensures.stopped

pub returns-clause-note : goal.returns-clause-note
returns-clause-note g c =
    let begun = has_begun 0 (view_of c.args.mutator) c.args.ticket.seat.me.0 (view_of c.begin.new.self) c.requires.idle c.begin.ensures.begun in
    let part = in_part_kept 0 c.args.ticket.seat.me.0.period (view_of c.begin.new.self) (view_of c.call_each-last.new.mutator) c.call_each-last.ensures.kept c.call_each-last.ensures.stays begun.part in
    mutator_done c.args.ticket.seat.me.0 (view_of c.call_each-last.new.mutator) c.stop-note.result.seat.me.0 part
    (ap (λ (k : Kept). k.visits) c.call_each-last.ensures.kept ∙ begun.visits) c.stop-note.ensures.note.1

pub returns-clause-unvisited : goal.returns-clause-unvisited
returns-clause-unvisited g c =
    let begun = has_begun 0 (view_of c.args.mutator) c.args.ticket.seat.me.0 (view_of c.begin.new.self) c.requires.idle c.begin.ensures.begun in
    ap (λ (x : View). x.visits) c.stop-note.ensures.note.1 ∙ ap (λ (k : Kept). k.visits) c.call_each-last.ensures.kept ∙ begun.visits
