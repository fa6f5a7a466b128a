-- Why the visitor may begin, drain and stop, and what its note tells.
use Rattle.std.proofs.Common.{ℕ, ◌≤◌, ◌∙◌, sym, subst, arith}
use Rattle.tide.proofs.Parts.{has_begun, in_part_framed, is_visitor_of, visitor_done, visitor_idle}
use Rattle.tide.specs.tide_model.Layout.{cell_count}
use Rattle.tide.specs.tide_visitor.Viewed.{view_of}
use Rattle.embed_heap.proofs.visitor.visiting.visit.Goals as goal

pub begin-requires-clause-parked : goal.begin-requires-clause-parked
begin-requires-clause-parked g c =
    c.requires.idle.1.stopped

pub begin-requires-clause-later : goal.begin-requires-clause-later
begin-requires-clause-later g c =
    let period = c.requires.idle.1.period in
    let later = c.requires.idle.2 in
    omega (arith, period, later)

pub drain_share-requires-clause-visitor : goal.drain_share-requires-clause-visitor
drain_share-requires-clause-visitor g c =
    let begun = has_begun 16 (view_of c.args.visitor) c.args.ticket.seat.me.0 (view_of c.begin.new.self) c.requires.idle c.begin.ensures.begun in
    is_visitor_of c.args.heap.now.key.layout (view_of c.begin.new.self) c.requires.one begun.part.is

pub drain_share-requires-clause-begun : goal.drain_share-requires-clause-begun
drain_share-requires-clause-begun g c =
    let begun = has_begun 16 (view_of c.args.visitor) c.args.ticket.seat.me.0 (view_of c.begin.new.self) c.requires.idle c.begin.ensures.begun in
    begun.part.runs

pub drain_share-requires-clause-ticket : goal.drain_share-requires-clause-ticket
drain_share-requires-clause-ticket g c =
    let begun = has_begun 16 (view_of c.args.visitor) c.args.ticket.seat.me.0 (view_of c.begin.new.self) c.requires.idle c.begin.ensures.begun in
    (c.run-run.ensures ∙ sym begun.run, c.marking-marks.ensures ∙ sym begun.marks)

pub drain_share-requires-clause-none : goal.drain_share-requires-clause-none
drain_share-requires-clause-none g c =
    (c.begin.ensures.counts.0, c.begin.ensures.bare)

pub drain_share-requires-clause-room : goal.drain_share-requires-clause-room
drain_share-requires-clause-room g c =
    subst (λ (n : ℕ). cell_count c.args.heap.now.key.layout ≤ n) (sym c.begin.ensures.room) c.requires.room

pub stop-note-requires-clause-visitor : goal.stop-note-requires-clause-visitor
stop-note-requires-clause-visitor g c =
    let begun = has_begun 16 (view_of c.args.visitor) c.args.ticket.seat.me.0 (view_of c.begin.new.self) c.requires.idle c.begin.ensures.begun in
    let part = in_part_framed 16 c.args.ticket.seat.me.0.period (view_of c.begin.new.self) (view_of c.drain_share.new.visitor) c.drain_share.ensures.kept begun.part in
    is_visitor_of c.args.heap.now.key.layout (view_of c.drain_share.new.visitor) c.requires.one part.is

pub stop-note-requires-clause-begun : goal.stop-note-requires-clause-begun
stop-note-requires-clause-begun g c =
    let begun = has_begun 16 (view_of c.args.visitor) c.args.ticket.seat.me.0 (view_of c.begin.new.self) c.requires.idle c.begin.ensures.begun in
    let part = in_part_framed 16 c.args.ticket.seat.me.0.period (view_of c.begin.new.self) (view_of c.drain_share.new.visitor) c.drain_share.ensures.kept begun.part in
    part.runs

pub returns-clause-idle : goal.returns-clause-idle
returns-clause-idle g c =
    let begun = has_begun 16 (view_of c.args.visitor) c.args.ticket.seat.me.0 (view_of c.begin.new.self) c.requires.idle c.begin.ensures.begun in
    let part = in_part_framed 16 c.args.ticket.seat.me.0.period (view_of c.begin.new.self) (view_of c.drain_share.new.visitor) c.drain_share.ensures.kept begun.part in
    visitor_idle c.args.heap.now.key.layout c.args.ticket.seat.me.0.period (view_of c.drain_share.new.visitor) c.stop-note.result.seat.me.0
    (view_of c.stop-note.new.self) part c.stop-note.ensures.stopped

pub returns-clause-note : goal.returns-clause-note
returns-clause-note g c =
    let begun = has_begun 16 (view_of c.args.visitor) c.args.ticket.seat.me.0 (view_of c.begin.new.self) c.requires.idle c.begin.ensures.begun in
    let part = in_part_framed 16 c.args.ticket.seat.me.0.period (view_of c.begin.new.self) (view_of c.drain_share.new.visitor) c.drain_share.ensures.kept begun.part in
    let few : (view_of c.drain_share.new.visitor).visits ≤ c.args.ticket.seat.me.0.run =
    (let made = c.drain_share.ensures.few in let run = c.run-run.ensures in omega (arith, made, run)) in
    visitor_done c.args.heap.now.key.layout c.args.ticket.seat.me.0 (view_of c.drain_share.new.visitor) c.stop-note.result.seat.me.0
    (view_of c.stop-note.new.self) part c.stop-note.ensures.stopped (c.stop-note.ensures.done.1 c.drain_share.ensures.done) c.stop-note.ensures.visits
    few (λ idle. c.drain_share.ensures.none (c.marking-marks.ensures ∙ idle))
