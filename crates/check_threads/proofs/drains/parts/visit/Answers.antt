-- Why the visitor may begin, drain and stop, and what its note tells.
use Rattle.std.proofs.Common.{ℕ, ◌≤◌, ◌∙◌, sym, ap, subst, arith}
use Rattle.embed_heap.proofs.visitor_laws.Parts.{bare_fits, has_begun, in_part_framed, is_visitor_of}
use Rattle.tide_heap.specs.tide_core.declared.machine.view.View.{View}
use Rattle.tide_model.specs.Layout.{cell_count}
use Rattle.tide_visitor.specs.Viewed.{view_of}
use Rattle.check_threads.proofs.drains.parts.visit.Goals as goal

pub begin-requires-clause-parked : goal.begin-requires-clause-parked
begin-requires-clause-parked g c = c.requires.idle.1.stopped

pub begin-requires-clause-later : goal.begin-requires-clause-later
begin-requires-clause-later g c =
    let period = c.requires.idle.1.period in
    let later = c.requires.idle.2 in
    omega (arith, period, later)

pub drain_each-drains-requires-clause-may : goal.drain_each-drains-requires-clause-may
drain_each-drains-requires-clause-may g c κs within =
    let layout = c.args.heap.now.key.layout in
    let begun = has_begun 16 (view_of c.args.visitor) c.args.ticket.seat.me.0 (view_of c.begin.new.self) c.requires.idle c.begin.ensures.begun in
    record {
      is_visitor = is_visitor_of layout (view_of c.begin.new.self) c.requires.one begun.part.is;
      runs = begun.part.runs;
      marks = begun.marks ∙ c.requires.marks;
      fits = bare_fits layout (view_of c.begin.new.self).held c.begin.ensures.bare;
      room = subst (λ (n : ℕ). cell_count layout ≤ n) (sym c.begin.ensures.room) c.requires.room;
    }

pub returns-clause-note : goal.returns-clause-note
returns-clause-note g c =
    let begun = has_begun 16 (view_of c.args.visitor) c.args.ticket.seat.me.0 (view_of c.begin.new.self) c.requires.idle c.begin.ensures.begun in
    let part = in_part_framed 16 c.args.ticket.seat.me.0.period (view_of c.begin.new.self) (view_of c.drain_each-drains.new.visitor) c.drain_each-drains.ensures.kept begun.part in
    record {
      is = ap (λ (x : View). x.who) c.stop-note.ensures.stopped.note_is ∙ part.is;
      period = ap (λ (x : View). x.period) c.stop-note.ensures.stopped.note_is ∙ part.ticket;
    }
