-- What a visitor's part makes.
use Rattle.std.proofs.Common.{ℕ, ◌≤◌, ◌+◌, ◌-◌, ◌^◌, ◌∙◌, refl, sym, ap, subst, arith}
use Rattle.std.specs.Prelude.{min}
use Rattle.tide_heap.specs.tide_core.declared.machine.view.View.{View}
use Rattle.tide_model.specs.Layout.{cell_count}
use Rattle.tide_threads.proofs.Visiting.{HasBegunVisits-by, HasMadeVisits-stopped, IsVisitorOf-same}
use Rattle.tide_visitor.specs.Viewed.{view_of}
use Rattle.tide_threads.proofs.marking.CountingVisitor.play.Goals as goal

pub begin-requires : goal.begin-requires
begin-requires g c = record {
  own = c.requires.ready.table;
  of_heap = c.requires.ready.of_heap;
  parked = c.requires.ready.rests;
  later = c.requires.ready.period;
}

pub visit_part-requires : goal.visit_part-requires
visit_part-requires g c =
    let ready = c.requires.ready in
    let x = c.args.self.now in
    let v = view_of x.visitor in
    let t = c.args.ticket.seat.me.0 in
    let noted = x.visitor.between.noted ready.rests in
    let later = ready.period in
    let began = HasBegunVisits-by t v (view_of c.begin.new.self) c.begin.ensures.begun (omega (arith, noted, later)) in (
      c.type_bounds.sync-T,
      (
        c.begin.ensures.same.0 ∙ ready.table,
        (
          IsVisitorOf-same c.args.heap.now.key.layout v (view_of c.begin.new.self) began.who ready.is_visitor,
          (
            began.runs,
            (
              c.run-run.ensures ∙ sym began.run,
              (
                c.marking-marks.ensures ∙ sym began.marks,
                (
                  c.begin.ensures.counts.0,
                  (
                    c.begin.ensures.bare,
                    subst (λ (n : ℕ). cell_count c.args.heap.now.key.layout ≤ n) (sym c.begin.ensures.room) ready.room,
                  ),
                ),
              ),
            ),
          ),
        ),
      ),
    )

pub stop-note-requires : goal.stop-note-requires
stop-note-requires g c =
    let ready = c.requires.ready in
    let x = c.args.self.now in
    let v = view_of x.visitor in
    let t = c.args.ticket.seat.me.0 in
    let noted = x.visitor.between.noted ready.rests in
    let later = ready.period in
    let began = HasBegunVisits-by t v (view_of c.begin.new.self) c.begin.ensures.begun (omega (arith, noted, later)) in
    let kept = c.visit_part.ensures.kept in record {
      own = c.visit_part.ensures.same ∙ c.begin.ensures.same.0 ∙ ready.table;
      visitor = IsVisitorOf-same c.args.heap.now.key.layout v (view_of c.visit_part.new.visitor)
          (ap (λ (k : View). k.who) kept ∙ began.who) ready.is_visitor;
      begun = ap (λ (k : View). k.runs) kept ∙ began.runs;
      fits = c.visit_part.ensures.fits;
    }

pub returns : goal.returns
returns g c =
    let ready = c.requires.ready in
    let x = c.args.self.now in
    let v = view_of x.visitor in
    let t = c.args.ticket.seat.me.0 in
    let noted = x.visitor.between.noted ready.rests in
    let later = ready.period in
    let began = HasBegunVisits-by t v (view_of c.begin.new.self) c.begin.ensures.begun (omega (arith, noted, later)) in
    let u = view_of c.begin.new.self in
    let w = view_of c.visit_part.new.visitor in
    let stop = c.stop-note.ensures in
    let table = c.visit_part.ensures.same ∙ c.begin.ensures.same.0 ∙ ready.table in record {
      made = HasMadeVisits-stopped c.args.heap.now.key.layout c.args.heap.now.table.shared.table_id t x _ c.stop-note.result v u w
          began c.visit_part.ensures.kept c.visit_part.ensures.most stop.stopped refl (stop.same.0 ∙ table)
          (stop.room ∙ c.visit_part.ensures.room ∙ c.begin.ensures.room) (stop.table ∙ table) (stop.done.1 c.visit_part.ensures.done)
          (c.saturating_add-self.ensures ∙ ap (λ (n : ℕ). min (x.deferred + n) (2 ^ 64 - 1)) (c.from-met.ensures ∙ c.deferred.ensures.is ∙ stop.deferred));
    }
