-- A mutator has always done its part.
use Rattle.std.proofs.Common.{ℕ, ◌≤◌, ◌∙◌, ap, arith, inl, subst, Bool, false, rules}
use Rattle.std.specs.Prelude.{◌||◌}
use Rattle.tide_heap.specs.Parties.{In}
use Rattle.tide_heap.specs.Turns.{note_of, noted}
use Rattle.tide_heap.specs.tide_core.declared.machine.view.View.{View}
use Rattle.tide_heap.specs.tide_core.machine.kinds.StoreStopped.{stopped_view}
use Rattle.tide_model.specs.Layout.{Layout}
use Rattle.tide_heap.proofs.steps_laws.BeginsAndStops.{numbers_tell}
use Rattle.check_table.proofs.callers_laws.Notes.{noted_in}
use Rattle.check_table.proofs.callers.stops.stop_part.Goals as goal

pub stop-note-requires-clause-round : goal.stop-note-requires-clause-round
stop-note-requires-clause-round g c =
    let m = subst (λ (l : Layout). l.mutators ≤ 16) c.layout.ensures c.mutators.ensures.limits.few_mutators in
    let below = c.requires.mutator in
    let yes = numbers_tell c.args.pass.now.seat.me.0 (inl (omega (arith, m, below))) in
    λ isnt. absurd (cc)

pub returns-clause-is_in : goal.returns-clause-is_in
returns-clause-is_in g c =
    let v = c.args.pass.now.seat.me.0 in
    subst (λ (n : ℕ). In n c.take.new.self.seat.me.0.notes) (ap (λ (x : View). x.who) c.stop-note.ensures.note.1)
    (noted_in c.args.collector.now.seat.me.0 c.stop-note.result.seat.me.0 c.take.new.self.seat.me.0 c.take.ensures.noted)

pub returns-clause-noted : goal.returns-clause-noted
returns-clause-noted g c =
    let v = c.args.pass.now.seat.me.0 in
    let m = subst (λ (l : Layout). l.mutators ≤ 16) c.layout.ensures c.mutators.ensures.limits.few_mutators in
    let below = c.requires.mutator in
    c.take.ensures.noted
    ∙ ap (noted c.args.collector.now.seat.me.0) (c.stop-note.ensures.note.1
    ∙ ap (λ (b : Bool). note_of (b || false) (stopped_view v)) (numbers_tell v (inl (omega (arith, m, below)))))

pub take-requires-clause-now : goal.take-requires-clause-now
take-requires-clause-now g c = search rules
