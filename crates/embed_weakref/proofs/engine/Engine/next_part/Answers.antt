-- The next part is opened, and the realm takes part in it.
use Rattle.std.proofs.Common.{ℕ, ◌<◌, ◌∙◌, sym, ap, subst, arith}
use Rattle.tide.proofs.Parts.{idle_then, mutator_done}
use Rattle.embed_weakref.proofs.Engines.{alone_in, none_told, note_in, note_unvisited}
use Rattle.tide.specs.tide_core.declared.machine.view.View.{View}
use Rattle.tide.proofs.tide_table.Nexts.{RunsWith-noted}
use Rattle.tide.specs.tide_table.Standing.{RunsWith}
use Rattle.tide.specs.tide_weakref.Jobs.{Jobs}
use Rattle.tide.specs.tide_weakref.Uses.{IsReference}
use Rattle.tide.specs.tide_weakref.Viewed.{view_of}
use Rattle.embed_weakref.proofs.engine.Engine.next_part.Goals as goal

pub stop-note-requires-clause-own : goal.stop-note-requires-clause-own
stop-note-requires-clause-own c = c.requires.works.ready.running.own

pub stop-note-requires-clause-mutator : goal.stop-note-requires-clause-mutator
stop-note-requires-clause-mutator c = c.requires.works.ready.running.is_mutator

pub stop-note-requires-clause-begun : goal.stop-note-requires-clause-begun
stop-note-requires-clause-begun c = c.requires.works.in_part.runs

pub stop-note-requires-clause-of_part : goal.stop-note-requires-clause-of_part
stop-note-requires-clause-of_part c = c.requires.works.in_part.begun ∙ sym c.requires.works.in_part.ticket

pub stop-note-requires-clause-once : goal.stop-note-requires-clause-once
stop-note-requires-clause-once c =
    let part = c.requires.works.in_part in
    subst (λ (n : ℕ). (view_of c.args.self.realm).period < n) (sym part.ticket) part.once

pub take-requires-clause-of_heap : goal.take-requires-clause-of_heap
take-requires-clause-of_heap c = c.stop-note.ensures.note.0 ∙ c.requires.works.ready.running.own

pub take-requires-clause-running : goal.take-requires-clause-running
take-requires-clause-running c = c.args.self.open.runs.runs.running

pub take-requires-clause-now : goal.take-requires-clause-now
take-requires-clause-now c =
    ap (λ (x : View). x.period) c.stop-note.ensures.note.1 ∙ c.requires.works.in_part.ticket

pub next_part-requires : goal.next_part-requires
next_part-requires c =
    let engine = c.args.self in
    let v = engine.collector.seat.me.0 in
    let note = c.stop-note.result.seat.me.0 in
    let w = c.take.new.self.seat.me.0 in
    let layout = engine.heap.key.layout in
    let has = mutator_done v (view_of engine.realm) note c.requires.works.in_part c.requires.works.unvisited c.stop-note.ensures.note.1 in
    let none = ap (λ (x : View). x.visits) c.stop-note.ensures.note.1 ∙ c.requires.works.unvisited in
    let took = c.take.ensures.noted in
    record {
      own = c.take.ensures.same.0 ∙ engine.own;
      part = subst (RunsWith layout engine.books) (sym took) (RunsWith-noted layout engine.books v note engine.open.runs);
      all = alone_in layout w.notes w.gone engine.alone.0 engine.alone.1 (note_in v v note w has none took engine.open.notes);
      visits = none_told layout w engine.alone.1 (note_unvisited v v note w has none took engine.open.visited);
    }

pub begin-requires : goal.begin-requires
begin-requires c =
    let engine = c.args.self in
    let v = engine.collector.seat.me.0 in
    let layout = engine.heap.key.layout in
    let next = c.in-Ok.ensures.next in
    let more = next.period in
    let same = ap (λ (x : View). x.period) c.take.ensures.noted in
    record {
      own = c.in-Ok.ensures.own ∙ c.take.ensures.same.0 ∙ engine.own;
      of_heap = c.stop-note.ensures.same.0 ∙ c.requires.works.ready.running.own;
      mutator = (let alone = engine.alone.0 in omega (arith, alone));
      running = next.runs.runs.running;
      idle = (
        v.period,
        idle_then 0 v.period (view_of engine.realm) (view_of c.stop-note.new.self) c.requires.works.in_part c.stop-note.ensures.stopped,
        omega (arith, more, same),
      );
      kept = c.stop-note.ensures.kept_jobs layout c.requires.works.ready.kept_jobs;
      scratch = ap (λ (j : Jobs). j.scratch) c.stop-note.ensures.jobs ∙ c.requires.works.scratch;
    }

pub invariant_of-result-clause-open : goal.invariant_of-result-clause-open
invariant_of-result-clause-open c =
    let layout = c.args.self.heap.key.layout in
    let next = c.in-Ok.ensures.next in
    let same = c.begin.ensures.same.1 in
    record {
      runs = subst (RunsWith layout c.next_part.new.books) (sym same) next.runs;
      notes = ap (λ (x : View). x.notes) same ∙ next.notes;
      visited = ap (λ (x : View). x.visited) same ∙ next.visited;
    }

pub returns-clause-keeps : goal.returns-clause-keeps
returns-clause-keeps c = λ r is.
    subst (λ (j : Jobs). IsReference j r) (sym (c.begin.ensures.jobs ∙ c.stop-note.ensures.jobs)) is
