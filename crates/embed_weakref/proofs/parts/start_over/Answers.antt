-- The first part runs with the books of nothing, and the realm takes part in it.
use Rattle.std.proofs.Common.{◌∙◌, sym, ap, subst, arith}
use Rattle.tide.proofs.Parts.{new_idle}
use Rattle.tide.proofs.tide_table.Nexts.{HasOpenedNext-first}
use Rattle.tide.specs.tide_core.declared.machine.view.View.{View}
use Rattle.tide.specs.tide_heap.Turns.{opened}
use Rattle.tide.specs.tide_model.Layout.{Layout}
use Rattle.tide.specs.tide_shape.Lists.{lists_of}
use Rattle.tide.specs.tide_table.Standing.{RunsWith}
use Rattle.tide.specs.tide_weakref.Jobs.{HasKeptJobs}
use Rattle.tide.specs.tide_weakref.Viewed.{jobs_of, view_of}
use Rattle.embed_weakref.proofs.parts.start_over.Goals as goal

pub begin-requires-clause-running : goal.begin-requires-clause-running
begin-requires-clause-running c = ap (λ (x : View). x.frozen) c.open_first.ensures.opened

pub begin-requires-clause-idle : goal.begin-requires-clause-idle
begin-requires-clause-idle c =
    let first = ap (λ (x : View). x.period) c.open_first.ensures.opened in
    let none = c.in_ok-heap.ensures.started.period in
    (0, new_idle 0 (view_of c.in_ok-realm.realm) c.in_ok-realm.ensures.view, omega (arith, first, none))

pub begin-requires-clause-kept : goal.begin-requires-clause-kept
begin-requires-clause-kept c =
    let realm = c.in_ok-realm.realm in
    subst (λ (l : Layout). HasKeptJobs l (view_of realm) (jobs_of realm)) (sym c.in_ok-heap.ensures.made.0)
    (c.in_ok-realm.ensures.kept c.heap_layout-layout.result c.heap_layout-layout.ensures.own)

pub invariant_of-result-clause-open : goal.invariant_of-result-clause-open
invariant_of-result-clause-open c =
    let start = c.in_ok-heap.field-0 in
    let layout = c.heap_layout-layout.result in
    let books = c.in_ok-books.books in
    let v = start.collector.seat.me.0 in
    let w = c.open_first.new.self.seat.me.0 in
    let made = c.in_ok-heap.ensures.made.0 in
    let same = c.begin.ensures.same.1 in
    let next = HasOpenedNext-first layout (lists_of c.args.shapes) 50 books v w c.in_ok-heap.ensures.started
    (c.open_first.ensures.opened ∙ ap (λ (l : Layout). opened l 50 v) made) c.in_ok-books.ensures.are in
    record {
      runs = subst (RunsWith start.heap.key.layout books) (sym same)
          (subst (λ (l : Layout). RunsWith l books w) (sym made) next.runs);
      notes = ap (λ (x : View). x.notes) same ∙ next.notes;
      visited = ap (λ (x : View). x.visited) same ∙ next.visited;
    }
