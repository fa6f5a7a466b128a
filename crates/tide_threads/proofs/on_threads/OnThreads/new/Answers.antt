-- Why a heap with its mutators stands at the start.
use Rattle.std.proofs.Common.{ℕ, ◌≡◌, ◌+◌, ◌∙◌, sym, ap, subst, arith, List, All, length, map}
use Rattle.std.proofs.lemmas.List.{length-map}
use Rattle.std.proofs.lemmas.Result.{err_from_is_err_and}
use Rattle.tide_heap.specs.tide_freeze.Books.{AreBooks}
use Rattle.tide_model.specs.Layout.{Layout}
use Rattle.tide_model.specs.declared.entry.Event.{Event}
use Rattle.tide_periods.proofs.Starting.{AreCursors-nothing}
use Rattle.tide_periods.specs.Asking.{AreNew, IsAskable, scripts_of}
use Rattle.tide_periods.specs.Recorded.{recorded_at}
use Rattle.tide_periods.specs.declared.cursor.ScriptCursor.{ScriptCursor}
use Rattle.tide_report.specs.Ends.{TellsEnds}
use Rattle.tide_shape.specs.Lists.{lists_of}
use Rattle.tide_shape.specs.declared.shapes.Shapes.{Shapes}
use Rattle.tide_table.proofs.Standing.{StandsStill-started}
use Rattle.tide_table.specs.Standing.{StandsStill}
use Rattle.tide_threads.proofs.Fresh.{AllStandBy-fresh, MayOpenPart-started}
use Rattle.tide_threads.specs.Acting.{cursors_in}
use Rattle.tide_threads.specs.Fresh.{AreFresh}
use Rattle.tide_threads.specs.Playing.{AllStandBy}
use Rattle.tide_threads.specs.Standing.{MayOpenPart}
use Rattle.tide_threads.proofs.on_threads.OnThreads.new.Goals as goal

pub participants_of-requires : goal.participants_of-requires
participants_of-requires c = record {
  as_many = (sym (length-map c.in_ok-cursors.cursors.items (λ (x : ScriptCursor). x.ops.items)) ∙ ap length c.in_ok-cursors.ensures.scripts_are
      ∙ length-map c.args.scripts.items (λ ops. ops.items) ∙ c.requires.mutators ∙ sym c.in_ok-heap.ensures.mutators.0
      ∙ c.in_ok-heap.field-0.mutators.ok.0);
  passes = (c.in_ok-heap.field-0.heap.table.shared.table_id, c.in_ok-heap.ensures.mutators.1, c.in_ok-heap.ensures.visitors.1);
  numbers = λ who cursor found. (c.in_ok-cursors.ensures.each who cursor found).number;
  few = (let start = c.in_ok-heap.field-0 in
      let mutators = c.in_ok-heap.ensures.mutators.0 in
      let visitors = c.in_ok-heap.ensures.visitors.0 in
      let some = start.mutators.ok.0 in
      let others = start.visitors.ok.0 in
      let limits = c.mutators.ensures.limits in
      let few = limits.few_mutators in
      let few' = limits.few_visitors in
      omega (arith, mutators, visitors, some, others, few, few'));
}

pub returns-in_err-calls : goal.returns-in_err-calls
returns-in_err-calls c =
    let failed = err_from_is_err_and c.from_residual.result c.from_residual.ensures.1 in
    rw failed.1 (record { setting = tt; nothing = tt; stands = tt; cursors = tt; scripts = tt; pacing = tt; opens = tt })

pub returns-in_err-cursors : goal.returns-in_err-cursors
returns-in_err-cursors c =
    let failed = err_from_is_err_and c.from_residual-in_err-cursors.result c.from_residual-in_err-cursors.ensures.1 in
    rw failed.1 (record { setting = tt; nothing = tt; stands = tt; cursors = tt; scripts = tt; pacing = tt; opens = tt })

pub returns-in_err-books : goal.returns-in_err-books
returns-in_err-books c =
    let failed = err_from_is_err_and c.from_residual-in_err-books.result c.from_residual-in_err-books.ensures.1 in
    rw failed.1 (record { setting = tt; nothing = tt; stands = tt; cursors = tt; scripts = tt; pacing = tt; opens = tt })

pub returns-in_err-heap : goal.returns-in_err-heap
returns-in_err-heap c =
    let failed = err_from_is_err_and c.from_residual-in_err-heap.result c.from_residual-in_err-heap.ensures.1 in
    rw failed.1 (record { setting = tt; nothing = tt; stands = tt; cursors = tt; scripts = tt; pacing = tt; opens = tt })

pub returns-in_err-participants : goal.returns-in_err-participants
returns-in_err-participants c =
    let failed = err_from_is_err_and c.from_residual-in_err-participants.result c.from_residual-in_err-participants.ensures.1 in
    rw failed.1 (record { setting = tt; nothing = tt; stands = tt; cursors = tt; scripts = tt; pacing = tt; opens = tt })

pub returns : goal.returns
returns c =
    let layout = c.args.layout in
    let start = c.in_ok-heap.field-0 in
    let made = c.in_ok-heap.ensures.made in
    let started = c.in_ok-heap.ensures.started in
    let v = start.collector.seat.me.0 in
    let xs = c.in_ok-participants.participants.items in
    let scripts = map (λ ops. ops.items) c.args.scripts.items in
    let still : StandsStill layout (lists_of c.args.shapes) v =
    StandsStill-started layout (lists_of c.args.shapes) v started c.mutators.ensures.limits in
    let are : AreNew (cursors_in xs) scripts =
    subst (λ (l : List ScriptCursor). AreNew l scripts) (sym c.in_ok-participants.ensures.cursors) c.in_ok-cursors.ensures in
    let mutators : length start.mutators.items ≡ layout.mutators = sym start.mutators.ok.0 ∙ c.in_ok-heap.ensures.mutators.0 in
    let visitors : length start.visitors.items ≡ layout.visitors = sym start.visitors.ok.0 ∙ c.in_ok-heap.ensures.visitors.0 in
    let fresh = c.in_ok-participants.ensures.fresh start.heap.table.shared.table_id c.in_ok-heap.ensures.mutators.1
    c.in_ok-heap.ensures.visitors.1 in
    let all : AllStandBy start.heap.table.shared.table_id layout v xs =
    AllStandBy-fresh start.heap.table.shared.table_id layout v started.seen xs scripts
    (c.in_ok-participants.ensures.one_each ∙ (λ i. mutators i + visitors i)) are
    (subst (λ (n : ℕ). AreFresh start.heap.table.shared.table_id layout.mutators n xs) c.cells-cells.ensures.count
    (subst (λ (n : ℕ). AreFresh start.heap.table.shared.table_id n c.cells-cells.result xs) mutators fresh)) in
    record {
      setting = λ i. record { layout = made.0 i; shapes = lists_of (made.1 i) };
      nothing = started.seen;
      stands = record {
        of_heap = c.in_ok-heap.ensures.collector;
        still = subst (λ (l : Layout). StandsStill l (lists_of start.heap.key.shapes) v) (sym made.0)
            (subst (λ (s : Shapes). StandsStill layout (lists_of s) v) (sym made.1) still);
        books = subst (λ (x : Layout × List Event). AreBooks x.0 x.1 c.in_ok-books.books) (λ i. (sym made.0 i, sym started.seen i))
            c.in_ok-books.ensures.are;
        told = subst (λ (x : Layout × List Event). TellsEnds x.0 x.1 c.in_ok-books.books.report) (λ i. (sym made.0 i, sym started.seen i))
            c.in_ok-books.ensures.told;
        all = subst (λ (l : Layout). AllStandBy start.heap.table.shared.table_id l v xs) (sym made.0) all;
        no_calls = c.in_ok-calls.ensures;
      };
      cursors = AreCursors-nothing (recorded_at (record { layout = start.heap.key.layout; shapes = lists_of start.heap.key.shapes }) v.seen)
          (cursors_in xs) scripts started.seen are
          (sym (length-map (cursors_in xs) (λ (x : ScriptCursor). x.ops.items)) ∙ ap length are.scripts_are
          ∙ length-map c.args.scripts.items (λ ops. ops.items) ∙ c.requires.mutators ∙ ap (λ (l : Layout). l.mutators) (sym made.0))
          (subst (λ (l : Layout). All (All (IsAskable l)) scripts) (sym made.0) c.requires.askable);
      scripts = ap scripts_of c.in_ok-participants.ensures.cursors ∙ c.in_ok-cursors.ensures.scripts_are;
      pacing = c.in_ok-books.ensures.pacing;
      opens = λ run. subst (λ (l : Layout). MayOpenPart l v run) (sym made.0)
          (MayOpenPart-started layout (lists_of c.args.shapes) v run started still);
    }
