-- Why that is what is known of the freeze.
use Rattle.std.proofs.Common.{ℕ, ◌+◌, ◌∙◌, ap, subst, sym}
use Rattle.std.specs.Prelude.{sum}
use Rattle.tide_heap.specs.tide_core.declared.machine.view.View.{View}
use Rattle.tide_model.specs.Freeze.{marks_after}
use Rattle.tide_model.specs.Pace.{is_triggered}
use Rattle.tide_table.proofs.foreseeing.foresee.Goals as goal
use Rattle.tide_table.specs.Foreseen.{begun_of, visits_noted}
use Rattle.tide_table.specs.Standing.{MayEnterVisits}

pub visited-visited-requires : goal.visited-visited-requires
visited-visited-requires g c =
    let e = c.is_marking-marked.ensures in
    let layout = c.args.heap.now.key.layout in record {
      marks = e.marks ∙ ap (λ (v : View). marks_after layout v.seen) (sym e.same);
      visits = subst (MayEnterVisits layout) (sym e.same) c.requires.visits;
    }

pub returns : goal.returns
returns g c =
    let e = c.is_marking-marked.ensures in
    let layout = c.args.heap.now.key.layout in
    let trigger = c.args.books.now.pacing.trigger in
    let since_end = c.from.ensures ∙ c.requires.books.births.since_end in
    let number = ap (λ (n : ℕ). n + 1) c.requires.begun in
    record {
      own = e.own;
      same = e.same;
      foreseen = record {
        marked = e.marks;
        visited = c.visited-visited.ensures ∙ ap (λ (v : View). sum (visits_noted layout v)) e.same;
        begun = c.begun_of-begun.ensures
            ∙ (λ i. begun_of c.args.is_forced (e.marks i) ((c.due-is_triggered.ensures ∙ ap (is_triggered trigger) since_end) i) (number i));
      };
    }
