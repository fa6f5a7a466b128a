-- Why a visitor may visit, and what it has done then.
use Rattle.std.proofs.Common.{ℕ, ◌≤◌, ◌∙◌, ap, refl, sym, subst, arith, inl, inr, Bool}
use Rattle.std.specs.Prelude.{if◌then◌else◌}
use Rattle.tide_posts.proofs.tide_heap.Newcomers.{FitsIn-none}
use Rattle.tide_posts.specs.tide_heap.tide_core.machine.Visiting.{FitsIn}
use Rattle.tide_visitor.specs.Viewed.{view_of}
use Rattle.tide_server.proofs.helping.visit_part.Goals as goal

pub drain-requires-clause-marks : goal.drain-requires-clause-marks
drain-requires-clause-marks g c κs within = sym c.requires.marks ∙ c.if-marks.true

pub drain-requires-clause-few : goal.drain-requires-clause-few
drain-requires-clause-few g c κs within = (let none = c.requires.none_yet in omega (arith, none))

pub drain-requires-clause-fits : goal.drain-requires-clause-fits
drain-requires-clause-fits g c κs within =
    subst (FitsIn c.args.heap.now.key.layout) (sym c.requires.bare) (FitsIn-none c.args.heap.now.key.layout)

pub returns-then-marks : goal.returns-then-marks
returns-then-marks g c =
    let v = view_of c.args.visitor.now in
    let drained = c.drain.ensures in
    let none = c.requires.none_yet in
    let run = c.requires.run in
    let most = drained.most in record {
      same = drained.same.0;
      kept = drained.kept;
      most = subst (λ (n : ℕ). (view_of c.drain.new.self).visits ≤ n)
          (ap (λ (b : Bool). if b then v.run else 0) (sym (sym c.requires.marks ∙ c.if-marks.true))) (omega (arith, most, none, run));
      done = drained.done (omega (arith, none, run));
      fits = drained.fits;
      room = drained.room;
    }

pub returns-else-marks : goal.returns-else-marks
returns-else-marks g c = record {
  same = refl;
  kept = refl;
  most = (let none = c.requires.none_yet in omega (arith, none));
  done = inr (inl (sym c.requires.marks ∙ c.if-marks.false));
  fits = subst (FitsIn c.args.heap.now.key.layout) (sym c.requires.bare) (FitsIn-none c.args.heap.now.key.layout);
  room = refl;
}
