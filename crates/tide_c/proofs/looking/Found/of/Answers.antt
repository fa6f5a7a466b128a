-- What is told of a live cell that a root led to.
use Rattle.std.proofs.Common.{arith, refl, subst}
use Rattle.tide.specs.tide_model.Graph.{graph_of}
use Rattle.tide.specs.tide_snapshot.tide_retained.Path.{IsDistanceOf}
use Rattle.tide_c.proofs.looking.Found.of.Goals as goal

pub returns-in-Some : goal.returns-in-Some
returns-in-Some c = record {
  found = record {
    live = λ layout state is. ((λ one. (c.is_live.ensures.live layout state is).0 c.if-not-is_live.false), (λ live. refl));
    distance = λ layout state is one.
        subst (IsDistanceOf (graph_of state) c.args.cell) c.in-Some.is (c.distance.ensures layout state is);
    held = omega arith;
    none = λ dead. absurd (dead refl);
  };
}
