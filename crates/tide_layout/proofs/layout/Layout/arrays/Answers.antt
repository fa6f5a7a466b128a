-- Why `arrays` meets its contract.
use Rattle.std.proofs.Common.{arith, ap, ◌∙◌}
use Rattle.tide_model.specs.Layout.{array_count}
use Rattle.tide_layout.specs.Layout.{layout_of}
use Rattle.tide_layout.proofs.LimitLaws.{few_arrays}
use Rattle.tide_layout.proofs.layout.Layout.arrays.Goals as goal

pub returns-clause-count : goal.returns-clause-count
returns-clause-count c = c.self.invariant.all_arrays ∙ ap array_count c.self.view_is

pub returns-clause-few : goal.returns-clause-few
returns-clause-few c =
    let few = few_arrays (layout_of c.self.inside.numbers) c.self.invariant.limits in
    let all = c.self.invariant.all_arrays in
    omega (arith, few, all)
