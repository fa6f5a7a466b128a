-- Why `class_of_array` meets its contract.
use Rattle.std.proofs.Common.{ℕ, ◌<◌, ◌+◌, arith, ap, subst, sym, ◌∙◌}
use Rattle.tide_model.specs.Layout.{Layout, array_count, class_of_array}
use Rattle.tide_layout.specs.Layout.{layout_of}
use Rattle.tide_layout.proofs.ClassWidths.{class_of_array-among}
use Rattle.tide_layout.proofs.FirstsLaws.{kept-class, kept-id}
use Rattle.tide_layout.proofs.layout.Layout.class_of_array.Goals as goal

pub class_of-requires : goal.class_of-requires
class_of-requires c =
    let begins = kept-id c.self.inside.numbers.array_blocks 5 c.self.inside.array_firsts 0 c.self.invariant.of_arrays (omega arith) in
    omega (arith, begins)

pub returns-clause-class : goal.returns-clause-class
returns-clause-class c =
    let layout = layout_of c.self.inside.numbers in
    let within = subst (λ (l : Layout). c.args.array < array_count l) (sym c.self.view_is) c.requires in
    sym (class_of_array-among layout c.args.array c.self.invariant.limits.five_cell_classes
    ∙ ap (λ (n : ℕ). 5 + n) (kept-class layout.array_blocks 5 c.self.inside.array_firsts c.class_of.result c.args.array c.self.invariant.of_arrays
    c.self.invariant.limits.five_array_classes c.class_of.ensures.small within c.class_of.ensures.not_before c.class_of.ensures.last))
    ∙ ap (λ (l : Layout). class_of_array l c.args.array) c.self.view_is
