-- Why `class_of` meets its contract.
use Rattle.std.proofs.Common.{◌<◌, arith, ap, subst, sym, ◌∙◌}
use Rattle.tide_model.specs.Layout.{Layout, cell_count, class_of}
use Rattle.tide_layout.specs.Layout.{layout_of}
use Rattle.tide_layout.proofs.ClassWidths.{class_of-among}
use Rattle.tide_layout.proofs.FirstsLaws.{kept-class, kept-id}
use Rattle.tide_layout.proofs.layout.Layout.class_of.Goals as goal

pub class_of-requires : goal.class_of-requires
class_of-requires c =
    let begins = kept-id c.self.inside.numbers.cell_blocks 0 c.self.inside.cell_firsts 0 c.self.invariant.of_cells (omega arith) in
    omega (arith, begins)

pub returns-clause-class : goal.returns-clause-class
returns-clause-class c =
    let layout = layout_of c.self.inside.numbers in
    let within = subst (λ (l : Layout). c.args.cell < cell_count l) (sym c.self.view_is) c.requires in
    sym (class_of-among layout c.args.cell c.self.invariant.limits.five_cell_classes
    ∙ kept-class layout.cell_blocks 0 c.self.inside.cell_firsts c.class_of.result c.args.cell c.self.invariant.of_cells
    c.self.invariant.limits.five_cell_classes c.class_of.ensures.small within c.class_of.ensures.not_before c.class_of.ensures.last)
    ∙ ap (λ (l : Layout). class_of l c.args.cell) c.self.view_is
