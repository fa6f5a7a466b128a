-- Why `index_of_slot` meets its contract.
use Rattle.std.proofs.Common.{◌≡◌, ◌+◌, ◌-◌, ◌*◌, ◌<◌, arith, ap, subst, sym, ◌∙◌, zero-add}
use Rattle.std.specs.Prelude.{slice_index}
use Rattle.tide_model.specs.Layout.{Layout, cell_count}
use Rattle.tide_layout.specs.declared.region.Region.TheVariants.{Slots}
use Rattle.tide_layout.specs.Layout.{layout_of}
use Rattle.tide_layout.specs.Limits.{IsWithinLimits}
use Rattle.tide_layout.specs.Slots.{width_of_class, words_before_cell}
use Rattle.tide_layout.proofs.ClassWidths.{words_before_cell-among}
use Rattle.tide_layout.proofs.FirstsLaws.{kept-id, words_before-is}
use Rattle.tide_layout.proofs.LimitLaws.{size_of-few}
use Rattle.tide_layout.proofs.SlotPlaces.{index_of_slot-below, index_of_slot-is}
use Rattle.tide_layout.proofs.layout.Layout.index_of_slot.Goals as goal
use Rattle.tide_layout.proofs.layout.Layout.index_of_slot.Goals.{After-from}

pub class_of-class-requires : goal.class_of-class-requires
class_of-class-requires c =
    let begins = kept-id c.self.inside.numbers.cell_blocks 0 c.self.inside.cell_firsts 0 c.self.invariant.of_cells (omega arith) in
    omega (arith, begins)

-- the words before the cell: those before its class, and those of its class before it
words : (c : After-from) → words_before_cell c.args.self.now c.args.cell
    ≡ slice_index c.self.inside.cell_firsts.words c.from-at.result
    + (c.args.cell - slice_index c.self.inside.cell_firsts.ids c.from-at.result) * c.from.result
words c =
    let layout = layout_of c.self.inside.numbers in
    let kept = c.self.inside.cell_firsts in
    let class = c.class_of-class.result in
    let within = subst (λ (l : Layout). c.args.cell < cell_count l) (sym c.self.view_is) c.requires.cell_within in
    let width : width_of_class (0 + class) ≡ c.from.result = ap width_of_class (zero-add class) ∙ sym (c.from.ensures ∙ c.width.ensures.width) in
    sym (ap (λ (l : Layout). words_before_cell l c.args.cell) c.self.view_is)
    ∙ words_before_cell-among layout c.args.cell c.self.invariant.limits.five_cell_classes
    ∙ words_before-is layout.cell_blocks 0 kept class c.args.cell c.self.invariant.of_cells c.self.invariant.limits.five_cell_classes
    c.class_of-class.ensures.small within c.class_of-class.ensures.not_before c.class_of-class.ensures.last
    ∙ (λ i. slice_index kept.words (sym c.from-at.ensures i) + (c.args.cell - slice_index kept.ids (sym c.from-at.ensures i)) * width i)

-- they are few
few : (c : After-from) → words_before_cell c.args.self.now c.args.cell + c.args.k < 4294967296
few c =
    let is = index_of_slot-is c.args.self.now c.args.cell c.args.k in
    let below = index_of_slot-below c.args.self.now c.args.cell c.args.k c.requires in
    let size = size_of-few c.args.self.now Slots (subst IsWithinLimits c.self.view_is c.self.invariant.limits) in
    omega (arith, is, below, size)

pub overflow_mul-before : goal.overflow_mul-before
overflow_mul-before c =
    let e = (goal.at.overflow_mul-before c).After-from in
    let before = words e in
    let below = few e in
    omega (arith, before, below)

pub overflow_add-result : goal.overflow_add-result
overflow_add-result c =
    let e = (goal.at.overflow_add-result c).After-from in
    let before = words e in
    let below = few e in
    omega (arith, before, below)

pub overflow_add-result-2 : goal.overflow_add-result-2
overflow_add-result-2 c =
    let e = (goal.at.overflow_add-result-2 c).After-from in
    let before = words e in
    let below = few e in
    omega (arith, before, below, c.from-2.ensures)

pub returns : goal.returns
returns c =
    let before = words ((goal.at.returns c).After-from) in
    let is = index_of_slot-is c.args.self.now c.args.cell c.args.k in
    omega (arith, before, is, c.from-2.ensures)
