use Rattle.std.proofs.Common.{◌≡◌, ◌+◌, ◌*◌, ap, arith, false, get_or, true}
use Rattle.tide_layout.proofs.LimitLaws.{few_cells}
use Rattle.tide_model.specs.Layout.{cell_count}
use Rattle.tide_plain.specs.stored.Stored.{Stored}
use Rattle.tide_plain.specs.stored.Parts.{parts_of}
use Rattle.tide_plain.proofs.stored_laws.ClassLaws.{cell_is-free, cells_of_class-end, cells_of_class-full, found-holds, found-lowest, found-none, found-told, IsFirstFound}
use Rattle.tide_plain.proofs.stored.contents.Contents.free_cell_of.Goals as goal

pub overflow_add-end : goal.overflow_add-end
overflow_add-end c =
    let ends = cells_of_class-end c.self.inside.layout c.args.class c.self.invariant.limits c.requires in
    let few = few_cells c.self.inside.layout c.self.invariant.limits in
    omega (arith, ends, few, c.first_of-first.ensures, c.blocks-2.ensures.count)

-- what the search through the flags found
is_found : (c : goal.After-lowest_free) →
    IsFirstFound (λ cell. get_or c.self.inside.cells.are_live cell false ≡ false) (λ cell. get_or c.self.inside.cells.are_live cell false ≡ true)
    c.first_of-first.result (c.first_of-first.result + 64 * c.blocks-2.result) c.lowest_free.result
is_found c = let told = c.lowest_free.ensures in found-told _ _ _ _ c.lowest_free.result told.from told.below told.free told.lowest told.full

pub returns-clause-within : goal.returns-clause-within
returns-clause-within c =
    let ends = cells_of_class-end c.self.inside.layout c.args.class c.self.invariant.limits c.requires in
    let counted = ap (λ (s : Stored). cell_count s.layout) c.self.view_is in
    found-holds _ _ _ _ _ c.lowest_free.result (is_found c) (λ cell from below is_free. omega (arith, below, ends, counted, c.first_of-first.ensures, c.blocks-2.ensures.count))

pub returns-clause-lowest : goal.returns-clause-lowest
returns-clause-lowest c = rw (← c.self.view_is) (found-lowest _ _ _ _ _ c.lowest_free.result (is_found c)
    (λ cell is. let is_free = cell_is-free (parts_of c.self.inside) c.args.class cell is in (omega (arith, is_free.0, c.first_of-first.ensures), is_free.1)))

pub returns-clause-full : goal.returns-clause-full
returns-clause-full c = rw (← c.self.view_is) (found-none _ _ _ _ _ c.lowest_free.result (is_found c)
    (λ all. cells_of_class-full (parts_of c.self.inside) c.args.class c.self.invariant c.requires
    (λ cell from below. all cell (omega (arith, from, c.first_of-first.ensures)) (omega (arith, below, c.first_of-first.ensures, c.blocks-2.ensures.count)))))
