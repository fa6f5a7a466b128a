use Rattle.std.proofs.Common.{◌≡◌, ◌≢◌, ◌+◌, ◌*◌, ap, arith, get_or, rules, tests}
use Rattle.std.proofs.lemmas.Iterator.{first_from_Range}
use Rattle.tide_layout.proofs.LimitLaws.{few_arrays}
use Rattle.tide_model.specs.Layout.{array_count}
use Rattle.tide_plain.specs.stored.Stored.{Stored}
use Rattle.tide_plain.specs.stored.Parts.{parts_of}
use Rattle.tide_plain.specs.declared.statuses.ArrayStatus.TheVariants.{Free}
use Rattle.tide_plain.proofs.stored_laws.ClassLaws.{array_is-free, arrays_of_class-end, arrays_of_class-full, found-holds, found-lowest, found-none, IsFirstFound, IsFreeArrayOf-stored}
use Rattle.tide_plain.proofs.stored.contents.Contents.free_array_of.Goals as goal

pub overflow_add-end : goal.overflow_add-end
overflow_add-end c =
    let ends = arrays_of_class-end c.self.inside.layout c.args.class c.self.invariant.limits c.requires.smallest c.requires.largest in
    let few = few_arrays c.self.inside.layout c.self.invariant.limits in
    omega (arith, ends, few)

-- what the search through the statuses found
is_found : (c : goal.After-find) →
    IsFirstFound (λ array. get_or c.self.inside.arrays.statuses array Free ≡ Free) (λ array. get_or c.self.inside.arrays.statuses array Free ≢ Free)
    c.first_array_of-first.result (c.first_array_of-first.result + 64 * c.blocks-2.result) c.find.result
is_found c = first_from_Range _ _ _ _ (λ array. get_or c.self.inside.arrays.statuses array Free ≡ Free) (λ array. get_or c.self.inside.arrays.statuses array Free ≢ Free) c.find.ensures.ran
    (λ x q called. search (rules, tests)) (λ x q called. (search rules, search (rules, tests)))

pub returns-clause-free : goal.returns-clause-free
returns-clause-free c = rw (← c.self.view_is) (found-holds _ _ _ _ _ c.find.result (is_found c)
    (λ array from below. IsFreeArrayOf-stored (parts_of c.self.inside) c.args.class array c.self.invariant c.requires.smallest (omega (arith, from)) (omega (arith, below))))

pub returns-clause-within : goal.returns-clause-within
returns-clause-within c =
    let ends = arrays_of_class-end c.self.inside.layout c.args.class c.self.invariant.limits c.requires.smallest c.requires.largest in
    let counted = ap (λ (s : Stored). array_count s.layout) c.self.view_is in
    found-holds _ _ _ _ _ c.find.result (is_found c) (λ array from below is_free. omega (arith, below, ends, counted))

pub returns-clause-lowest : goal.returns-clause-lowest
returns-clause-lowest c = rw (← c.self.view_is) (found-lowest _ _ _ _ _ c.find.result (is_found c)
    (λ array is. let is_free = array_is-free (parts_of c.self.inside) c.args.class array c.self.invariant c.requires.smallest is in (omega (arith, is_free.0), is_free.1)))

pub returns-clause-full : goal.returns-clause-full
returns-clause-full c = rw (← c.self.view_is) (found-none _ _ _ _ _ c.find.result (is_found c)
    (λ all. arrays_of_class-full (parts_of c.self.inside) c.args.class c.self.invariant c.requires.smallest c.requires.largest
    (λ array from below. all array (omega (arith, from)) (omega (arith, below)))))
