-- Which table an item and a cell are of.
use native.Mathlib.Omega.{arith}
use Rattle.std.proofs.Common.{ℕ, zero, suc, ◌+◌, ◌*◌, ◌≡◌, Bool, true, false, refl, sym, ◌∙◌, ap, subst, List, [], ◌∷◌, map, get_or}
use Rattle.boxcar.specs.Slot.{Named}
use Rattle.boxcar.specs.Table.{Shows, Where, id_at}
use Rattle.tide_grow_shape.specs.transitions.Cells.{IsNumber, Shown, last_in, name_of}
use Rattle.tide_grow_shape.specs.transitions.Rules.{IsChild}
use Rattle.tide_grow_shape.specs.transitions.Sights.{cell_number}
use Rattle.tide_grow_shape.specs.declared.transitions.cells.Cells.{Cells}
use Rattle.tide_grow_shape.specs.declared.transitions.cells.Item.{Item}

-- the cell of a bucket is in the name of its table
id_in : (buckets : List Named) (n : ℕ) → get_or (map (λ b. b.id) buckets) n 0 ≡ id_at buckets n
id_in [] n = refl
id_in (b ∷ bs) zero = refl
id_in (b ∷ bs) (suc n) = id_in bs n

name_at : (cells : Cells) (n : ℕ) → get_or (name_of cells) (n + 3) 0 ≡ id_at cells.items.buckets n
name_at cells n = let e : n + 3 ≡ suc (suc (suc n)) = omega arith in ap (λ (k : ℕ). get_or (name_of cells) k 0) e ∙ id_in cells.items.buckets n

-- an item that is shown to be in a table's vector is in the table of that name, and the other way round
pub shown : (cells : Cells) (item : Where Item) → Shows cells.items item → Shown (name_of cells) item
shown cells item is = is ∙ sym (name_at cells item.bucket)

pub shows : (cells : Cells) (item : Where Item) → Shown (name_of cells) item → Shows cells.items item
shows cells item is = is ∙ name_at cells item.bucket

-- a cell of a table may name the numbers of its shapes, and no other
pub may_name : (name tag : List ℕ) (number : ℕ) → tag ≡ last_in name ∷ [] → IsNumber name number → IsChild tag number
may_name name tag number is may = subst (λ (t : List ℕ). IsChild t number) (sym is) may

pub may_be_named : (name tag : List ℕ) (number : ℕ) → tag ≡ last_in name ∷ [] → IsChild tag number → IsNumber name number
may_be_named name tag number is may = subst (λ (t : List ℕ). IsChild t number) is may

-- cells with one number are one cell
pub cell_number-shape : (next other : Bool) (shape of : ℕ) → cell_number next shape ≡ cell_number other of → shape ≡ of
cell_number-shape true true shape of same = let e : shape * 2 + 1 ≡ of * 2 + 1 = same in omega (arith, e)
cell_number-shape true false shape of same = let e : shape * 2 + 1 ≡ of * 2 + 0 = same in omega (arith, e)
cell_number-shape false true shape of same = let e : shape * 2 + 0 ≡ of * 2 + 1 = same in omega (arith, e)
cell_number-shape false false shape of same = let e : shape * 2 + 0 ≡ of * 2 + 0 = same in omega (arith, e)

pub cell_number-next : (next other : Bool) (shape of : ℕ) → cell_number next shape ≡ cell_number other of → next ≡ other
cell_number-next true true shape of same = refl
cell_number-next true false shape of same = let e : shape * 2 + 1 ≡ of * 2 + 0 = same in absurd (omega (arith, e))
cell_number-next false true shape of same = let e : shape * 2 + 0 ≡ of * 2 + 1 = same in absurd (omega (arith, e))
cell_number-next false false shape of same = refl
