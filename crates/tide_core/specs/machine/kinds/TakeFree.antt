-- Take free bit: a mutator clears a free bit, and the cell is born if the bit was set.
use Rattle.std.specs.Int.{bit_at}
use Rattle.std.specs.Prelude.{ℕ, ◌≡◌, ◌+◌, ◌*◌, ◌<◌, List, ◌==◌, if◌then◌else◌, Option, None, Some}
use Rattle.tide_core.specs.machine.May.{RunsAsMutator, MayCall, called}
use Rattle.tide_core.specs.machine.Owed.{owed_register, filled_register}
use Rattle.tide_core.specs.machine.World.{World}
use Rattle.tide_core.specs.declared.machine.view.Duty.TheVariants as duty
use Rattle.tide_core.specs.declared.machine.view.View.{View}
use Rattle.tide_core.specs.machine.kinds.LoadFree.{looked_view}
use Rattle.tide_model.specs.Layout.{Layout, cell_count}
use Rattle.tide_model.specs.Refused.{ShapeLists}
use Rattle.tide_model.specs.declared.entry.Event.{Event}
use Rattle.tide_model.specs.declared.op.Op.{Op}
use Rattle.tide_model.specs.declared.op.Op.TheVariants.{Alloc, Table}
use Rattle.tide_model.specs.declared.op.Reply.TheVariants.{Born}
use Rattle.tide_model.specs.declared.val.Val.TheVariants.{Cell}

-- the taker owes the cell's register and its colour; a take that was lost is one that looked
abbrev pub taken_view : Layout → List Event → ℕ → ℕ → ℕ → Option Op → ℕ → View → View
taken_view layout log me block k None read v = v
taken_view layout log me block k (Some op) read v =
    if bit_at read k == 1 then record (called (owed_register layout me (filled_register op) (Cell (64 * block + k))) v) {
      duty = duty.Born (64 * block + k);
      born = v.born + 1;
    }
    else looked_view log block read v

-- the operation takes a cell
abbrev pub TakesCell : Op → Type 0
TakesCell (Alloc dst class) = Unit {0}
TakesCell (Table dst) = Unit {0}
TakesCell _ = ⊥

-- a free bit is cleared by Alloc or Table
abbrev pub MayTakeFree : Layout → ShapeLists → World → ℕ → ℕ → ℕ → ℕ → Option Op → Type 0
MayTakeFree layout shapes w me block k read None = ⊥
MayTakeFree layout shapes w me block k read (Some op) =
    RunsAsMutator layout w me × TakesCell op × (k < 64) × (64 * block + k < cell_count layout)
    × (bit_at read k ≡ 1 → MayCall layout shapes w me op (Born (64 * block + k)) None)
