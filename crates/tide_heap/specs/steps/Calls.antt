-- What a call of a pass asks, and what it tells.
use Rattle.std.specs.Prelude.{ℕ, ◌≡◌, ◌<◌, true}
use Rattle.tide_core.specs.tide_layout.Region.{place_in, size_of}
use Rattle.tide_core.specs.tide_layout.declared.region.Region.{Region}
use Rattle.tide_core.specs.machine.Kind.{Kind, ZeroWord}
use Rattle.tide_core.specs.declared.machine.act.Act.{Act}
use Rattle.tide_core.specs.declared.machine.act.Act.TheVariants.{Load, Store, Swap, And, Or, Exchange}
use Rattle.tide_heap.specs.steps.Follows.{MayStep, Follows}
use Rattle.tide_heap.specs.declared.heap.Heap.{Heap}
use Rattle.tide_heap.specs.declared.steps.pass.Pass.{Pass}
use Rattle.tide_model.specs.Refused.{ShapeLists}
use Rattle.tide_core.specs.tide_sweep.Running.{IsDeadPlace}

-- below, the lists of keys are those of the shapes that a heap was made of
module _ {S : Type 0} (lists : S → ShapeLists) where
  -- The pass can make a step of this kind: it is one of the heap, it runs, and whatever the machine is then, it is
  -- allowed the step.
  pub record CanStep (heap : Heap S) (pass : Pass) (kind : Kind) : Type 0 where
    pub own : pass.seat.table_id ≡ heap.table.shared.table_id
    pub runs : pass.seat.me.0.runs ≡ true
    pub may : MayStep heap.key.layout (lists heap.key.shapes) pass.seat.me.0 kind

  -- it is the same pass, and has made a step of this kind, which found this word
  pub record HasStepped (heap : Heap S) (kind : Kind) (old : Pass) (read : ℕ) (new : Pass) : Type 0 where
    pub table : new.seat.table_id ≡ old.seat.table_id
    pub seat : new.seat.id ≡ old.seat.id
    pub follows : Follows heap.key.layout (lists heap.key.shapes) kind old.seat.me.0 read new.seat.me.0

  -- it has made a store of this kind, which doesn't tell the word that was there
  abbrev pub HasStored : Heap S → Kind → Pass → Pass → Type 0
  HasStored heap kind old new = (read : ℕ) × HasStepped heap kind old read new

  -- it has made a step of this kind with this operation
  abbrev pub HasActed : Act → Heap S → Kind → Pass → ℕ → Pass → Type 0
  HasActed Load heap kind old read new = HasStepped heap kind old read new
  HasActed (Store word) heap kind old read new = HasStored heap kind old new
  HasActed Swap heap kind old read new = HasStepped heap kind old read new
  HasActed (And mask) heap kind old read new = HasStepped heap kind old read new
  HasActed (Or mask) heap kind old read new = HasStepped heap kind old read new
  HasActed (Exchange before after) heap kind old read new = HasStepped heap kind old read new

  -- it can zero the word at this place, which is one of what is dead in a block with these dead bits
  pub record CanZero (heap : Heap S) (pass : Pass) (at : ℕ) : Type 0 where
    pub block : ℕ
    pub bits : ℕ
    pub place : IsDeadPlace heap.key.layout block bits at
    pub can : CanStep heap pass (ZeroWord place.region place.index)

  -- it has zeroed the word at this place: no other word has it
  abbrev pub HasZeroed : Heap S → Pass → ℕ → Pass → Type 0
  HasZeroed heap old at new = (region : Region) (index : ℕ) → index < size_of heap.key.layout region →
      place_in heap.key.layout region index ≡ at → HasStored heap (ZeroWord region index) old new
