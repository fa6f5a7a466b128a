-- Store link: a mutator stores a slot of a cell by Put, and owes the barrier on the cell where it stored a reference.
use Rattle.std.specs.Prelude.{ℕ, ◌≡◌, ◌<◌, [], Option, None, Some}
use Rattle.tide_core.specs.machine.May.{MayCall, called, barrier_for}
use Rattle.tide_core.specs.machine.World.{World}
use Rattle.tide_core.specs.declared.machine.view.View.{View}
use Rattle.tide_model.specs.History.{state_after}
use Rattle.tide_model.specs.Layout.{Layout, class_of, slots_of}
use Rattle.tide_model.specs.Refused.{ShapeLists}
use Rattle.tide_model.specs.declared.op.Op.{Op}
use Rattle.tide_model.specs.declared.op.Op.TheVariants.{Put}
use Rattle.tide_model.specs.declared.op.Reply.TheVariants.{Done}
use Rattle.tide_model.specs.declared.val.Val.TheVariants.{Cell}
use Rattle.tide_words.specs.forms.ValueWord.{val_word}

-- the mutator's call has its entry, and owes the barrier that the word asks for
abbrev pub linked_view : ℕ → ℕ → View → View
linked_view cell word v = record (called [] v) { duty = barrier_for cell word }

-- the slot is stored by Put
abbrev pub MayStoreLink : Layout → ShapeLists → World → ℕ → ℕ → ℕ → ℕ → Option Op → Type 0
MayStoreLink layout shapes w me cell slot word (Some (Put src n val)) =
    (n ≡ slot) × (slot < slots_of (class_of layout cell)) × ((state_after layout w.log).registers me src ≡ Cell cell)
    × (word ≡ val_word ((state_after layout w.log).registers me val)) ×
    MayCall layout shapes w me (Put src n val) Done None
MayStoreLink layout shapes w me cell slot word _ = ⊥
