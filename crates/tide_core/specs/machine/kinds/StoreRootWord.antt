-- Store root word: a mutator loads or stores a strong or a weak handle.
use Rattle.std.specs.Prelude.{ℕ, ◌≡◌, Option, None, Some}
use Rattle.tide_core.specs.machine.May.{RunsAsMutator, MayCall, called}
use Rattle.tide_core.specs.machine.Owed.{owed_register, filled_register}
use Rattle.tide_core.specs.machine.Words.{value_of}
use Rattle.tide_core.specs.machine.World.{World}
use Rattle.tide_core.specs.declared.machine.view.View.{View}
use Rattle.tide_model.specs.History.{state_after}
use Rattle.tide_model.specs.Layout.{Layout}
use Rattle.tide_model.specs.Refused.{ShapeLists}
use Rattle.tide_model.specs.declared.op.Op.{Op}
use Rattle.tide_model.specs.declared.op.Op.TheVariants.{StrongSet, StrongGet, WeakSet, WeakGet}
use Rattle.tide_model.specs.declared.op.Reply.TheVariants.{Done, Seen}
use Rattle.tide_words.specs.forms.ValueWord.{val_word}

-- after a load that makes a call, the register of the value that was seen is owed
abbrev pub seen_view : Layout → ℕ → ℕ → Option Op → View → View
seen_view layout me read None v = v
seen_view layout me read (Some op) v = called (owed_register layout me (filled_register op) (value_of read)) v

-- a strong handle is loaded, and StrongGet sees it
abbrev pub MayLoadStrong : Layout → ShapeLists → World → ℕ → ℕ → ℕ → Option Op → Type 0
MayLoadStrong layout shapes w me handle read None = RunsAsMutator layout w me
MayLoadStrong layout shapes w me handle read (Some (StrongGet dst at)) =
    (at ≡ handle) × MayCall layout shapes w me (StrongGet dst at) (Seen (value_of read)) None
MayLoadStrong layout shapes w me handle read (Some _) = ⊥

-- a strong handle is stored by StrongSet
abbrev pub MayStoreStrong : Layout → ShapeLists → World → ℕ → ℕ → ℕ → Option Op → Type 0
MayStoreStrong layout shapes w me handle word (Some (StrongSet at val)) =
    (at ≡ handle) × (word ≡ val_word ((state_after layout w.log).registers me val))
    × MayCall layout shapes w me (StrongSet at val) Done None
MayStoreStrong layout shapes w me handle word _ = ⊥

-- a weak handle is loaded, and WeakGet sees it
abbrev pub MayLoadWeak : Layout → ShapeLists → World → ℕ → ℕ → ℕ → Option Op → Type 0
MayLoadWeak layout shapes w me handle read None = RunsAsMutator layout w me
MayLoadWeak layout shapes w me handle read (Some (WeakGet dst at)) =
    (at ≡ handle) × MayCall layout shapes w me (WeakGet dst at) (Seen (value_of read)) None
MayLoadWeak layout shapes w me handle read (Some _) = ⊥

-- a weak handle is stored by WeakSet
abbrev pub MayStoreWeak : Layout → ShapeLists → World → ℕ → ℕ → ℕ → Option Op → Type 0
MayStoreWeak layout shapes w me handle word (Some (WeakSet at val)) =
    (at ≡ handle) × (word ≡ val_word ((state_after layout w.log).registers me val))
    × MayCall layout shapes w me (WeakSet at val) Done None
MayStoreWeak layout shapes w me handle word _ = ⊥
