-- Register call: a mutator loads or stores one of its own registers, or its call word.
use Rattle.std.specs.Prelude.{ℕ, ◌≡◌, ◌+◌, ◌%◌, ◌^◌, [], length, Option, None, Some}
use Rattle.tide_words.specs.tide_layout.Region.{index_of_register}
use Rattle.tide_words.specs.tide_layout.declared.region.Region.TheVariants as region
use Rattle.tide_core.specs.machine.Entries.{reply_of_call}
use Rattle.tide_core.specs.machine.May.{RunsAsMutator, MayCall, called}
use Rattle.tide_core.specs.machine.Owed.{Owes, without_word}
use Rattle.tide_core.specs.machine.World.{World}
use Rattle.tide_core.specs.declared.machine.view.View.{View}
use Rattle.tide_model.specs.History.{state_after}
use Rattle.tide_model.specs.Layout.{Layout}
use Rattle.tide_model.specs.Refused.{ShapeLists}
use Rattle.tide_model.specs.State.{State}
use Rattle.tide_model.specs.declared.op.Op.{Op}
use Rattle.tide_model.specs.declared.op.Op.TheVariants.{Move, Set, Drop}
use Rattle.tide_model.specs.declared.op.Reply.TheVariants.{Done}
use Rattle.tide_model.specs.declared.val.Val.TheVariants.{Empty, Int}
use Rattle.tide_words.specs.forms.ValueWord.{val_word}

-- a register's word is owed no more, or a call was made
abbrev pub registered_view : Layout → ℕ → ℕ → Option Op → View → View
registered_view layout me register None v =
    record v { owed = without_word region.Registers (index_of_register layout me register) v.owed; known = [] }
registered_view layout me register (Some op) v = called [] v

-- the operation fills this register with the value of this word
abbrev pub StoresRegister : State → ℕ → ℕ → ℕ → Op → Type 0
StoresRegister state me register word (Move dst src) = (dst ≡ register) × (word ≡ val_word (state.registers me src))
StoresRegister state me register word (Set dst n) = (dst ≡ register) × (word ≡ val_word (Int n))
StoresRegister state me register word (Drop dst) = (dst ≡ register) × (word ≡ val_word Empty)
StoresRegister state me register word _ = ⊥

-- a register is loaded by its mutator
abbrev pub MayLoadRegister : Layout → World → ℕ → Type 0
MayLoadRegister layout w me = RunsAsMutator layout w me

-- a register is stored where its word is owed, or by the call that fills it
abbrev pub MayStoreRegister : Layout → ShapeLists → World → ℕ → ℕ → ℕ → Option Op → Type 0
MayStoreRegister layout shapes w me register word None =
    RunsAsMutator layout w me × Owes (w.part me) region.Registers (index_of_register layout me register) word
MayStoreRegister layout shapes w me register word (Some op) =
    MayCall layout shapes w me op Done None × StoresRegister (state_after layout w.log) me register word op

-- the call word tells all calls of its mutator, the one that it makes by this store included
abbrev pub told_view : Option Op → View → View
told_view None v = record v { calls = length v.mine }
told_view (Some op) v = record (called [] v) { calls = length v.mine + 1 }

-- the call word tells how many calls there are, as far as a word can; its store makes those calls that are answered by
-- own words alone and change none: refusals, and Collect
abbrev pub MayStoreCall : Layout → ShapeLists → World → ℕ → ℕ → Option Op → Type 0
MayStoreCall layout shapes w me word None =
    RunsAsMutator layout w me × (word ≡ length (w.part me).mine % 2 ^ 64)
MayStoreCall layout shapes w me word (Some op) =
    MayCall layout shapes w me op (reply_of_call layout shapes (state_after layout w.log) me op) None
    × (word ≡ (length (w.part me).mine + 1) % 2 ^ 64)
