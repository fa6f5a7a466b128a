-- Store plain word: the claimer of a table loads or stores the word of a pair, and a mutator stores a group word.
use Rattle.std.specs.Prelude.{ℕ, ◌≡◌, ◌∷◌, [], true, Contains, Option, None, Some}
use Rattle.tide_call.specs.CallWords.{IsPlaceFor, HasPairAt}
use Rattle.tide_words.specs.tide_layout.Slots.{index_of_slot, HasSlot}
use Rattle.tide_words.specs.tide_layout.declared.region.Region.TheVariants as region
use Rattle.tide_core.specs.machine.May.{RunsAsMutator, MayCall, called}
use Rattle.tide_core.specs.machine.Owed.{owed_word, owed_register, filled_register}
use Rattle.tide_core.specs.machine.Words.{value_of_pair}
use Rattle.tide_core.specs.machine.World.{World}
use Rattle.tide_core.specs.declared.machine.view.View.{View}
use Rattle.tide_model.specs.History.{state_after}
use Rattle.tide_model.specs.Layout.{Layout}
use Rattle.tide_model.specs.Refused.{is_table, ShapeLists}
use Rattle.tide_model.specs.declared.op.Op.{Op}
use Rattle.tide_model.specs.declared.op.Op.TheVariants.{PairSet, PairGet, PairDel, Group}
use Rattle.tide_model.specs.declared.op.Reply.TheVariants.{Done, Seen}
use Rattle.tide_model.specs.declared.val.Val.TheVariants.{Cell}
use Rattle.tide_words.specs.forms.PairWord.{pair_word}

-- a pair's word is known, or PairGet saw its value
abbrev pub paired_view : Layout → ℕ → ℕ → ℕ → ℕ → Option Op → View → View
paired_view layout me table place read None v =
    record v { known = owed_word region.Slots (index_of_slot layout table place) read ∷ v.known }
paired_view layout me table place read (Some op) v =
    called (owed_register layout me (filled_register op) (value_of_pair read)) v

-- the mutator claims the table
pub record IsOwnPair (layout : Layout) (w : World) (me table place : ℕ) : Type 0 where
  pub claimed : Contains ((state_after layout w.log).claims me) table
  pub is_one : is_table layout table ≡ true
  pub has : HasSlot layout table place

-- a pair's word is loaded by the claimer of its table, which owes nothing, or seen by PairGet
abbrev pub MayLoadPair : Layout → ShapeLists → World → ℕ → ℕ → ℕ → ℕ → Option Op → Type 0
MayLoadPair layout shapes w me table place read None =
    RunsAsMutator layout w me × IsOwnPair layout w me table place × ((w.part me).owed ≡ [])
MayLoadPair layout shapes w me table place read (Some (PairGet dst src key)) =
    IsOwnPair layout w me table place × ((state_after layout w.log).registers me src ≡ Cell table)
    × MayCall layout shapes w me (PairGet dst src key) (Seen (value_of_pair read)) None
MayLoadPair layout shapes w me table place read (Some _) = ⊥

-- PairSet stores a pair of the key's cell, at the place that the cell has, or else at the first that is empty
pub record SetsPair (layout : Layout) (shapes : ShapeLists) (w : World) (me table place word src key val : ℕ) : Type 0
  where
    pub own : IsOwnPair layout w me table place
    pub source : (state_after layout w.log).registers me src ≡ Cell table
    pub cell : ℕ
    pub is_key : (state_after layout w.log).registers me key ≡ Cell cell
    pub is_word : word ≡ pair_word cell ((state_after layout w.log).registers me val)
    pub is_place : IsPlaceFor layout w.heap (state_after layout w.log) table place cell
    pub may : MayCall layout shapes w me (PairSet src key val) Done None

-- PairDel stores 0 at the place of the key's cell
pub record DropsPair (layout : Layout) (shapes : ShapeLists) (w : World) (me table place word src key : ℕ) : Type 0
  where
    pub own : IsOwnPair layout w me table place
    pub source : (state_after layout w.log).registers me src ≡ Cell table
    pub cell : ℕ
    pub is_key : (state_after layout w.log).registers me key ≡ Cell cell
    pub is_word : word ≡ 0
    pub has_pair : HasPairAt layout w.heap table place cell
    pub may : MayCall layout shapes w me (PairDel src key) Done None

-- a pair is stored by PairSet and PairDel
abbrev pub MayStorePair : Layout → ShapeLists → World → ℕ → ℕ → ℕ → ℕ → Option Op → Type 0
MayStorePair layout shapes w me table place word (Some (PairSet src key val)) =
    SetsPair layout shapes w me table place word src key val
MayStorePair layout shapes w me table place word (Some (PairDel src key)) =
    DropsPair layout shapes w me table place word src key
MayStorePair layout shapes w me table place word _ = ⊥

-- a group word is stored by Group
abbrev pub MayStoreGroup : Layout → ShapeLists → World → ℕ → ℕ → ℕ → Option Op → Type 0
MayStoreGroup layout shapes w me cell word (Some (Group src n)) =
    ((state_after layout w.log).registers me src ≡ Cell cell) × (word ≡ n)
    × MayCall layout shapes w me (Group src n) Done None
MayStoreGroup layout shapes w me cell word _ = ⊥
