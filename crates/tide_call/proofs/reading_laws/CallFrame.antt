-- Which regions a call leaves.
use Rattle.std.proofs.Common.{ℕ, ◌≡◌, refl, ◌∙◌, true, false, Option, Some, None}
use Rattle.tide_words.specs.tide_layout.declared.region.Region.{Region}
use Rattle.tide_words.specs.tide_layout.declared.region.Region.TheVariants.{Active, Claim, Elements, Free, Group, Registers, Slots, Strong, Structure, Weak}
use Rattle.tide_words.specs.tide_layout.Region.{index_of_register}
use Rattle.tide_model.specs.declared.op.Op.{Op}
use Rattle.tide_model.specs.declared.op.Op.TheVariants as op
use Rattle.tide_model.specs.declared.op.Reply.{Reply}
use Rattle.tide_model.specs.declared.op.Reply.TheVariants.{Done, Born, Seen, Refused}
use Rattle.tide_model.specs.declared.val.Val.{Val}
use Rattle.tide_model.specs.declared.val.Val.TheVariants.{Cell, Empty, Int}
use Rattle.tide_model.specs.Layout.{Layout}
use Rattle.tide_model.specs.Refused.{ShapeLists}
use Rattle.tide_model.specs.State.{State}
use Rattle.tide_words.specs.forms.ValueWord.{val_word}
use Rattle.tide_words.specs.heap.Heap.{Heap, SameIn}
use Rattle.tide_words.specs.heap.Written.{IsWritten}
use Rattle.tide_words.proofs.heap_laws.ReadingLaws.{tags-apart}
use Rattle.tide_words.proofs.heap_laws.WriteLaws.{written-other_region}
use Rattle.tide_call.specs.CallWords.{Adds, Bears, CallWords, Fills, is_kept_region}
use Rattle.tide_call.proofs.reading_laws.GrowthReading.{not_grown}

module _ (layout : Layout) (shapes : ShapeLists) (heap : Heap) (state : State) (who : ℕ) (region : Region)
    (kept : is_kept_region region ≡ true) where
  -- a word of another region is written
  one : (old new : Heap) (other : Region) (index word : ℕ) → is_kept_region other ≡ false →
      IsWritten layout old new other index word → SameIn layout region old new
  one old new other index word is written =
      written-other_region layout old new other index word written region (tags-apart is_kept_region other region is kept)

  fill : (old new : Heap) (dst : ℕ) (value : Val) → Fills layout old who dst value new → SameIn layout region old new
  fill old new dst value written = one old new Registers (index_of_register layout who dst) (val_word value) refl written

  bear : (new : Heap) (dst cell : ℕ) → Bears layout heap who dst cell new → SameIn layout region heap new
  bear new dst cell (taken, bit, filled) index below =
      fill taken new dst (Cell cell) filled index below
      ∙ bit.others region (tags-apart is_kept_region Free region refl kept) index below

  add : (new : Heap) (cell key : ℕ) (value : Val) (took : Option ℕ) →
      Adds layout shapes heap state cell key value took new → SameIn layout region heap new
  add new cell key value None (array, shape, stored, has, is_shape, element, structure) = λ index below.
      one stored new Structure _ _ refl structure index below ∙ one heap stored Elements _ _ refl element index below
  add new cell key value (Some taken) (shape, is_shape, grown) = grown.others region (not_grown is_kept_region refl refl refl refl region kept)

  -- a call leaves each of these regions
  pub CallWords-kept : (operation : Op) (reply : Reply) (took : Option ℕ) (new : Heap) →
      CallWords layout shapes heap state who operation reply took new → SameIn layout region heap new
  CallWords-kept operation (Refused refusal) took new words = words region
  CallWords-kept (op.Alloc dst class) (Born cell) took new words = bear new dst cell words
  CallWords-kept (op.Table dst) (Born cell) took new words = bear new dst cell words
  CallWords-kept (op.Get dst src slot) (Seen value) took new words = fill heap new dst value words
  CallWords-kept (op.Put src slot val) Done took new (cell, is, written) = one heap new Slots _ _ refl written
  CallWords-kept (op.Move dst src) Done took new words = fill heap new dst _ words
  CallWords-kept (op.Set dst n) Done took new words = fill heap new dst (Int n) words
  CallWords-kept (op.Drop dst) Done took new words = fill heap new dst Empty words
  CallWords-kept (op.Claim src) Done took new (cell, is, written) = one heap new Claim _ _ refl written
  CallWords-kept (op.Release src) Done took new (cell, is, written) = one heap new Claim _ _ refl written
  CallWords-kept op.Unclaim Done took new (cell, others, is, written) = one heap new Claim _ _ refl written
  CallWords-kept (op.Add src key val) Done took new (cell, is, words) = add new cell key (state.registers who val) took words
  CallWords-kept (op.GetProp dst src key) (Seen value) took new words = fill heap new dst value words
  CallWords-kept (op.SetProp src key val) Done took new (cell, array, is, has, written) = one heap new Elements _ _ refl written
  CallWords-kept (op.StrongSet handle val) Done took new words = one heap new Strong _ _ refl words
  CallWords-kept (op.StrongGet dst handle) (Seen value) took new words = fill heap new dst value words
  CallWords-kept (op.WeakSet handle val) Done took new words = one heap new Weak _ _ refl words
  CallWords-kept (op.WeakGet dst handle) (Seen value) took new words = fill heap new dst value words
  CallWords-kept (op.PairSet src key val) Done took new (table, cell, place, is_t, is_k, has, stood, written) =
      one heap new Slots _ _ refl written
  CallWords-kept (op.PairGet dst src key) (Seen value) took new words = fill heap new dst value words
  CallWords-kept (op.PairDel src key) Done took new (table, cell, place, is_t, is_k, has, stood, written) =
      one heap new Slots _ _ refl written
  CallWords-kept (op.Group src n) Done took new (cell, is, written) = one heap new Group _ _ refl written
  CallWords-kept op.Retire Done took new words = one heap new Active _ _ refl words
  CallWords-kept operation reply took new words = words region
