-- What refuses an operation where the first tests are known.
use Rattle.std.proofs.Common.{ℕ, ◌≡◌, ◌∙◌, ap, Bool, true, false, List, [], ◌∷◌, Option, None, Some}
use Rattle.std.proofs.lemmas.Option.{none-some}
use Rattle.std.specs.Prelude.{if◌then◌else◌, nat_lt, not}
use Rattle.tide_model.specs.declared.op.Refusal.{Refusal}
use Rattle.tide_model.specs.declared.op.Refusal.TheVariants.{IsTable, NoShape, NoSlot, NotHeld, NotTable, Present}
use Rattle.tide_model.specs.declared.val.Val.{Val}
use Rattle.tide_model.specs.declared.val.Val.TheVariants.{Cell, Empty, Int}
use Rattle.tide_model.specs.Layout.{Layout, class_of, slots_of}
use Rattle.tide_model.specs.Refused.{first_of, holder_refusal, holds, is_table, pair_refusal, refusal_at, refuse_if, slot_refusal}
use Rattle.tide_model.specs.State.{State}

-- a register without a cell refuses an operation on a slot
pub slot_refusal-none : (layout : Layout) (value : Val) (register slot : ℕ) (refusal : Refusal) →
    ((further : ℕ → Option Refusal) → refusal_at value register further ≡ Some refusal) →
    slot_refusal layout value register slot ≡ Some refusal
slot_refusal-none layout Empty register slot refusal refused = refused (λ cell. None)
slot_refusal-none layout (Int n) register slot refusal refused = refused (λ cell. None)
slot_refusal-none layout (Cell cell) register slot refusal refused = absurd (none-some refusal (refused (λ at. None)))

-- what refuses an operation on a slot of the cell that a register holds, by its two tests
module _ (layout : Layout) (value : Val) (register slot cell : ℕ) (source : value ≡ Cell cell) where
  abbrev tests : Bool → Bool → Option Refusal
  tests table within = if table then Some IsTable else if within then None else Some (NoSlot slot)

  by_slot : slot_refusal layout value register slot ≡ tests (is_table layout cell) (nat_lt slot (slots_of (class_of layout cell)))
  by_slot = ap (λ (v : Val). slot_refusal layout v register slot) source

  pub slot_refusal-table : is_table layout cell ≡ true → slot_refusal layout value register slot ≡ Some IsTable
  slot_refusal-table is = by_slot ∙ ap (λ (table : Bool). tests table (nat_lt slot (slots_of (class_of layout cell)))) is

  pub slot_refusal-lacks : is_table layout cell ≡ false → nat_lt slot (slots_of (class_of layout cell)) ≡ false →
      slot_refusal layout value register slot ≡ Some (NoSlot slot)
  slot_refusal-lacks isnt lacks = by_slot ∙ (λ i. tests (isnt i) (lacks i))

  pub slot_refusal-has : is_table layout cell ≡ false → nat_lt slot (slots_of (class_of layout cell)) ≡ true →
      slot_refusal layout value register slot ≡ None
  slot_refusal-has isnt has = by_slot ∙ (λ i. tests (isnt i) (has i))

-- the last refusal, by its test
pub last_refusal : (test known : Bool) (refusal : Refusal) → test ≡ known →
    first_of (refuse_if test refusal ∷ []) ≡ first_of (refuse_if known refusal ∷ [])
last_refusal test known refusal is = ap (λ (b : Bool). first_of (refuse_if b refusal ∷ [])) is

-- the two last refusals of an addition, by their tests
pub addition_refusals : (present declared known new : Bool) → present ≡ known → declared ≡ new →
    first_of (refuse_if present Present ∷ refuse_if (not declared) NoShape ∷ [])
    ≡ first_of (refuse_if known Present ∷ refuse_if (not new) NoShape ∷ [])
addition_refusals present declared known new is_known is_new =
    λ i. first_of (refuse_if (is_known i) Present ∷ refuse_if (not (is_new i)) NoShape ∷ [])

-- a present key refuses an addition whatever the shapes
pub present_refused : (declared : Bool) → first_of (refuse_if true Present ∷ refuse_if declared NoShape ∷ []) ≡ Some Present
present_refused declared = λ i. Some Present

-- a key register without a cell refuses an operation on a pair of the cell that the other register holds
pub pair_refusal-key : (layout : Layout) (state : State) (who src register table : ℕ) (further : ℕ → ℕ → Option Refusal)
    (refusal : Refusal) → state.registers who src ≡ Cell table →
    ((after : ℕ → Option Refusal) → refusal_at (state.registers who register) register after ≡ Some refusal) →
    pair_refusal layout state who src register further ≡ Some refusal
pair_refusal-key layout state who src register table further refusal source refused =
    ap (λ (v : Val). refusal_at v src (λ t. refusal_at (state.registers who register) register (λ k. first_of (
    refuse_if (not (is_table layout t)) NotTable ∷ refuse_if (not (holds state who t)) NotHeld ∷ further t k ∷ []))))
    source
    ∙ refused (λ k. first_of (refuse_if (not (is_table layout table)) NotTable
    ∷ refuse_if (not (holds state who table)) NotHeld ∷ further table k ∷ []))

-- what refuses an operation on the pair of a table and a key cell that two registers hold, by its first two tests
module _ (layout : Layout) (state : State) (who src register table key : ℕ) (further : ℕ → ℕ → Option Refusal)
    (source : state.registers who src ≡ Cell table) (is_key : state.registers who register ≡ Cell key) where
  abbrev tested : Bool → Bool → Option Refusal
  tested one held = first_of (refuse_if (not one) NotTable ∷ refuse_if (not held) NotHeld ∷ further table key ∷ [])

  by_tests : pair_refusal layout state who src register further ≡ tested (is_table layout table) (holds state who table)
  by_tests =
      ap (λ (v : Val). refusal_at v src (λ t. refusal_at (state.registers who register) register (λ k. first_of (
      refuse_if (not (is_table layout t)) NotTable ∷ refuse_if (not (holds state who t)) NotHeld ∷ further t k ∷ []))))
      source
      ∙ ap (λ (v : Val). refusal_at v register (λ k. first_of (refuse_if (not (is_table layout table)) NotTable
      ∷ refuse_if (not (holds state who table)) NotHeld ∷ further table k ∷ []))) is_key

  pub pair_refusal-table : is_table layout table ≡ false →
      pair_refusal layout state who src register further ≡ Some NotTable
  pair_refusal-table isnt = by_tests ∙ ap (λ (one : Bool). tested one (holds state who table)) isnt

  pub pair_refusal-held : is_table layout table ≡ true → holds state who table ≡ false →
      pair_refusal layout state who src register further ≡ Some NotHeld
  pair_refusal-held is isnt = by_tests ∙ (λ i. tested (is i) (isnt i))

  pub pair_refusal-further : is_table layout table ≡ true → holds state who table ≡ true →
      pair_refusal layout state who src register further ≡ first_of (further table key ∷ [])
  pair_refusal-further is held = by_tests ∙ (λ i. tested (is i) (held i))

-- what refuses an operation on the properties of the cell that a register holds, by its first two tests
module _ (layout : Layout) (state : State) (who src cell : ℕ) (further : ℕ → List (Option Refusal))
    (source : state.registers who src ≡ Cell cell) where
  abbrev asked : Bool → Bool → Option Refusal
  asked table held = first_of (refuse_if table IsTable ∷ refuse_if (not held) NotHeld ∷ further cell)

  by_holder : holder_refusal layout state who src further ≡ asked (is_table layout cell) (holds state who cell)
  by_holder = ap (λ (v : Val). refusal_at v src (λ t. first_of (refuse_if (is_table layout t) IsTable
      ∷ refuse_if (not (holds state who t)) NotHeld ∷ further t))) source

  pub holder_refusal-table : is_table layout cell ≡ true → holder_refusal layout state who src further ≡ Some IsTable
  holder_refusal-table is = by_holder ∙ ap (λ (table : Bool). asked table (holds state who cell)) is

  pub holder_refusal-held : is_table layout cell ≡ false → holds state who cell ≡ false →
      holder_refusal layout state who src further ≡ Some NotHeld
  holder_refusal-held isnt not_held = by_holder ∙ (λ i. asked (isnt i) (not_held i))

  pub holder_refusal-further : is_table layout cell ≡ false → holds state who cell ≡ true →
      holder_refusal layout state who src further ≡ first_of (further cell)
  holder_refusal-further isnt held = by_holder ∙ (λ i. asked (isnt i) (held i))
