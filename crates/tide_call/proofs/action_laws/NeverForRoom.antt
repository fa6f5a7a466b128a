-- No action refuses a call for want of room: of that no word of the mutator's own tells.
use Rattle.std.proofs.Common.{ℕ, ◌≡◌, refl, sym, ◌∙◌, ap, subst, Bool, true, false, List, [], ◌∷◌, length, Option, None, Some}
use Rattle.std.specs.Prelude.{◌==◌, ◌&&◌, nat_le, nat_lt, not, if◌then◌else◌}
use Rattle.tide_model.specs.declared.op.Op.{Op}
use Rattle.tide_model.specs.declared.op.Op.TheVariants.{Alloc, Table, Get, Put, Move, Set, Drop, Claim, Release, Unclaim, Add, GetProp, SetProp, StrongSet, StrongGet, WeakSet, WeakGet, PairSet, PairGet, PairDel, Group, Collect, Retire}
use Rattle.tide_model.specs.declared.op.Refusal.{Refusal}
use Rattle.tide_model.specs.declared.op.Refusal.TheVariants as refusal
use Rattle.tide_model.specs.declared.val.Val.{Val}
use Rattle.tide_model.specs.declared.val.Val.TheVariants.{Cell, Empty, Int}
use Rattle.tide_model.specs.Layout.{Layout, class_of, slots_of}
use Rattle.tide_model.specs.Refused.{ShapeLists, claims_most, first_of, has_key, has_pair, held_by, holders_of, holds, is_table, may_add, pair_count, pair_refusal, pairs_most, property_refusal, refusal_at, refusal_of, refuse_if, slot_refusal}
use Rattle.tide_model.specs.State.{State}
use Rattle.tide_words.specs.heap.Heap.{Heap}
use Rattle.tide_call.specs.declared.action.Action.{Action}
use Rattle.tide_call.specs.declared.action.Action.TheVariants as action
use Rattle.tide_call.specs.Callers.{Planner}
use Rattle.tide_call.specs.Actions.{IsAction}

-- a refusal for want of room
abbrev pub is_for_room : Option Refusal → Bool
is_for_room (Some (refusal.Full class)) = true
is_for_room _ = false

room_if : (b : Bool) (one : Refusal) → is_for_room (Some one) ≡ false → is_for_room (refuse_if b one) ≡ false
room_if true one isnt = isnt
room_if false one isnt = refl

room_first : (one : Option Refusal) (others : List (Option Refusal)) → is_for_room one ≡ false → is_for_room (first_of others) ≡ false →
    is_for_room (first_of (one ∷ others)) ≡ false
room_first None others isnt rest = rest
room_first (Some one) others isnt rest = isnt

room_at : (value : Val) (register : ℕ) (further : ℕ → Option Refusal) → ((cell : ℕ) → is_for_room (further cell) ≡ false) →
    is_for_room (refusal_at value register further) ≡ false
room_at Empty register further each = refl
room_at (Int n) register further each = refl
room_at (Cell cell) register further each = each cell

room_held : (holders : List ℕ) → is_for_room (held_by holders) ≡ false
room_held [] = refl
room_held (holder ∷ others) = refl

room_of_slot : (layout : Layout) (value : Val) (register slot : ℕ) → is_for_room (slot_refusal layout value register slot) ≡ false
room_of_slot layout Empty register slot = refl
room_of_slot layout (Int n) register slot = refl
room_of_slot layout (Cell cell) register slot = by_tests (is_table layout cell) (nat_lt slot (slots_of (class_of layout cell)))
  where
    by_tests : (table below : Bool) →
        is_for_room (if table then Some refusal.IsTable else if below then None else Some (refusal.NoSlot slot)) ≡ false
    by_tests true below = refl
    by_tests false true = refl
    by_tests false false = refl

module _ (layout : Layout) (shapes : ShapeLists) (state : State) (who : ℕ) where
  room_of_pair : (table_register key_register : ℕ) (further : ℕ → ℕ → Option Refusal) →
      ((table cell : ℕ) → is_for_room (further table cell) ≡ false) →
      is_for_room (pair_refusal layout state who table_register key_register further) ≡ false
  room_of_pair table_register key_register further each =
      room_at (state.registers who table_register) table_register _ (λ table.
      room_at (state.registers who key_register) key_register _ (λ cell.
      room_first _ _ (room_if (not (is_table layout table)) refusal.NotTable refl)
      (room_first _ _ (room_if (not (holds state who table)) refusal.NotHeld refl) (room_first _ _ (each table cell) refl))))

  room_of_property : (register key : ℕ) → is_for_room (property_refusal layout state who register key) ≡ false
  room_of_property register key = room_at (state.registers who register) register _ (λ cell.
      room_first _ _ (room_if (is_table layout cell) refusal.IsTable refl)
      (room_first _ _ (room_if (not (holds state who cell)) refusal.NotHeld refl)
      (room_first _ _ (room_if (not (has_key state cell key)) refusal.Absent refl) refl)))

  -- no operation is refused for room by a state alone
  pub never_for_room : (op : Op) → is_for_room (refusal_of layout shapes state who op) ≡ false
  never_for_room (Alloc dst class) = refl
  never_for_room (Table dst) = refl
  never_for_room (Get dst src slot) = room_of_slot layout (state.registers who src) src slot
  never_for_room (Put src slot val) = room_of_slot layout (state.registers who src) src slot
  never_for_room (Move dst src) = refl
  never_for_room (Set dst n) = refl
  never_for_room (Drop dst) = refl
  never_for_room (Claim src) = room_at (state.registers who src) src _ (λ cell.
      room_first _ _ (room_held (holders_of layout state cell))
      (room_first _ _ (room_if (nat_le claims_most (length (state.claims who))) refusal.ClaimsFull refl) refl))
  never_for_room (Release src) = room_at (state.registers who src) src _ (λ cell. room_if (not (holds state who cell)) refusal.NotHeld refl)
  never_for_room Unclaim = room_if (length (state.claims who) == 0) refusal.NotHeld refl
  never_for_room (Add src key val) = room_at (state.registers who src) src _ (λ cell.
      room_first _ _ (room_if (is_table layout cell) refusal.IsTable refl)
      (room_first _ _ (room_if (not (holds state who cell)) refusal.NotHeld refl)
      (room_first _ _ (room_if (has_key state cell key) refusal.Present refl)
      (room_first _ _ (room_if (not (may_add shapes state cell key)) refusal.NoShape refl) refl))))
  never_for_room (GetProp dst src key) = room_of_property src key
  never_for_room (SetProp src key val) = room_of_property src key
  never_for_room (StrongSet at val) = refl
  never_for_room (StrongGet dst at) = refl
  never_for_room (WeakSet at val) = refl
  never_for_room (WeakGet dst at) = refl
  never_for_room (PairSet src key val) = room_of_pair src key _ (λ table cell.
      room_if (not (has_pair state table cell) && nat_le pairs_most (pair_count layout state table)) refusal.PairsFull refl)
  never_for_room (PairGet dst src key) = room_of_pair src key _ (λ table cell. room_if (not (has_pair state table cell)) refusal.Absent refl)
  never_for_room (PairDel src key) = room_of_pair src key _ (λ table cell. room_if (not (has_pair state table cell)) refusal.Absent refl)
  never_for_room (Group src n) = room_at (state.registers who src) src _ (λ cell. refl)
  never_for_room Collect = refl
  never_for_room Retire = refl

-- so an action that refuses for room is of no call
pub no_action_for_room : (caller : Planner) (heap : Heap) (state : State) (op : Op) (does : Action) (class : ℕ) → IsAction caller heap state op does →
    does ≡ action.Refuse (refusal.Full class) → ⊥
no_action_for_room caller heap state op does class is same =
    absurd (
    let refused = subst (λ (one : Action). IsAction caller heap state op one) same is in
    let never = never_for_room caller.layout caller.shapes state caller.who op in
    let bad = sym never ∙ ap is_for_room refused in cc)
