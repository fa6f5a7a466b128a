-- What the action of a growth says where its mutator stands.
use Rattle.std.proofs.Common.{ℕ, zero, suc, ◌≡◌, ◌<◌, refl, sym, ◌∙◌, ap, subst, arith, Bool, true, false, List, [], ◌∷◌, Option, None, Some, inl, inr}
use Rattle.std.specs.Prelude.{Contains, not}
use Rattle.tide_mutator.specs.owed.Calling.{IsCalling}
use Rattle.tide_mutator.specs.owed.Standing.{IsPlanned, MutatorStandsAt, caller_of}
use Rattle.tide_heap.specs.tide_call.Callers.{Planner}
use Rattle.tide_heap.specs.tide_call.Actions.{IsAddition, IsAction, NeedsArray}
use Rattle.tide_heap.specs.tide_call.declared.action.Addition.{Addition}
use Rattle.tide_mutator.specs.calls.Growing.{action_of}
use Rattle.tide_mutator.specs.declared.owed.growth.Growth.{Growth}
use Rattle.tide_heap.specs.tide_layout.Slots.{HasElement, index_of_element}
use Rattle.tide_heap.specs.tide_layout.declared.region.Region.TheVariants as region
use Rattle.tide_heap.specs.tide_core.machine.Entries.{class_for_value, refused_or_full, reply_of_call}
use Rattle.tide_heap.specs.tide_core.declared.machine.view.View.{View}
use Rattle.tide_model.proofs.NumberLaws.{contains_from_among}
use Rattle.tide_model.specs.History.{state_after}
use Rattle.tide_model.specs.Layout.{Layout}
use Rattle.tide_model.specs.References.{IsLive}
use Rattle.tide_model.specs.Refused.{ShapeLists, first_of, has_key, holds, is_table, may_add, refusal_at, refusal_of, refuse_if}
use Rattle.tide_model.specs.State.{State, is_free}
use Rattle.tide_model.specs.declared.entry.Event.{Event}
use Rattle.tide_model.specs.declared.op.Op.{Op}
use Rattle.tide_model.specs.declared.op.Op.TheVariants.{Add, Claim}
use Rattle.tide_model.specs.declared.op.Refusal.{Refusal}
use Rattle.tide_model.specs.declared.op.Refusal.TheVariants.{Full, IsTable, NoShape, NotHeld, Present}
use Rattle.tide_model.specs.declared.op.Reply.TheVariants.{Refused}
use Rattle.tide_model.specs.declared.val.Val.{Val}
use Rattle.tide_model.specs.declared.val.Val.TheVariants.{Cell}
use Rattle.tide_heap.proofs.tide_words.heap_laws.ReadingLaws.{live_within}
use Rattle.tide_heap.specs.tide_words.forms.ValueWord.{val_word}
use Rattle.tide_heap.specs.tide_words.heap.Heap.{Heap}
use Rattle.tide_heap.specs.tide_words.heap.Reading.{CellReads, IsStructureOf, PropertyReads}

-- an addition that nothing refuses is to a cell that its caller claims
held_by : (caller : Planner) (state : State) (src key val cell : ℕ) → state.registers caller.who src ≡ Cell cell →
    refusal_of caller.layout caller.shapes state caller.who (Add src key val) ≡ None →
    holds state caller.who cell ≡ true
held_by caller state src key val cell source none =
    by_tests (is_table caller.layout cell) (holds state caller.who cell) (subst (λ (v : Val). refusal_at v src (λ c.
    first_of (refuse_if (is_table caller.layout c) IsTable ∷ refuse_if (not (holds state caller.who c)) NotHeld
    ∷ refuse_if (has_key state c key) Present ∷ refuse_if (not (may_add caller.shapes state c key)) NoShape ∷ []))
    ≡ None) source none)
  where
    by_tests : (t h : Bool) → first_of (refuse_if t IsTable ∷ refuse_if (not h) NotHeld
        ∷ refuse_if (has_key state cell key) Present ∷ refuse_if (not (may_add caller.shapes state cell key)) NoShape
        ∷ []) ≡ None → h ≡ true
    by_tests true h is = absurd (cc)
    by_tests false true is = refl
    by_tests false false is = absurd (cc)

-- which operation has such an action
pub record IsGrowth (caller : Planner) (state : State) (op : Op) (growth : Growth) : Type 0 where
  pub src : ℕ
  pub key : ℕ
  pub val : ℕ
  pub same : op ≡ Add src key val
  pub granted : refusal_of caller.layout caller.shapes state caller.who op ≡ None
  pub source : state.registers caller.who src ≡ Cell growth.addition.cell
  pub held : holds state caller.who growth.addition.cell ≡ true
  pub adds : IsAddition caller state key growth.addition
  pub needs : NeedsArray state growth.addition.cell growth.class growth.array
  pub is_value : growth.value ≡ state.registers caller.who val

is_growth : (caller : Planner) (heap : Heap) (state : State) (op : Op) (growth : Growth) →
    IsAction caller heap state op (action_of growth) → IsGrowth caller state op growth
is_growth caller heap state (Add src key val) growth (granted, (one, source, adds, does)) = elim does [
  | inl (its, room, same) ↦ absurd (cc)
  | inr (class, its, needs, same) ↦
      let same_addition : one ≡ growth.addition = cc in
      let same_class : class ≡ growth.class = cc in
      let same_array : its ≡ growth.array = cc in
      let given : growth.value ≡ state.registers caller.who val = cc in
      let holds_cell : state.registers caller.who src ≡ Cell growth.addition.cell =
      source ∙ ap (λ (a : Addition). Cell a.cell) same_addition in record {
        src = src;
        key = key;
        val = val;
        same = refl;
        granted = granted;
        source = holds_cell;
        held = held_by caller state src key val growth.addition.cell holds_cell granted;
        adds = subst (IsAddition caller state key) same_addition adds;
        needs = subst (λ (x : Option ℕ). NeedsArray state growth.addition.cell growth.class x) same_array
            (subst (λ (c : ℕ). NeedsArray state growth.addition.cell c its) same_class
            (subst (λ (a : Addition). NeedsArray state a.cell class its) same_addition needs));
        is_value = given;
      }
]
is_growth caller heap state (Claim src) growth is = absurd is.1
is_growth caller heap state op growth is = absurd (cc)

-- where it can't take an array, the call word is answered so
pub full_reply : (caller : Planner) (state : State) (op : Op) (growth : Growth) → IsGrowth caller state op growth →
    reply_of_call caller.layout caller.shapes state caller.who op ≡ Refused (Full growth.class)
full_reply caller state op growth g =
    ap (reply_of_call caller.layout caller.shapes state caller.who) g.same
    ∙ ap (λ (r : Option Refusal). refused_or_full r (class_for_value state (state.registers caller.who g.src)))
    (subst (λ (o : Op). refusal_of caller.layout caller.shapes state caller.who o ≡ None) g.same g.granted)
    ∙ ap (λ (v : Val). Refused (Full (class_for_value state v))) g.source
    ∙ ap (λ (c : ℕ). Refused (Full c)) (sym g.needs.is_class)

module _ (layout : Layout) (shapes : ShapeLists) (v : View) (op : Op) (growth : Growth)
    (calling : IsCalling layout v op) (planned : IsPlanned layout shapes v op (action_of growth)) (heap : Heap)
    (log : List Event) (stands : MutatorStandsAt layout shapes v heap log) where
  abbrev state : State
  state = state_after layout log

  abbrev cell : ℕ
  cell = growth.addition.cell

  pub growth_there : IsGrowth (caller_of layout shapes v) state op growth
  growth_there = is_growth (caller_of layout shapes v) heap state op growth (planned heap log stands)

  pub claimed_there : Contains (state.claims v.who) cell
  claimed_there = contains_from_among (state.claims v.who) cell growth_there.held

  pub alive_there : IsLive state cell
  alive_there = stands.refs.claimed v.who cell claimed_there

  reads_there : CellReads layout shapes heap cell (state.cells cell)
  reads_there = stands.reads.parts.cells cell (live_within layout shapes heap state cell stands.reads alive_there)

  property_there : (place : ℕ) → place < growth.addition.count → PropertyReads layout heap (state.cells cell) place
  property_there place below = reads_there.properties alive_there place
      (let count = growth_there.adds.is_count in omega (arith, below, count))

  -- the structure's word is that of the cell's keys
  pub structure_there : IsStructureOf shapes (state.cells cell).keys (heap region.Structure cell)
  structure_there = (reads_there.taken (ap is_free alive_there)).keys

  -- the cell's array has each property
  pub element_there : (source place : ℕ) → growth.array ≡ Some source → place < growth.addition.count →
      HasElement layout source place × (heap region.Elements (index_of_element layout source place)
      ≡ val_word ((state.cells cell).properties place))
  element_there source place from below =
      let (own, its, has, value) = property_there place below in
      let both : Some own ≡ Some source = sym its ∙ growth_there.needs.is_its ∙ from in
      let same : own ≡ source = cc in (
        subst (λ (a : ℕ). HasElement layout a place) same has,
        sym (subst (λ (a : ℕ). val_word ((state.cells cell).properties place)
            ≡ heap region.Elements (index_of_element layout a place)) same value.is_word),
      )

  -- a cell without an array has no property
  pub bare_there : growth.array ≡ None → growth.addition.count ≡ 0
  bare_there none = by_count growth.addition.count refl
    where
      by_count : (count : ℕ) → growth.addition.count ≡ count → growth.addition.count ≡ 0
      by_count zero is = is
      by_count (suc before) is = absurd (
          let (own, its, has, value) = property_there before (omega (arith, is)) in
          let both : Some own ≡ None = sym its ∙ growth_there.needs.is_its ∙ none in cc)
