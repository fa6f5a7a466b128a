-- What carrying out an action needs of the words holds wherever the action is of a call that may be made.
use Rattle.std.proofs.Common.{ℕ, ◌≡◌, ◌+◌, ◌<◌, ◌≤◌, refl, sym, ◌∙◌, ap, subst, arith, Bool, true, false, List, [], ◌∷◌, ◌++◌, length, Option, None, Some, inl, inr}
use Rattle.std.proofs.lemmas.Bool.{cases_lt}
use Rattle.std.proofs.lemmas.Option.{same_Some}
use Rattle.std.specs.Prelude.{Contains, IfSome, nat_lt, not, if◌then◌else◌}
use Rattle.tide_words.specs.tide_layout.Limits.{IsWithinLimits}
use Rattle.tide_words.specs.tide_layout.Slots.{HasElement}
use Rattle.tide_words.proofs.tide_layout.LimitLaws.{few_cells}
use Rattle.tide_model.specs.declared.op.Op.{Op}
use Rattle.tide_model.specs.declared.op.Op.TheVariants.{Alloc, Table, Get, Put, Move, Set, Drop, Claim, Release, Unclaim, Add, GetProp, SetProp, StrongSet, StrongGet, WeakSet, WeakGet, PairSet, PairGet, PairDel, Group, Collect, Retire}
use Rattle.tide_model.specs.declared.op.Refusal.TheVariants.{Absent, IsTable, NotHeld}
use Rattle.tide_model.specs.declared.val.Val.TheVariants.{Cell}
use Rattle.tide_model.specs.Applied.{place_of}
use Rattle.tide_model.specs.Lawful.{FitsLayout}
use Rattle.tide_model.specs.Layout.{array_class_for, array_count, cell_count}
use Rattle.tide_model.specs.References.{ClaimsAreOwn, IsLive, RefsAreLive}
use Rattle.tide_model.specs.Refused.{first_of, has_key, holds, is_table, property_refusal, refusal_of, refuse_if, slot_refusal}
use Rattle.tide_model.specs.State.{State, is_free}
use Rattle.tide_model.proofs.ReferenceLaws.{place_of-below}
use Rattle.tide_words.specs.heap.Heap.{Heap}
use Rattle.tide_words.specs.heap.Reading.{CellReads, IsValueOf, ReadsAs, element_word, slot_word}
use Rattle.tide_words.proofs.heap_laws.ReadingLaws.{live_within}
use Rattle.tide_call.specs.declared.action.Addition.{Addition}
use Rattle.tide_call.specs.declared.action.Action.{Action}
use Rattle.tide_call.specs.declared.action.Action.TheVariants as action
use Rattle.tide_call.specs.Callers.{Planner, IsCallerOf}
use Rattle.tide_call.specs.Actions.{DoesAdd, DoesSo, IsAddition, IsAction}
use Rattle.tide_call.proofs.reading_laws.ArrayRoom.{width-for}
use Rattle.tide_call.proofs.reading_laws.CallReading.{allowed_at, slot_allowed, third_allowed}
use Rattle.tide_call.specs.Needed.{FitsAction, HasRoomFor, IsSomeValue, MayGrow}
use Rattle.tide_call.proofs.action_laws.ClaimWords.{some_claim}

-- there are five classes of arrays
array_class-few : (count : ℕ) → array_class_for count < 10
array_class-few count = by_tests (nat_lt 4 count) (nat_lt 8 count) (nat_lt 16 count) (nat_lt 32 count)
  where
    one : (b : Bool) → (if b then 1 else 0) ≤ 1
    one true = omega arith
    one false = omega arith

    by_tests : (a b c d : Bool) → 5 + (0 + (if a then 1 else 0) + (if b then 1 else 0) + (if c then 1 else 0) + (if d then 1 else 0)) < 10
    by_tests a b c d = let p = one a in let q = one b in let r = one c in let s = one d in omega (arith, p, q, r, s)

module _ (caller : Planner) (heap : Heap) (state : State) (limits : IsWithinLimits caller.layout) (is_caller : IsCallerOf caller state)
    (active : state.active caller.who ≡ true) (refs : RefsAreLive state) (own : ClaimsAreOwn caller.layout state)
    (reads : ReadsAs caller.layout caller.shapes heap state) where
  alive : (register cell : ℕ) → state.registers caller.who register ≡ Cell cell → IsLive state cell
  alive register cell is = refs.in_registers caller.who register cell active is

  within : (cell : ℕ) → IsLive state cell → cell < cell_count caller.layout
  within cell is_live = live_within caller.layout caller.shapes heap state cell reads is_live

  read : (cell : ℕ) → IsLive state cell → CellReads caller.layout caller.shapes heap cell (state.cells cell)
  read cell is_live = reads.parts.cells cell (within cell is_live)

  -- the cell in a register is one of the layout
  held : (register cell : ℕ) → state.registers caller.who register ≡ Cell cell → cell < cell_count caller.layout
  held register cell is = within cell (alive register cell is)

  -- a live cell's array is one of the layout
  array_within : (cell array : ℕ) → IsLive state cell → (state.cells cell).array ≡ Some array → array < array_count caller.layout
  array_within cell array is_live has = elim (cases_lt array (array_count caller.layout)) [
    | inl inside ↦ inside
    | inr past ↦ absurd (let same = sym (refs.arrays_are_live cell array is_live has) ∙ reads.parts.past_arrays array past in cc)
  ]

  fits_as : (does other : Action) → does ≡ other → FitsAction caller.layout heap other → FitsAction caller.layout heap does
  fits_as does other same fits = subst (λ (one : Action). FitsAction caller.layout heap one) (sym same) fits

  slot_value : (src slot cell : ℕ) → state.registers caller.who src ≡ Cell cell →
      slot_refusal caller.layout (state.registers caller.who src) src slot ≡ None → IsSomeValue (slot_word caller.layout heap cell slot)
  slot_value src slot cell is granted =
      let below = slot_allowed caller.layout (state.registers caller.who src) src slot cell is granted in
      let is_live = alive src cell is in
      ((state.cells cell).slots slot, ((read cell is_live).taken (ap is_free is_live)).slots slot below)

  element_value : (src key cell array : ℕ) → state.registers caller.who src ≡ Cell cell → (state.cells cell).array ≡ Some array →
      property_refusal caller.layout state caller.who src key ≡ None →
      IsSomeValue (element_word caller.layout heap array (place_of (state.cells cell).keys key))
  element_value src key cell array is has granted =
      let place = place_of (state.cells cell).keys key in
      let below = place_of-below (state.cells cell).keys key (third_allowed (is_table caller.layout cell) (not (holds state caller.who cell)) IsTable NotHeld (has_key state cell key) Absent
      (allowed_at (state.registers caller.who src) src cell (λ c. first_of (refuse_if (is_table caller.layout c) IsTable ∷ refuse_if (not (holds state caller.who c)) NotHeld ∷ refuse_if (not (has_key state c key)) Absent ∷ [])) is granted)) in
      let is_live = alive src cell is in
      let (other, own_array, inside, stands) = (read cell is_live).properties is_live place below in (
        (state.cells cell).properties place,
        subst (λ (a : ℕ). IsValueOf ((state.cells cell).properties place) (element_word caller.layout heap a place))
            (same_Some other array (sym own_array ∙ has)) stands,
      )

  few_keys : (key : ℕ) (addition : Addition) → IsAddition caller state key addition → addition.count < 64
  few_keys key addition of =
      let count = of.is_count in
      let few = of.after.few_keys in
      omega (arith, count, few, length-push)
    where
      length-push : length ((state.cells addition.cell).keys ++ key ∷ []) ≡ length (state.cells addition.cell).keys + 1
      length-push = Rattle.std.proofs.lemmas.List.length-append (state.cells addition.cell).keys (key ∷ [])

  append : (src key array : ℕ) (addition : Addition) → state.registers caller.who src ≡ Cell addition.cell → IsAddition caller state key addition →
      HasElement caller.layout array (length (state.cells addition.cell).keys) → HasRoomFor caller.layout addition array
  append src key array addition is of has = record {
    cell_within = held src addition.cell is;
    few = few_keys key addition of;
    element = subst (λ (count : ℕ). HasElement caller.layout array count) (sym of.is_count) has;
  }

  grow : (src key class : ℕ) (array : Option ℕ) (addition : Addition) → state.registers caller.who src ≡ Cell addition.cell →
      IsAddition caller state key addition → (state.cells addition.cell).array ≡ array →
      class ≡ array_class_for (length (state.cells addition.cell).keys + 1) → MayGrow caller.layout addition array class
  grow src key class array addition is of has is_class = record {
    cell_within = held src addition.cell is;
    few = few_keys key addition of;
    smallest = omega (arith, is_class);
    largest = (let most = few_classes in omega (arith, is_class, most));
    holds = (
        let few = few_keys key addition of in
        let count = of.is_count in
        let wide = width-for (length (state.cells addition.cell).keys + 1) (omega (arith, few, count)) in
        let same = ap Rattle.tide_words.specs.tide_layout.Slots.width_of_class is_class in
        omega (arith, wide, same, count));
    array_within = by_array array refl;
  }
    where
      few_classes : array_class_for (length (state.cells addition.cell).keys + 1) < 10
      few_classes = array_class-few (length (state.cells addition.cell).keys + 1)

      by_array : (from : Option ℕ) → array ≡ from → IfSome from (λ source. source < array_count caller.layout)
      by_array None is_from = tt
      by_array (Some source) is_from = array_within addition.cell source (alive src addition.cell is) (has ∙ is_from)

  add : (src key val : ℕ) (addition : Addition) (does : Action) → state.registers caller.who src ≡ Cell addition.cell → IsAddition caller state key addition →
      DoesAdd caller state addition (state.registers caller.who val) does → FitsAction caller.layout heap does
  add src key val addition does is of (inl (array, room, same)) = fits_as does _ same (append src key array addition is of room.has)
  add src key val addition does is of (inr (class, array, needs, same)) =
      fits_as does _ same (grow src key class array addition is of needs.is_its needs.is_class)

  -- of an operation that nothing refuses
  granted-fits : (op : Op) (does : Action) → FitsLayout caller.layout op →
      refusal_of caller.layout caller.shapes state caller.who op ≡ None → DoesSo caller heap state op does → FitsAction caller.layout heap does
  granted-fits (Alloc dst class) does fits none is = fits_as does _ is (fits.0, (let small = fits.1 in omega (arith, small)))
  granted-fits (Table dst) does fits none is = fits_as does _ is (fits, omega arith)
  granted-fits (Get dst src slot) does fits none (cell, holds, has, is) = fits_as does _ is (fits.0, has, slot_value src slot cell holds none)
  granted-fits (Put src slot val) does fits none (cell, holds, has, is) = fits_as does _ is has
  granted-fits (Move dst src) does fits none is = fits_as does _ is fits.0
  granted-fits (Set dst n) does fits none is = fits_as does _ is fits.0
  granted-fits (Drop dst) does fits none is = fits_as does _ is fits
  granted-fits (Claim src) does fits none is = absurd is
  granted-fits (Release src) does fits none (cell, holds, is) = fits_as does _ is (held src cell holds)
  granted-fits Unclaim does fits none (cell, others, are, is) =
      fits_as does _ is (reads.parts.claimed caller.who cell (subst (λ (claims : List ℕ). Contains claims cell) (sym (is_caller.claims ∙ are)) first))
    where
      first : Contains (cell ∷ others) cell
      first = (0, omega arith, refl)
  granted-fits (Add src key val) does fits none (addition, holds, of, so) = add src key val addition does holds of so
  granted-fits (GetProp dst src key) does fits none (cell, array, holds, has, inside, is) =
      fits_as does _ is (fits.0, inside, element_value src key cell array holds has none)
  granted-fits (SetProp src key val) does fits none (cell, array, holds, has, inside, is) = fits_as does _ is (held src cell holds, inside)
  granted-fits (StrongSet at val) does fits none is = fits_as does _ is fits.0
  granted-fits (StrongGet dst at) does fits none is = fits_as does _ is (fits.0, fits.1, (state.strong at, reads.roots.strong at fits.1))
  granted-fits (WeakSet at val) does fits none is = fits_as does _ is fits.0
  granted-fits (WeakGet dst at) does fits none is = fits_as does _ is (fits.0, fits.1, (state.weak at, reads.roots.weak at fits.1))
  granted-fits (PairSet src key val) does fits none (table_cell, cell, place, is_t, is_k, has, stood, is) =
      fits_as does _ is (has, (let few = few_cells caller.layout limits in let inside = held key cell is_k in omega (arith, few, inside)))
  granted-fits (PairGet dst src key) does fits none (table_cell, cell, place, value, is_t, is_k, has, stands, said, is) = fits_as does _ is (fits.0, has)
  granted-fits (PairDel src key) does fits none (table_cell, cell, place, is_t, is_k, has, stood, is) = fits_as does _ is has
  granted-fits (Group src n) does fits none (cell, holds, is) = fits_as does _ is (held src cell holds)
  granted-fits Collect does fits none is = fits_as does _ is tt
  granted-fits Retire does fits none is = fits_as does _ is tt

  step : (op : Op) (does : Action) → FitsLayout caller.layout op → IsAction caller heap state op does → FitsAction caller.layout heap does
  step op (action.Refuse refusal) fits is = tt
  step (Claim src) (action.Claim cell full) fits is = (held src cell is.0, some_claim caller.layout caller.shapes heap state cell limits own reads (held src cell is.0))
  step op does fits is = granted-fits op does fits is.0 is.1

-- the action of a call fits the words
pub actions_fit : (caller : Planner) (heap : Heap) (state : State) (op : Op) (does : Action) → IsWithinLimits caller.layout → FitsLayout caller.layout op →
    IsCallerOf caller state → state.active caller.who ≡ true → RefsAreLive state → ClaimsAreOwn caller.layout state →
    ReadsAs caller.layout caller.shapes heap state → IsAction caller heap state op does → FitsAction caller.layout heap does
actions_fit caller heap state op does limits fits is_caller active refs own reads is = step caller heap state limits is_caller active refs own reads op does fits is
