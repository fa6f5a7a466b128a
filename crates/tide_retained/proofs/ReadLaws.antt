-- What was read of a cell, a word more at a time.
use Rattle.std.proofs.Common.{ℕ, ◌≡◌, ◌+◌, ◌<◌, ◌≤◌, ◌^◌, true, false, List, [], ◌∷◌, ◌++◌, length, map, Option, None, Some, refl, sym, ap, ◌∙◌, subst, inl, inr, arith, get_or, length-append, zero-add}
use Rattle.std.specs.Prelude.{◌⊎◌, ◌↔◌, ◌≢◌, Contains, IfNone, IfSome, slice_get, slice_index}
use Rattle.std.proofs.lemmas.Bool.{cases_Bool, cases_eq, cases_lt, eqb-true}
use Rattle.std.proofs.lemmas.List.{get_or_append_left, get_or_default, get_or_past, get_or_push}
use Rattle.std.proofs.lemmas.List.Elements.{Contains-push_cases}
use Rattle.std.proofs.lemmas.Option.{get_or_from_slice_get, slice_get_within}
use Rattle.std.proofs.lemmas.List.FromFn.{map-range_with_len_more}
use Rattle.tide_words.specs.tide_layout.Slots.{HasElement, HasSlot, width_of_cell, width_of_class}
use Rattle.tide_model.specs.declared.val.Val.{Val}
use Rattle.tide_model.specs.Layout.{Layout, array_count, cell_count, class_of, slots_of}
use Rattle.tide_model.specs.Refused.{ShapeLists, is_table, table_class}
use Rattle.tide_model.specs.State.{CellState, State, Status, dead, free, is_free, is_live, live, spent}
use Rattle.tide_words.specs.tide_layout.declared.region.Region.TheVariants.{Array as ArrayWord, Group, Structure as StructureWord}
use Rattle.tide_shape.specs.ShapeTable.{keys_of}
use Rattle.tide_words.specs.declared.forms.structure.Structure.{Structure}
use Rattle.tide_words.specs.forms.Reference.{array_word}
use Rattle.tide_words.specs.forms.PairWord.{IsPairWord}
use Rattle.tide_words.specs.forms.StructureWord.{structure_word, IsStructureWord}
use Rattle.tide_words.specs.heap.Heap.{Heap}
use Rattle.tide_words.specs.heap.Reading.{CellReads, IsPairOf, IsTableOf, IsValueOf, ReadsAs, TakenReads, cell_status, element_word, slot_word}
use Rattle.tide_words.specs.heap.Live.{is_live_at}
use Rattle.tide_words.proofs.form_laws.FormLaws.{same_from_pair_word, same_from_structure_word}
use Rattle.tide_retained.specs.declared.contents.Contents.{Contents}
use Rattle.tide_retained.specs.declared.contents.Held.{Held}
use Rattle.tide_retained.specs.declared.contents.Keyed.{Keyed}
use Rattle.tide_retained.specs.Contents.{pairs_of, properties_in, AreKeysOf}
use Rattle.tide_retained.specs.Holding.{AreCellsRead, AreKeysBelow, ArePairs, ArePairsBefore, AreRising, AreSlotsRead, ArePropertiesRead, HasKey, HasShapes, HoldsSame, IsHeldOf, IsSnapshotOf, LiveReads, PutsPair, keyed, properties_of}
use Rattle.tide_retained.specs.Index.{up_to}
use Rattle.tide_retained.specs.RootsRead.{AreRootsOf}
use Rattle.tide_retained.proofs.ListLaws.{nowhere}

-- one more slot
pub one_more_slot : (layout : Layout) (heap : Heap) (cell slot : ℕ) (list : List Val) (value : Val) → slot < slots_of (class_of layout cell) → AreSlotsRead layout heap cell slot list →
    ((other : Val) → IsValueOf other (slot_word layout heap cell slot) → value ≡ other) → AreSlotsRead layout heap cell (slot + 1) (list ++ value ∷ [])
one_more_slot layout heap cell slot list value below read is values given =
    ap (λ (l : List Val). l ++ value ∷ []) (read values given) ∙ ap (λ (v : Val). map values (up_to slot) ++ v ∷ []) (is (values slot) (given slot below))
    ∙ sym (map-range_with_len_more values 0 slot slot (zero-add slot))

-- one more property
pub one_more_property : (layout : Layout) (shapes : ShapeLists) (heap : Heap) (cell place : ℕ) (list : List Keyed) (property : Keyed) →
    ArePropertiesRead layout shapes heap cell place list →
    ((held : CellState) → LiveReads layout shapes heap cell held → property ≡ keyed (slice_index held.keys place) (held.properties place)) →
    ArePropertiesRead layout shapes heap cell (place + 1) (list ++ property ∷ [])
one_more_property layout shapes heap cell place list property read is held reads =
    let one = λ (k : ℕ). keyed (slice_index held.keys k) (held.properties k) in
    ap (λ (l : List Keyed). l ++ property ∷ []) (read held reads) ∙ ap (λ (p : Keyed). map one (up_to place) ++ p ∷ []) (is held reads)
    ∙ sym (map-range_with_len_more one 0 place place (zero-add place))

-- a word is one pair's alone
same_pair : (one other : ℕ) (value another : Val) (word : ℕ) → IsPairOf one value word → IsPairOf other another word → (one ≡ other) × (value ≡ another)
same_pair one other value another word is also = same_from_pair_word one other value another is.number also.number (is.is_word ∙ sym also.is_word)

pub no_pairs : (layout : Layout) (heap : Heap) (table : ℕ) → ArePairsBefore layout heap table 0 []
no_pairs layout heap table = record {
  each = λ key value. ((λ at. absurd (let below = at.1 in omega (arith, below))), (λ stands. absurd (let below = stands.1 in omega (arith, below))));
  rising = λ pairs is i j d up below. absurd (omega (arith, below));
}

-- a word that is no pair's puts none
pub puts_none : (word : ℕ) (list : List Keyed) → (IsPairWord word → ⊥) → PutsPair word list list
puts_none word list none = record {
  each = λ key value. ((λ at. inl at), (λ given. elim given [ inl old ↦ old | inr is ↦ absurd (none (key, value, is.few, is.number, is.is_word)) ]));
  rising = λ rising fresh. rising;
}

-- and a pair's word its pair
pub puts_one : (key : ℕ) (value : Val) (word : ℕ) (old new : List Keyed) → IsPairOf key value word →
    (AreRising old → (HasKey old key → ⊥) → AreRising new) → ((other : Keyed) → Contains new other ↔ (Contains old other ⊎ (other ≡ keyed key value))) → PutsPair word old new
puts_one key value word old new is rising each = record {
  each = λ other another. (
    (λ at. elim ((each (keyed other another)).0 at) [
      | inl early ↦ inl early
      | inr same ↦
          let of_key = ap (λ (e : Keyed). e.key) same in
          let of_value = ap (λ (e : Keyed). e.value) same in
          inr (subst (λ (k : ℕ). IsPairOf k another word) (sym of_key) (subst (λ (v : Val). IsPairOf key v word) (sym of_value) is))
    ]),
    (λ given. elim given [
      | inl early ↦ (each (keyed other another)).1 (inl early)
      | inr also ↦
          let (of_key, of_value) = same_pair other key another value word also is in
          (each (keyed other another)).1 (inr (λ i. record { key = of_key i; value = of_value i }))
    ]),
  );
  rising = λ up fresh. rising up (fresh key value is);
}

-- no pair of an earlier place has its key
pub fresh_key : (layout : Layout) (heap : Heap) (table place key : ℕ) (value : Val) (list : List Keyed) (pairs : ℕ → Option Val) → ArePairsBefore layout heap table place list →
    IsTableOf layout heap table pairs → IsPairOf key value (slot_word layout heap table place) → ((k : ℕ) → k ≤ place → HasSlot layout table k) → HasKey list key → ⊥
fresh_key layout heap table place key value list pairs before is pair has (entry, at, same) =
    let (k, early, there) = (before.each entry.key entry.value).0 at in
    let here = subst (λ (n : ℕ). IsPairOf n entry.value (slot_word layout heap table k)) same there in
    let one = is.once k place key entry.value value (has k (omega (arith, early))) (has place (omega arith)) here pair in
    omega (arith, early, one)

-- a table has eight places
width_is : (layout : Layout) (table : ℕ) → is_table layout table ≡ true → width_of_cell layout table ≡ 8
width_is layout table is = ap width_of_class (eqb-true (class_of layout table) table_class is)

pub table_slot : (layout : Layout) (table place : ℕ) → table < cell_count layout → is_table layout table ≡ true → place < 8 → HasSlot layout table place
table_slot layout table place within is below = record { cell_within = within; slot_within = let width = width_is layout table is in omega (arith, width, below) }

-- the pairs of all places are those of the table
pub all_pairs : (layout : Layout) (heap : Heap) (table : ℕ) (list : List Keyed) (pairs : ℕ → Option Val) → table < cell_count layout → is_table layout table ≡ true →
    ArePairsBefore layout heap table 8 list → IsTableOf layout heap table pairs → ArePairs pairs list
all_pairs layout heap table list pairs within is_one before is = record {
  each = λ key value. (
    (λ at. (let (place, below, stands) = (before.each key value).0 at in is.said place key value (table_slot layout table place within is_one below) stands)),
    (λ held. (let (place, has, stands) = is.stands key value held in
        (before.each key value).1 (place, (let width = width_is layout table is_one in let inside = has.slot_within in omega (arith, width, inside)), stands))),
  );
  rising = before.rising pairs is;
}

-- the pairs of one more place
pub more_pairs : (layout : Layout) (heap : Heap) (table place : ℕ) (list next : List Keyed) → table < cell_count layout → is_table layout table ≡ true → place < 8 →
    ArePairsBefore layout heap table place list → PutsPair (slot_word layout heap table place) list next → ArePairsBefore layout heap table (place + 1) next
more_pairs layout heap table place list next within is_one below before puts = record {
  each = λ key value. (
    (λ at. elim ((puts.each key value).0 at) [
      | inl old ↦ (let (k, early, stands) = (before.each key value).0 old in (k, omega (arith, early), stands))
      | inr is ↦ (place, omega arith, is)
    ]),
    (λ stands. (let (k, up_to_here, there) = stands in elim (cases_lt k place) [
      | inl early ↦ (puts.each key value).1 (inl ((before.each key value).1 (k, early, there)))
      | inr last ↦
          let this : k ≡ place = omega (arith, up_to_here, last) in
          (puts.each key value).1 (inr (subst (λ (p : ℕ). IsPairOf key value (slot_word layout heap table p)) this there))
    ])),
  );
  rising = λ pairs is. puts.rising (before.rising pairs is) (λ key value pair has.
      fresh_key layout heap table place key value list pairs before is pair (λ k order. table_slot layout table k within is_one (omega (arith, order, below))) has);
}

-- where a table has no pairs, none were read
pub empty_pairs : (pairs : ℕ → Option Val) → ((key : ℕ) → pairs key ≡ None) → ArePairs pairs []
empty_pairs pairs none = record {
  each = λ key value. ((λ at. absurd (nowhere (keyed key value) at)), (λ held. (let not = none key in absurd (cc))));
  rising = λ i j d up below. absurd (omega (arith, below));
}

-- a status that tests as live is live
live_from : (status : Status) → is_live status ≡ true → status ≡ live
live_from free h = absurd (cc)
live_from live h = refl
live_from spent h = absurd (cc)
live_from dead h = absurd (cc)

-- a cell is live where its bits say so
pub live_by_bits : (layout : Layout) (shapes : ShapeLists) (heap : Heap) (cell : ℕ) (held : CellState) → CellReads layout shapes heap cell held → is_live_at heap cell ≡ true → held.status ≡ live
live_by_bits layout shapes heap cell held reads bits = reads.status ∙ live_from (cell_status heap cell) bits

-- and isn't where they don't
pub dead_by_bits : (layout : Layout) (shapes : ShapeLists) (heap : Heap) (cell : ℕ) (held : CellState) → CellReads layout shapes heap cell held → is_live_at heap cell ≡ false → held.status ≢ live
dead_by_bits layout shapes heap cell held reads bits alive = (let also = ap is_live (sym reads.status ∙ alive) in absurd (cc))

pub live_reading : (layout : Layout) (shapes : ShapeLists) (heap : Heap) (cell : ℕ) (held : CellState) → CellReads layout shapes heap cell held → held.status ≡ live → LiveReads layout shapes heap cell held
live_reading layout shapes heap cell held reads alive = record { taken = reads.taken (ap is_free alive); properties = reads.properties alive }

-- all that was read of a live cell is what it holds
pub held_is_read : (layout : Layout) (shapes : ShapeLists) (heap : Heap) (cell : ℕ) (state : CellState) (held : Held) → CellReads layout shapes heap cell state → state.status ≡ live →
    held.class ≡ class_of layout cell → AreSlotsRead layout heap cell (slots_of (class_of layout cell)) held.slots.items →
    (LiveReads layout shapes heap cell state → held.properties.items ≡ properties_of state) →
    (TakenReads layout shapes heap cell state → ArePairs state.pairs held.pairs.items) →
    ((group : ℕ) → group < 2 ^ 32 → heap Group cell ≡ group → held.group ≡ group) → HoldsSame layout cell state held
held_is_read layout shapes heap cell state held reads alive class slots properties pairs group =
    let live_read = live_reading layout shapes heap cell state reads alive in
    let taken = live_read.taken in
    record {
      is_live = alive;
      class = class;
      slots = slots state.slots taken.slots;
      past_slots = taken.past_slots;
      properties = properties live_read;
      pairs = pairs taken;
      group = group state.group taken.group_number taken.group;
    }

-- only a table has pairs
pub no_pairs_read : (layout : Layout) (shapes : ShapeLists) (heap : Heap) (cell : ℕ) (held : CellState) → (class_of layout cell ≢ table_class) → TakenReads layout shapes heap cell held → ArePairs held.pairs []
no_pairs_read layout shapes heap cell held other taken = empty_pairs held.pairs (taken.no_table (elim (cases_Bool (is_table layout cell)) [
  | inl is ↦ absurd (other (eqb-true (class_of layout cell) table_class is))
  | inr not ↦ not
]))

pub no_cells : (layout : Layout) (shapes : ShapeLists) (heap : Heap) → AreCellsRead layout shapes heap 0 []
no_cells layout shapes heap = record {
  counted = refl;
  each = λ cell held below. absurd (omega (arith, below));
  few = λ cell pair at. absurd (nowhere pair at);
  keys = λ cell property at. absurd (nowhere property at);
}

-- one more cell
pub one_more_cell : (layout : Layout) (shapes : ShapeLists) (heap : Heap) (count : ℕ) (list : List (Option Held)) (found : Option Held) → AreCellsRead layout shapes heap count list →
    ((held : CellState) → CellReads layout shapes heap count held → IsHeldOf layout count held found) →
    AreKeysBelow 83886080 (pairs_of found) → AreKeysOf shapes (properties_in found) → AreCellsRead layout shapes heap (count + 1) (list ++ found ∷ [])
one_more_cell layout shapes heap count list found read is few keys = record {
  counted = length-append list (found ∷ []) ∙ (let c = read.counted in omega (arith, c));
  each = λ cell held below reads. elim (cases_lt cell count) [
    | inl early ↦ subst (IsHeldOf layout cell held) (sym (before cell early)) (read.each cell held early reads)
    | inr last ↦
        let this : count ≡ cell = omega (arith, below, last) in
        subst (IsHeldOf layout cell held) (sym (at_last cell this)) (subst (λ (c : ℕ). (h : CellState) → CellReads layout shapes heap c h → IsHeldOf layout c h found) this is held reads)
  ];
  few = λ cell. at_each (λ o. AreKeysBelow 83886080 (pairs_of o)) cell (read.few cell) few (λ pair at. absurd (nowhere pair at));
  keys = λ cell. at_each (λ o. AreKeysOf shapes (properties_in o)) cell (read.keys cell) keys (λ property at. absurd (nowhere property at));
}
  where
    before : (cell : ℕ) → cell < count → get_or (list ++ found ∷ []) cell None ≡ get_or list cell None
    before cell early = get_or_append_left list (found ∷ []) None cell (let c = read.counted in omega (arith, c, early))

    at_last : (cell : ℕ) → count ≡ cell → get_or (list ++ found ∷ []) cell None ≡ found
    at_last cell this = get_or_push list found None cell (read.counted ∙ this)

    -- what holds of those before, of this one and of none holds of each
    at_each : (P : Option Held → Type 0) (cell : ℕ) → P (get_or list cell None) → P found → P None → P (get_or (list ++ found ∷ []) cell None)
    at_each P cell earlier here none = elim (cases_lt cell count) [
      | inl early ↦ subst P (sym (before cell early)) earlier
      | inr late ↦ elim (cases_eq cell count) [
        | inl same ↦ subst P (sym (at_last cell (sym same))) here
        | inr other ↦
            let longer : length (list ++ found ∷ []) ≡ length list + 1 = length-append list (found ∷ []) in
            let c = read.counted in
            subst P (sym (get_or_past (list ++ found ∷ []) cell None (omega (arith, late, other, longer, c)))) none
      ]
    ]

-- what was read of all cells, with the roots, is a snapshot
pub snapshot_is_read : (layout : Layout) (shapes : ShapeLists) (heap : Heap) (state : State) (contents : Contents) → ReadsAs layout shapes heap state →
    AreCellsRead layout shapes heap (cell_count layout) contents.cells.items → AreRootsOf state contents.roots.items → IsSnapshotOf layout state contents
snapshot_is_read layout shapes heap state contents reads cells roots = record {
  counted = cells.counted;
  cells = λ cell within. cells.each cell (state.cells cell) within (reads.parts.cells cell within);
  past = λ cell past alive. (let blank = ap (λ (c : CellState). c.status) (reads.parts.past_cells cell past) in free_isnt_live (sym blank ∙ alive));
  roots = roots;
}
  where
    free_isnt_live : free ≡ live → ⊥
    free_isnt_live same = cc

-- the keys of pairs that were read are those of words
pub keys_are_few : (layout : Layout) (heap : Heap) (table count : ℕ) (list : List Keyed) → ArePairsBefore layout heap table count list → AreKeysBelow 83886080 list
keys_are_few layout heap table count list before entry at = (let (place, below, is) = (before.each entry.key entry.value).0 at in is.few)

-- the keys of properties that were read are those of their shape
pub one_more_key : (shapes : ShapeLists) (shape place : ℕ) (list : List Keyed) (property : Keyed) → shape < length shapes → AreKeysOf shapes list →
    slice_get (keys_of shapes shape) place ≡ Some property.key → AreKeysOf shapes (list ++ property ∷ [])
one_more_key shapes shape place list property within so_far is other at = elim (Contains-push_cases list property other at) [
  | inl early ↦ so_far other early
  | inr same ↦ (
    keys_of shapes shape,
    (shape, within, get_or_default shapes shape (keys_of shapes shape) [] within),
    subst (λ (p : Keyed). Contains (keys_of shapes shape) p.key) same
        (place, slice_get_within (keys_of shapes shape) place property.key is, get_or_from_slice_get (keys_of shapes shape) place property.key property.key is),
  )
]

-- words that read as a state name shapes of the table
pub shapes_of_reads : (layout : Layout) (shapes : ShapeLists) (heap : Heap) (state : State) → ReadsAs layout shapes heap state → HasShapes layout shapes heap
shapes_of_reads layout shapes heap state reads cell within bits structure short few is =
    let read = reads.parts.cells cell within in
    let alive = live_by_bits layout shapes heap cell (state.cells cell) read bits in
    let form = (read.taken (ap is_free alive)).keys in
    let same = same_from_structure_word structure (record { shape = form.shape; count = length (state.cells cell).keys; nuked = false }) few form.few_keys (is ∙ sym form.is_word) in
    let shape : structure.shape ≡ form.shape = ap (λ (s : Structure). s.shape) same in
    let inside = slice_get_within shapes form.shape (state.cells cell).keys form.is_shape in
    omega (arith, shape, inside)

-- the shape of a live cell's word has its keys
pub shape_is_read : (layout : Layout) (shapes : ShapeLists) (heap : Heap) (cell : ℕ) (held : CellState) (structure : Structure) → LiveReads layout shapes heap cell held →
    structure.count ≤ 64 → structure_word structure ≡ heap StructureWord cell → slice_get shapes structure.shape ≡ Some held.keys
shape_is_read layout shapes heap cell held structure reads few is =
    let form = reads.taken.keys in
    let same = same_from_structure_word structure (record { shape = form.shape; count = length held.keys; nuked = false }) few form.few_keys (is ∙ sym form.is_word) in
    ap (λ (s : Structure). slice_get shapes s.shape) same ∙ form.is_shape

-- and where it is no structure's there is no such cell
pub no_shape_is_read : (layout : Layout) (shapes : ShapeLists) (heap : Heap) (cell : ℕ) (held : CellState) → LiveReads layout shapes heap cell held → IsStructureWord (heap StructureWord cell)
no_shape_is_read layout shapes heap cell held reads =
    let form = reads.taken.keys in
    (record { shape = form.shape; count = length held.keys; nuked = false }, form.few_shapes, form.few_keys, form.is_word)

-- the array of a cell is the one that its word names
array_is : (count word array : ℕ) (o : Option ℕ) → IfSome o (λ a. word ≡ array_word (Some a)) → IfNone o ((a : ℕ) → a < count → word ≡ array_word (Some a) → ⊥) →
    array < count → word ≡ array_word (Some array) → o ≡ Some array
array_is count word array None some none within is = absurd (none array within is)
array_is count word array (Some a) some none within is = (let same : a ≡ array = omega (arith, some, is) in ap Some same)

-- a property that was read is the one at its place
pub property_is : (layout : Layout) (shapes : ShapeLists) (heap : Heap) (cell : ℕ) (held : CellState) (shape place : ℕ) (o : Option ℕ) (property : Keyed) → LiveReads layout shapes heap cell held →
    slice_get shapes shape ≡ Some held.keys → place < length (keys_of shapes shape) → slice_get (keys_of shapes shape) place ≡ Some property.key →
    IfSome o (λ a. heap ArrayWord cell ≡ array_word (Some a)) → IfNone o ((a : ℕ) → a < array_count layout → heap ArrayWord cell ≡ array_word (Some a) → ⊥) →
    ((there : ℕ) (value : Val) → o ≡ Some there → HasElement layout there place → IsValueOf value (element_word layout heap there place) → property.value ≡ value) →
    property ≡ keyed (slice_index held.keys place) (held.properties place)
property_is layout shapes heap cell held shape place o property reads of_shape within key_at some none value_at =
    let keys : keys_of shapes shape ≡ held.keys = get_or_from_slice_get shapes shape held.keys [] of_shape in
    let key = get_or_from_slice_get held.keys place property.key 0 (subst (λ (l : List ℕ). slice_get l place ≡ Some property.key) keys key_at) in
    let (array, has, element, stands) = reads.properties place (subst (λ (l : List ℕ). place < length l) keys within) in
    let word = reads.taken.array ∙ ap array_word has in
    let value = value_at array (held.properties place) (array_is (array_count layout) (heap ArrayWord cell) array o some none element.array_within word) element stands in
    λ i. record { key = sym key i; value = value i }
