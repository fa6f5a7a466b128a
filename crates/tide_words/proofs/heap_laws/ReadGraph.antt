-- The words determine all that a graph sees: two states that they read as have the same roots, links, pairs and group
-- mates.
use Rattle.tide_words.proofs.heap_laws.ReadingLaws.{live_within}
use Rattle.std.proofs.Common.{ℕ, ◌≡◌, ◌<◌, sym, ◌∙◌, ap, subst, arith, Bool, true, List, length, inl, inr, Option, Some, None}
use Rattle.std.proofs.lemmas.Bool.{cases_Bool, cases_lt}
use Rattle.std.specs.Prelude.{if◌then◌else◌, slice_get}
use Rattle.tide_model.specs.declared.val.Val.{Val}
use Rattle.tide_model.specs.declared.val.Val.TheVariants.{Cell}
use Rattle.tide_model.specs.Graph.{IsRoot, IsLink, IsWithin, graph_of, in_register, claimed, in_handle, in_slot, in_property}
use Rattle.tide_model.specs.Layout.{Layout, class_of, slots_of}
use Rattle.tide_model.specs.References.{IsLive}
use Rattle.tide_model.specs.Refused.{ShapeLists, is_table}
use Rattle.tide_model.specs.State.{State}
use Rattle.tide_layout.specs.declared.region.Region.TheVariants.{Registers, Strong, Structure}
use Rattle.tide_words.specs.heap.Heap.{Heap}
use Rattle.tide_words.specs.heap.Reading.{IsValueOf, IsStructureOf, ReadsAs, TakenReads, slot_word, element_word}
use Rattle.tide_layout.specs.Region.{index_of_register}
use Rattle.tide_words.proofs.heap_laws.CellLaw.{live_reads}
use Rattle.tide_words.proofs.form_laws.FormLaws.{same_from_val_word, same_from_optional_word}

-- a word is one value's alone
pub IsValueOf-alone : (one other : Val) (word : ℕ) → IsValueOf one word → IsValueOf other word → one ≡ other
IsValueOf-alone one other word is also = same_from_val_word one other (is.is_word ∙ sym also.is_word)

-- and one list of keys' alone
pub IsStructureOf-alone : (shapes : ShapeLists) (one other : List ℕ) (word : ℕ) → IsStructureOf shapes one word → IsStructureOf shapes other word → one ≡ other
IsStructureOf-alone shapes one other word is also =
    let word = is.is_word ∙ sym also.is_word in
    let shape : is.shape ≡ also.shape = (let few = is.few_keys in let also_few = also.few_keys in omega (arith, word, few, also_few)) in
    some_same one other (sym is.is_shape ∙ ap (slice_get shapes) shape ∙ also.is_shape)
  where
    some_same : (xs ys : List ℕ) → Some xs ≡ Some ys → xs ≡ ys
    some_same xs ys same = ap (λ (o : Option (List ℕ)). elim o [ Some zs ↦ zs | None ↦ xs ]) same

-- what the words say of a live cell, wherever it lies
live_cell : (layout : Layout) (shapes : ShapeLists) (heap : Heap) (state : State) (cell : ℕ) → ReadsAs layout shapes heap state → IsLive state cell →
    TakenReads layout shapes heap cell (state.cells cell)
live_cell layout shapes heap state cell reads alive = live_reads layout shapes heap state cell reads (live_within layout shapes heap state cell reads alive) alive

module _ (layout : Layout) (shapes : ShapeLists) (heap : Heap) (one other : State) (reads : ReadsAs layout shapes heap one) (also : ReadsAs layout shapes heap other) where
  -- both are live
  alive_in_both : (cell : ℕ) → IsLive one cell → IsLive other cell
  alive_in_both cell alive =
      let within = live_within layout shapes heap one cell reads alive in
      (also.parts.cells cell within).status ∙ sym (reads.parts.cells cell within).status ∙ alive

  -- an active mutator of one is active in the other
  active_in_both : (who : ℕ) → one.active who ≡ true → other.active who ≡ true
  active_in_both who active = elim (cases_lt who layout.mutators) [
    | inl within ↦ elim (cases_Bool (other.active who)) [
      | inl is ↦ is
      | inr isnt ↦
          let ones = reads.roots.active who within ∙ ap {B = ℕ} (λ (is : Bool). if is then 1 else 0) active in
          let others = also.roots.active who within ∙ ap {B = ℕ} (λ (is : Bool). if is then 1 else 0) isnt in
          absurd (omega (arith, ones, others))
    ]
    | inr past ↦ also.roots.past_active who past
  ]

  -- a register has the same value
  same_register : (who register : ℕ) → other.registers who register ≡ one.registers who register
  same_register who register = elim (cases_lt who layout.mutators) [
    | inl in_mutators ↦ elim (cases_lt register layout.registers) [
      | inl in_registers ↦ IsValueOf-alone (other.registers who register) (one.registers who register) (heap Registers (index_of_register layout who register))
          (also.roots.registers who register in_mutators in_registers) (reads.roots.registers who register in_mutators in_registers)
      | inr past ↦ also.roots.past_registers who register (inr past) ∙ sym (reads.roots.past_registers who register (inr past))
    ]
    | inr past ↦ also.roots.past_registers who register (inl past) ∙ sym (reads.roots.past_registers who register (inl past))
  ]

  -- and so has a strong handle
  same_strong : (handle : ℕ) → other.strong handle ≡ one.strong handle
  same_strong handle = elim (cases_lt handle layout.strong) [
    | inl within ↦ IsValueOf-alone (other.strong handle) (one.strong handle) (heap Strong handle) (also.roots.strong handle within) (reads.roots.strong handle within)
    | inr past ↦ also.roots.past_strong handle past ∙ sym (reads.roots.past_strong handle past)
  ]

  -- a slot of a live cell
  same_slot : (cell slot : ℕ) → IsLive one cell → (other.cells cell).slots slot ≡ (one.cells cell).slots slot
  same_slot cell slot alive =
      let taken = live_cell layout shapes heap one cell reads alive in
      let also_taken = live_cell layout shapes heap other cell also (alive_in_both cell alive) in
      elim (cases_lt slot (slots_of (class_of layout cell))) [
        | inl inside ↦ IsValueOf-alone ((other.cells cell).slots slot) ((one.cells cell).slots slot) (slot_word layout heap cell slot)
            (also_taken.slots slot inside) (taken.slots slot inside)
        | inr past ↦ also_taken.past_slots slot past ∙ sym (taken.past_slots slot past)
      ]

  -- the keys of a live cell
  same_keys : (cell : ℕ) → IsLive one cell → (other.cells cell).keys ≡ (one.cells cell).keys
  same_keys cell alive =
      IsStructureOf-alone shapes (other.cells cell).keys (one.cells cell).keys (heap Structure cell)
      (live_cell layout shapes heap other cell also (alive_in_both cell alive)).keys (live_cell layout shapes heap one cell reads alive).keys

  -- a property of a live cell
  same_property : (cell place : ℕ) → IsLive one cell → place < length (one.cells cell).keys → (other.cells cell).properties place ≡ (one.cells cell).properties place
  same_property cell place alive below =
      let within = live_within layout shapes heap one cell reads alive in
      let also_alive = alive_in_both cell alive in
      let as_many = ap {A = List ℕ} length (same_keys cell alive) in
      let (array, has_array, has, is) = (reads.parts.cells cell within).properties alive place below in
      let (another, has_another, has_also, is_also) = (also.parts.cells cell within).properties also_alive place (omega (arith, as_many, below)) in
      let words = sym (live_cell layout shapes heap other cell also also_alive).array ∙ (live_cell layout shapes heap one cell reads alive).array in
      let arrays : Some another ≡ Some array = sym has_another ∙ same_from_optional_word (other.cells cell).array (one.cells cell).array words ∙ has_array in
      let same : another ≡ array = ap (λ (o : Option ℕ). elim o [ Some n ↦ n | None ↦ 0 ]) arrays in
      IsValueOf-alone ((other.cells cell).properties place) ((one.cells cell).properties place) (element_word layout heap array place)
      (subst (λ (a : ℕ). IsValueOf ((other.cells cell).properties place) (element_word layout heap a place)) same is_also) is

  -- what one has under a key, the other has
  same_pair : (table key : ℕ) (value : Val) → IsLive one table → (one.cells table).pairs key ≡ Some value → (other.cells table).pairs key ≡ Some value
  same_pair table key value alive held =
      let taken = live_cell layout shapes heap one table reads alive in
      let also_taken = live_cell layout shapes heap other table also (alive_in_both table alive) in
      elim (cases_Bool (is_table layout table)) [
        | inl is_one ↦
            let (place, has, is) = (taken.table is_one).stands key value held in
            (also_taken.table is_one).said place key value has is
        | inr not_one ↦ (let none = taken.no_table not_one key in absurd (cc))
      ]

  -- a live cell is in the same group
  same_group : (cell : ℕ) → IsLive one cell → (other.cells cell).group ≡ (one.cells cell).group
  same_group cell alive =
      sym (live_cell layout shapes heap other cell also (alive_in_both cell alive)).group ∙ (live_cell layout shapes heap one cell reads alive).group

  root_in_both : (cell : ℕ) → IsRoot one cell → IsRoot other cell
  root_in_both cell (in_register who register active is) = in_register who register (active_in_both who active) (same_register who register ∙ is)
  root_in_both cell (claimed who at) =
      let within = reads.parts.claimed who cell at in
      claimed who ((also.parts.claims.named cell who within).0 ((reads.parts.claims.named cell who within).1 at))
  root_in_both cell (in_handle handle is) = in_handle handle (same_strong handle ∙ is)

  link_in_both : (source cell : ℕ) → IsLink one source cell → IsLink other source cell
  link_in_both source cell (in_slot slot alive is) = in_slot slot (alive_in_both source alive) (same_slot source slot alive ∙ is)
  link_in_both source cell (in_property place alive below is) =
      in_property place (alive_in_both source alive) (let as_many = ap {A = List ℕ} length (same_keys source alive) in omega (arith, as_many, below))
      (same_property source place alive below ∙ is)

  pub graph_is_read : IsWithin (graph_of one) (graph_of other)
  graph_is_read = record {
    roots = root_in_both;
    links = link_in_both;
    triples = λ table key cell triple. record {
      is_live = alive_in_both table triple.is_live;
      has_pair = same_pair table key (Cell cell) triple.is_live triple.has_pair;
    };
    group_mates = λ a b group_mates. record {
      one_is_live = alive_in_both a group_mates.one_is_live;
      other_is_live = alive_in_both b group_mates.other_is_live;
      same_group = same_group a group_mates.one_is_live ∙ group_mates.same_group ∙ sym (same_group b group_mates.other_is_live);
      in_a_group = λ none. group_mates.in_a_group (sym (same_group a group_mates.one_is_live) ∙ none);
    };
  }
