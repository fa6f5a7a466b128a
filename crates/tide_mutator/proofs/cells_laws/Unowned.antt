-- Words that are no mutator's own, and so say what the state holds.
use Rattle.std.proofs.Common.{ℕ, ◌≡◌, ◌<◌, refl, subst, sym, ◌∙◌, ap, arith, true, false, List}
use Rattle.std.proofs.lemmas.Bool.{eqb-true}
use Rattle.std.specs.Prelude.{◌==◌}
use Rattle.tide_heap.proofs.tide_layout.SlotPlaces.{index_of_slot-alone}
use Rattle.tide_heap.specs.tide_layout.Region.{tag}
use Rattle.tide_heap.specs.tide_layout.Slots.{index_of_slot}
use Rattle.tide_heap.specs.tide_layout.declared.region.Region.{Region}
use Rattle.tide_heap.specs.tide_layout.declared.region.Region.TheVariants as region
use Rattle.tide_heap.specs.tide_core.machine.DeadWords.{IsOfDead}
use Rattle.tide_heap.specs.tide_core.machine.Moment.{Moment}
use Rattle.tide_heap.specs.tide_core.machine.Owed.{IsOwnWord, own_register, own_structure, own_array, own_pair, own_element}
use Rattle.tide_heap.specs.tide_core.declared.machine.view.View.{View}
use Rattle.tide_model.specs.History.{state_after}
use Rattle.tide_model.specs.Layout.{Layout, cell_count, class_of, slots_of}
use Rattle.tide_model.specs.References.{IsLive}
use Rattle.tide_model.specs.Refused.{ShapeLists}
use Rattle.tide_model.specs.State.{State, dead}
use Rattle.tide_model.specs.declared.entry.Event.{Event}
use Rattle.tide_heap.proofs.tide_words.heap_laws.Frames.{is_read}
use Rattle.tide_heap.proofs.tide_words.heap_laws.ReadingLaws.{HasSlot-class}

-- the region has none
abbrev pub IsShared : Region → Type 0
IsShared at =
    ((tag at == tag region.Registers) ≡ false) × ((tag at == tag region.Structure) ≡ false)
    × ((tag at == tag region.Array) ≡ false) × ((tag at == tag region.Slots) ≡ false)
    × ((tag at == tag region.Elements) ≡ false)

pub not_own : (layout : Layout) (state : State) (at : Region) → IsShared at → (p index : ℕ) →
    IsOwnWord layout state p at index → ⊥
not_own layout state _ shared p _ (own_register r x y) = absurd (cc)
not_own layout state _ shared p _ (own_structure x at) = absurd (cc)
not_own layout state _ shared p _ (own_array x at) = absurd (cc)
not_own layout state _ shared p _ (own_pair t k at one has) = absurd (cc)
not_own layout state _ shared p _ (own_element x y k at is has) = absurd (cc)

-- the word that was found there stands in the words that read as the state, where it is of nothing dead
pub found_there : (layout : Layout) (shapes : ShapeLists) (v : View) (log : List Event) (at : Region)
    (index read : ℕ) → is_read at ≡ true → IsShared at → (IsOfDead layout (state_after layout log) at index → ⊥) →
    (m : Moment layout shapes v log at index read) → m.settled at index ≡ read
found_there layout shapes v log at index read is_one shared lives m =
    m.found is_one lives (λ p word own owes. not_own layout (state_after layout log) at shared p index own)
    (λ p own. absurd (not_own layout (state_after layout log) at shared p index own))

-- nor is a slot of a cell that is no table
no_pair : (layout : Layout) (state : State) (cell slot : ℕ) → cell < cell_count layout →
    slot < slots_of (class_of layout cell) → (p : ℕ) (at : Region) (index : ℕ) → IsOwnWord layout state p at index →
    tag at ≡ tag region.Slots → index ≡ index_of_slot layout cell slot → ⊥
no_pair layout state cell slot within below p _ _ (own_register r a b) e i = omega (arith, e)
no_pair layout state cell slot within below p _ _ (own_structure c at) e i = omega (arith, e)
no_pair layout state cell slot within below p _ _ (own_array c at) e i = omega (arith, e)
no_pair layout state cell slot within below p _ _ (own_element c a j at is has) e i = omega (arith, e)
no_pair layout state cell slot within below p _ _ (own_pair table place at one has) e i =
    let both = index_of_slot-alone layout cell table slot place (HasSlot-class layout cell slot within below).slot_within
    has.slot_within i in
    let class = eqb-true (class_of layout table) 4 one in
    let also = ap (class_of layout) both.0 in
    let few = ap slots_of (sym also ∙ class) in omega (arith, few, below)

-- so does a live one's
pub slot_found : (layout : Layout) (shapes : ShapeLists) (v : View) (log : List Event) (cell slot read : ℕ) →
    cell < cell_count layout → slot < slots_of (class_of layout cell) → IsLive (state_after layout log) cell →
    (m : Moment layout shapes v log region.Slots (index_of_slot layout cell slot) read) →
    m.settled region.Slots (index_of_slot layout cell slot) ≡ read
slot_found layout shapes v log cell slot read within below alive m =
    m.found refl lives (λ p word own owes. none p own) (λ p own. absurd (none p own))
  where
    lives : IsOfDead layout (state_after layout log) region.Slots (index_of_slot layout cell slot) → ⊥
    lives (other, at, there, same, gone) =
        let has = HasSlot-class layout cell slot within below in
        let both = index_of_slot-alone layout cell other slot at has.slot_within there.slot_within same in
        let dies : ((state_after layout log).cells cell).status ≡ dead =
        subst (λ (c : ℕ). ((state_after layout log).cells c).status ≡ dead) both.0 gone in absurd (cc)

    none : (p : ℕ) → IsOwnWord layout (state_after layout log) p region.Slots (index_of_slot layout cell slot) → ⊥
    none p own = no_pair layout (state_after layout log) cell slot within below p region.Slots
        (index_of_slot layout cell slot) own refl refl
