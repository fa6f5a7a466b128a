-- A word that a mutator alone stores is as it finds it, where it owes nothing.
use Rattle.std.proofs.Common.{ℕ, ◌≡◌, refl, subst, arith, true, List, []}
use Rattle.std.specs.Prelude.{Contains}
use Rattle.tide_heap.proofs.tide_layout.SlotPlaces.{index_of_element-alone, index_of_slot-alone}
use Rattle.tide_heap.specs.tide_layout.declared.region.Region.{Region}
use Rattle.tide_heap.proofs.tide_core.machine_laws.steps.Owning.{own_alone}
use Rattle.tide_heap.specs.tide_core.machine.Moment.{Moment}
use Rattle.tide_heap.specs.tide_core.machine.DeadWords.{IsOfDead}
use Rattle.tide_heap.specs.tide_core.machine.Owed.{IsOwnWord, owed_word, own_register, own_structure, own_array, own_pair, own_element}
use Rattle.tide_heap.specs.tide_core.declared.machine.view.Owed.{Owed}
use Rattle.tide_heap.specs.tide_core.declared.machine.view.View.{View}
use Rattle.tide_model.proofs.ClaimLaws.{ClaimsAreOwn-lawful}
use Rattle.tide_model.specs.History.{state_after}
use Rattle.tide_model.specs.Layout.{Layout}
use Rattle.tide_model.specs.References.{RefsAreLive}
use Rattle.tide_model.specs.Refused.{ShapeLists}
use Rattle.tide_model.specs.State.{State, dead}
use Rattle.tide_model.specs.declared.entry.Event.{Event}
use Rattle.tide_heap.proofs.tide_words.heap_laws.Frames.{is_read}

-- a view that owes nothing owes no word
pub owes_nothing : (v : View) → v.owed ≡ [] → (word : Owed) → Contains v.owed word → ⊥
owes_nothing v none word has =
    let (x, below, is) = subst (λ (l : List Owed). Contains l word) none has in absurd (omega (arith, below))

-- a word of its own is of nothing dead: what it claims is live
own_lives : (layout : Layout) (state : State) → RefsAreLive state → (p : ℕ) (at : Region) (index : ℕ) →
    IsOwnWord layout state p at index → IsOfDead layout state at index → ⊥
own_lives layout state refs p _ _ (own_register r a b) gone = gone
own_lives layout state refs p _ _ (own_structure c claimed) gone = (let alive = refs.claimed p c claimed in absurd (cc))
own_lives layout state refs p _ _ (own_array c claimed) gone = (let alive = refs.claimed p c claimed in absurd (cc))
own_lives layout state refs p _ _ (own_pair table k claimed one has) (cell, slot, there, same, gone) =
    let both = index_of_slot-alone layout table cell k slot has.slot_within there.slot_within same in
    let dies : (state.cells table).status ≡ dead = subst (λ (c : ℕ). (state.cells c).status ≡ dead) both.0 gone in
    let alive = refs.claimed p table claimed in absurd (cc)
own_lives layout state refs p _ _ (own_element c a k claimed is has) (array, place, there, same, gone) =
    let both = index_of_element-alone layout a array k place has.element_within there.element_within same in
    let dies : state.arrays a ≡ dead = subst (λ (n : ℕ). state.arrays n ≡ dead) both.0 gone in
    let alive = refs.arrays_are_live c a (refs.claimed p c claimed) is in absurd (cc)

-- a word of its own that it finds stands in the words that read as the state, where it owes nothing
pub own_found : (layout : Layout) (shapes : ShapeLists) (v : View) (log : List Event) (at : Region) (index read : ℕ) →
    is_read at ≡ true → v.owed ≡ [] → IsOwnWord layout (state_after layout log) v.who at index →
    (m : Moment layout shapes v log at index read) → m.settled at index ≡ read
own_found layout shapes v log at index read is_one calm own m =
    m.found is_one (own_lives layout (state_after layout log) m.refs v.who at index own)
    (λ p word its owes. owes_nothing v calm (owed_word at index word) owes)
    (λ p its. own_alone layout (state_after layout log) (ClaimsAreOwn-lawful layout shapes log m.lawful) m.refs p
    v.who at at index index its own refl refl)
