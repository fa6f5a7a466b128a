-- What a caller's own words say in a state in which it may call.
use Rattle.std.proofs.Common.{ℕ, ◌≡◌, ◌^◌, ◌<◌, ◌≤◌, refl, sym, ◌∙◌, ap, subst, arith, true, false, List, Option, Some, None, length}
use Rattle.std.specs.Prelude.{slice_get}
use Rattle.tide_words.specs.tide_layout.declared.region.Region.TheVariants.{Array, Claim, Structure as StructureRegion}
use Rattle.tide_model.specs.Layout.{array_count, cell_count}
use Rattle.tide_model.specs.Numbers.{is_among}
use Rattle.tide_model.specs.References.{IsLive}
use Rattle.tide_model.specs.Refused.{holds}
use Rattle.tide_model.specs.State.{State, is_free}
use Rattle.tide_model.proofs.NumberLaws.{contains_from_among}
use Rattle.tide_words.specs.declared.forms.structure.Structure.{Structure}
use Rattle.tide_words.specs.forms.Reference.{array_word, claim_word}
use Rattle.tide_words.specs.forms.StructureWord.{IsStructureWord, structure_word}
use Rattle.tide_words.specs.heap.Heap.{Heap}
use Rattle.tide_words.specs.heap.Reading.{TakenReads}
use Rattle.tide_words.proofs.form_laws.FormLaws.{same_from_structure_word}
use Rattle.tide_call.specs.Callers.{Planner, CallsIn, Leaves, LeavesOwn, MayCallNow, OwnHeaps}
use Rattle.tide_call.specs.ShapeWord.{IsShapeWord}

-- a caller that may call now may do so somewhere
pub somewhere : (owns : OwnHeaps) (caller : Planner) → MayCallNow owns caller →
    (heap : Heap) × (state : State) × CallsIn owns caller heap state
somewhere owns caller may = (let (state, calls) = may.each may.heap may.owned in (may.heap, state, calls))

-- where its own words were read, a caller may call still
pub Leaves-own : {C Rest : Type 0} (before after : C → OwnHeaps) (context : C) (view caller : Planner) (old new : Rest) →
    view ≡ caller → MayCallNow (before context) caller →
    LeavesOwn before after context view.layout view.who old new → Leaves before after context caller old new
Leaves-own {C} {Rest} before after context view caller old new same may left = (
  record {
    heap = own.0.0;
    owned = own.0.1;
    each = λ heap owned. (let (state, calls) = may.each heap (own.1 heap owned) in (
      state,
      record { owned = owned; reads = calls.reads; is_caller = calls.is_caller },
    ));
  },
  (λ heap state calls. record {
    owned = own.1 heap calls.owned;
    reads = calls.reads;
    is_caller = calls.is_caller;
  }),
  own.2,
)
  where
    own : LeavesOwn before after context caller.layout caller.who old new
    own = subst (λ (one : Planner). LeavesOwn before after context one.layout one.who old new) same left

-- the heap has the words of a caller that is seen otherwise
pub owned-seen : (owns : OwnHeaps) (heap : Heap) (view caller : Planner) → view ≡ caller →
    owns caller.layout caller.who heap → owns view.layout view.who heap
owned-seen owns heap view caller same owned = subst (λ (one : Planner). owns one.layout one.who heap) (sym same) owned

pub claim-seen : (heap : Heap) (cell : ℕ) (view caller : Planner) → view ≡ caller →
    heap Claim cell ≡ claim_word (Some caller.who) → heap Claim cell ≡ claim_word (Some view.who)
claim-seen heap cell view caller same is = is ∙ ap (λ (one : Planner). claim_word (Some one.who)) (sym same)

module _ (owns : OwnHeaps) (caller : Planner) (heap : Heap) (state : State) (calls : CallsIn owns caller heap state) where
  -- the state has the caller's claims
  pub holds-claims : (cell : ℕ) → holds state caller.who cell ≡ is_among caller.claims cell
  holds-claims cell = ap (λ (claims : List ℕ). is_among claims cell) calls.is_caller.claims

  module _ (cell : ℕ) (claimed : is_among caller.claims cell ≡ true) where
    pub is_held : holds state caller.who cell ≡ true
    is_held = holds-claims cell ∙ claimed

    pub claimed_is_live : IsLive state cell
    claimed_is_live = calls.is_caller.live cell is_held

    module _ (within : cell < cell_count caller.layout) where
      -- its claim word has the caller
      pub claimed_word : heap Claim cell ≡ claim_word (Some caller.who)
      claimed_word = (calls.reads.parts.claims.named cell caller.who within).1 (contains_from_among (state.claims caller.who) cell is_held)

      pub claimed_reads : TakenReads caller.layout caller.shapes heap cell (state.cells cell)
      claimed_reads = (calls.reads.parts.cells cell within).taken (ap is_free claimed_is_live)

      -- its structure word has its shape
      pub shape-read : (word : ℕ) (structure : Structure) → word ≡ heap StructureRegion cell →
          structure_word structure ≡ word → structure.count ≤ 64 →
          IsShapeWord caller.shapes (state.cells cell).keys structure.shape
      shape-read word structure same is few =
          let keys = claimed_reads.keys in
          let whole : Structure = record { shape = keys.shape; count = length (state.cells cell).keys; nuked = false } in
          let one : structure ≡ whole = same_from_structure_word structure whole few keys.few_keys (is ∙ same ∙ sym keys.is_word) in
          record {
            is_shape = subst (λ (s : Structure). slice_get caller.shapes s.shape ≡ Some (state.cells cell).keys) (sym one) keys.is_shape;
            few_shapes = subst (λ (s : Structure). s.shape < 2 ^ 32) (sym one) keys.few_shapes;
            few_keys = keys.few_keys;
          }

      -- and is one of a structure
      pub structure-read : (word : ℕ) → word ≡ heap StructureRegion cell → IsStructureWord word
      structure-read word same =
          let keys = claimed_reads.keys in (
            record { shape = keys.shape; count = length (state.cells cell).keys; nuked = false },
            keys.few_shapes,
            keys.few_keys,
            keys.is_word ∙ sym same,
          )

      -- its array word has its array
      pub array-read : (word array : ℕ) → word ≡ heap Array cell → array_word (Some array) ≡ word →
          (state.cells cell).array ≡ Some array
      array-read word array same is = by_array (state.cells cell).array (is ∙ same ∙ claimed_reads.array)
        where
          by_array : (own : Option ℕ) → array_word (Some array) ≡ array_word own → own ≡ Some array
          by_array None one = absurd (omega (arith, one))
          by_array (Some other) one = ap (λ (a : ℕ). Some a) (let e : other ≡ array = omega (arith, one) in e)

      -- where it isn't that of an array of the layout, the cell has none
      pub array-none : (word : ℕ) → word ≡ heap Array cell →
          ((array : ℕ) → array < array_count caller.layout → array_word (Some array) ≡ word → ⊥) →
          (state.cells cell).array ≡ None
      array-none word same isnt = by_array (state.cells cell).array refl
        where
          by_array : (own : Option ℕ) → (state.cells cell).array ≡ own → own ≡ None
          by_array None is = refl
          by_array (Some array) is = absurd (isnt array (calls.is_caller.arrays cell array is_held is)
              (sym (ap array_word is) ∙ sym claimed_reads.array ∙ sym same))

-- each heap that has the words of a caller that may call says that it claims the cell
pub claims-there : (owns : OwnHeaps) (view caller : Planner) → view ≡ caller → MayCallNow owns caller → (cell : ℕ) →
    is_among caller.claims cell ≡ true → cell < cell_count caller.layout → (heap : Heap) →
    owns view.layout view.who heap → heap Claim cell ≡ claim_word (Some view.who)
claims-there owns view caller same may cell claimed within heap owned =
    let (state, calls) = may.each heap (subst (λ (one : Planner). owns one.layout one.who heap) same owned) in
    claim-seen heap cell view caller same (claimed_word owns caller heap state calls cell claimed within)
