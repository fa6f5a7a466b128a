-- The call of a growth from its first step to its last.
use Rattle.std.proofs.Common.{ℕ, suc, ◌≡◌, ◌+◌, ◌<◌, refl, sym, ◌∙◌, ap, subst, arith, Bool, List, [], ◌∷◌, Option, None, Some, inl, inr}
use Rattle.std.proofs.lemmas.Bool.{cases_lt}
use Rattle.std.specs.Prelude.{Contains, slice_index}
use Rattle.tide_mutator.proofs.cells_laws.Looking.{made_before as made_looked}
use Rattle.tide_mutator.proofs.owed_laws.Shading.{owing_made}
use Rattle.tide_mutator.proofs.owed_laws.Telling.{still_mutator, still_runs}
use Rattle.tide_mutator.specs.owed.Calling.{IsCalling, Kept}
use Rattle.tide_mutator.specs.owed.Made.{HasMade, IsMade, Shown, shown}
use Rattle.tide_mutator.specs.cells.Searching.{HasLooked}
use Rattle.tide_mutator.specs.owed.Shading.{Owing}
use Rattle.tide_mutator.specs.owed.Standing.{IsPlanned}
use Rattle.tide_heap.specs.tide_call.ShapeWord.{whole_word}
use Rattle.tide_mutator.proofs.calls_laws.growth_laws.Reading.{calling_still, planned_still, read_twice, ready_read}
use Rattle.tide_mutator.proofs.calls_laws.growth_laws.Taking.{elements_had, structure_known, structure_read, structure_small}
use Rattle.tide_mutator.specs.calls.Growing.{HasRead, HasTaken, IsReady, KnowsElements, action_of}
use Rattle.tide_mutator.specs.owed.Replacing.{HasReplaced, OwesGrowth, grown_out}
use Rattle.tide_mutator.specs.declared.owed.growth.Growth.{Growth}
use Rattle.tide_heap.specs.tide_layout.Slots.{index_of_element}
use Rattle.tide_heap.specs.tide_layout.declared.region.Region.TheVariants as region
use Rattle.tide_heap.specs.tide_core.machine.Kind.{LoadOwnStructure}
use Rattle.tide_heap.specs.tide_core.machine.May.{barrier_for}
use Rattle.tide_heap.specs.tide_core.machine.Owed.{Knows, owed_word}
use Rattle.tide_heap.specs.tide_core.declared.machine.view.Owed.{Owed}
use Rattle.tide_heap.specs.tide_core.declared.machine.view.View.{View}
use Rattle.tide_model.specs.Layout.{Layout}
use Rattle.tide_model.specs.Refused.{ShapeLists}
use Rattle.tide_model.specs.declared.op.Op.{Op}
use Rattle.tide_model.specs.declared.op.Reply.TheVariants.{Done}
use Rattle.tide_heap.specs.steps.Follows.{Follows}
use Rattle.tide_heap.specs.tide_call.Needed.{MayGrow}
use Rattle.tide_heap.specs.tide_words.forms.ValueWord.{val_word}

-- with the structure's word it is ready
pub ready_first : (layout : Layout) (shapes : ShapeLists) (v u : View) (op : Op) (growth : Growth) →
    IsCalling layout v op → IsPlanned layout shapes v op (action_of growth) →
    MayGrow layout growth.addition growth.array growth.class →
    growth.next ≡ whole_word growth.addition.next (growth.addition.count + 1) →
    Follows layout shapes (LoadOwnStructure growth.addition.cell) v growth.old u → IsReady layout shapes u op growth
ready_first layout shapes v u op growth calling planned may next f =
    let read = structure_read layout shapes v op growth calling planned growth.old u f in record {
      calling = calling_still v u read layout op calling;
      planned = planned_still v u read layout op shapes (action_of growth) planned;
      may = may;
      knows = structure_known layout shapes v op growth calling planned growth.old u f;
      small = structure_small layout shapes v op growth calling planned growth.old u f;
      next = next;
      has = elements_had layout shapes v op growth calling planned growth.old u f;
    }

-- and it still is once the elements are loaded
module _ (layout : Layout) (shapes : ShapeLists) (v first loaded : View) (op : Op) (growth : Growth)
    (calling : IsCalling layout v op) (planned : IsPlanned layout shapes v op (action_of growth))
    (may : MayGrow layout growth.addition growth.array growth.class)
    (next : growth.next ≡ whole_word growth.addition.next (growth.addition.count + 1))
    (f : Follows layout shapes (LoadOwnStructure growth.addition.cell) v growth.old first) (read : HasRead first loaded)
  where
    pub ready_loaded : IsReady layout shapes loaded op growth
    ready_loaded = ready_read first loaded read layout op shapes growth
        (ready_first layout shapes v first op growth calling planned may next f)

    pub read_loaded : HasRead v loaded
    read_loaded = read_twice v first loaded (structure_read layout shapes v op growth calling planned growth.old first f)
        read

-- a take after it looked
pub taken_before : (layout : Layout) (shapes : ShapeLists) (op : Op) (growth : Growth) (v u w : View) (taken : ℕ) →
    HasLooked v u → HasTaken layout shapes op growth u w taken → HasTaken layout shapes op growth v w taken
taken_before layout shapes op growth v u w taken h t = record {
  made = made_looked v u h layout op shapes (action_of growth) Done (shown (grown_out w)) t.made;
  stage = t.stage;
  duty = t.duty;
  has = t.has;
  properties = t.properties;
  owed = t.owed;
  copied = λ source place word from below knew. t.copied source place word from below
      (subst (λ (l : List Owed). Contains l (owed_word region.Elements (index_of_element layout source place) word))
      (sym (ap (λ (x : View). x.known) h.is)) knew);
  bare = t.bare;
  last = t.last;
}

module _ (layout : Layout) (shapes : ShapeLists) (op : Op) (growth : Growth) (v u : View) (taken : ℕ)
    (calling : IsCalling layout v op) (t : HasTaken layout shapes op growth v u taken) where
  -- the words that it loaded, and the value's, are those that it owes
  module _ (words : List ℕ) (knows : KnowsElements layout v growth.array words growth.addition.count)
      (last : slice_index words growth.addition.count ≡ val_word growth.value) where
    words_owed : (place : ℕ) → place < growth.addition.count + 1 →
        slice_index words place ≡ val_word (t.properties place)
    words_owed place below = elim (cases_lt place growth.addition.count) [
      | inl earlier ↦ by_array growth.array refl earlier
      | inr past ↦
          let same : growth.addition.count ≡ place = omega (arith, below, past) in
          subst (λ (n : ℕ). slice_index words n ≡ val_word (t.properties n)) same (last ∙ ap val_word (sym t.last))
    ]
      where
        by_array : (a : Option ℕ) → growth.array ≡ a → place < growth.addition.count →
            slice_index words place ≡ val_word (t.properties place)
        by_array None none earlier = absurd (let bare = t.bare none in omega (arith, bare, earlier))
        by_array (Some source) from earlier =
            t.copied source place (slice_index words place) from earlier (knows source place from earlier)

    pub owes_first : OwesGrowth layout u u growth taken words (growth.addition.count + 1)
    owes_first = record {
      properties = t.properties;
      holds = record {
        is_mutator = still_mutator layout shapes op (action_of growth) Done v (grown_out u) calling t.made;
        runs = still_runs layout shapes op (action_of growth) Done v (grown_out u) calling t.made;
        shown = refl;
        stage = t.stage;
        owed = t.owed ∙ ap (λ (n : ℕ). owed_word region.Structure growth.addition.cell growth.next
            ∷ owed_word region.Array growth.addition.cell
            (Rattle.tide_heap.specs.tide_words.forms.Reference.array_word (Some taken))
            ∷ Rattle.tide_heap.specs.tide_core.machine.Owed.owed_elements layout t.properties taken n)
            (let same : suc growth.addition.count ≡ growth.addition.count + 1 = omega arith in same);
        duty = refl;
      };
      words_are = words_owed;
    }

  -- once it has replaced the array, the call has its entry and owes the barrier alone
  module _ (w : View) (r : HasReplaced u w) where
    pub made_replaced : HasMade layout shapes op (action_of growth) Done v w []
        (barrier_for growth.addition.cell (val_word growth.value))
    made_replaced = record {
      made = subst (λ (s : Shown). IsMade layout shapes op (action_of growth) Done v s) (sym r.shown) t.made;
      owed = r.owed;
      duty = r.duty ∙ t.duty;
    }

    pub owing_replaced : Owing layout w (barrier_for growth.addition.cell (val_word growth.value))
    owing_replaced = owing_made layout shapes op (action_of growth) Done v w _ calling made_replaced
