-- The steps of a growth after the take: its array is filled, the structure is nuked, the array is stored, and the new
-- structure is.
use Rattle.std.proofs.Common.{ℕ, zero, suc, ◌≡◌, ◌+◌, ◌<◌, ◌≤◌, ◌==◌, refl, sym, ◌∙◌, ap, subst, arith, Bool, true, false, List, [], ◌∷◌, length, None, Some, inl}
use Rattle.std.proofs.lemmas.Bool.{eq-eqb, ne_eqb}
use Rattle.std.specs.Prelude.{Contains, if◌then◌else◌, not, slice_index}
use Rattle.tide_mutator.specs.owed.Made.{Shown, shown}
use Rattle.tide_heap.specs.tide_call.ShapeWord.{whole_word}
use Rattle.tide_mutator.specs.owed.Replacing.{HasReplaced, IsGrowing, OwesGrowth, grown_out}
use Rattle.tide_mutator.specs.declared.owed.growth.Growth.{Growth}
use Rattle.tide_heap.proofs.tide_layout.SlotPlaces.{index_of_element-alone}
use Rattle.tide_heap.specs.tide_layout.Region.{tag}
use Rattle.tide_heap.specs.tide_layout.Slots.{HasElement, index_of_element}
use Rattle.tide_heap.specs.tide_layout.declared.region.Region.TheVariants as region
use Rattle.tide_heap.specs.tide_core.machine.Duties.{nuked_growth, stored_growth}
use Rattle.tide_heap.specs.tide_core.machine.Kind.{Nuke, StoreArray, StoreElement, StoreStructure}
use Rattle.tide_heap.specs.tide_core.machine.May.{RunsAsMutator}
use Rattle.tide_heap.specs.tide_core.machine.Owed.{Owes, owed_elements, owed_word, without_word}
use Rattle.tide_heap.specs.tide_core.machine.RunningWave.{RunningWave}
use Rattle.tide_heap.specs.tide_core.machine.World.{World}
use Rattle.tide_heap.specs.tide_core.declared.machine.view.Growth.{Growth as Stage}
use Rattle.tide_heap.specs.tide_core.declared.machine.view.Growth.TheVariants as growing
use Rattle.tide_heap.specs.tide_core.declared.machine.view.Owed.{Owed}
use Rattle.tide_heap.specs.tide_core.declared.machine.view.View.{View}
use Rattle.tide_heap.specs.tide_core.machine.points.Growths.{GrowthKnows}
use Rattle.tide_model.specs.History.{state_after}
use Rattle.tide_model.specs.Layout.{Layout}
use Rattle.tide_model.specs.References.{IsLive}
use Rattle.tide_model.specs.Refused.{ShapeLists}
use Rattle.tide_model.specs.State.{is_free}
use Rattle.tide_model.specs.declared.val.Val.{Val}
use Rattle.tide_heap.specs.steps.Follows.{FollowsSome, MayStep}
use Rattle.tide_heap.proofs.tide_words.heap_laws.ReadingLaws.{live_within}
use Rattle.tide_heap.specs.tide_words.forms.Reference.{array_word}
use Rattle.tide_heap.specs.tide_words.forms.ValueWord.{val_word}

-- the elements before a place that is left out
without_earlier : (layout : Layout) (properties : ℕ → Val) (array index n : ℕ) →
    ((place : ℕ) → place < n → (index_of_element layout array place == index) ≡ false) →
    without_word region.Elements index (owed_elements layout properties array n) ≡ owed_elements layout properties array n
without_earlier layout properties array index zero none = refl
without_earlier layout properties array index (suc n) none =
    ap (λ (b : Bool). if not b then
    owed_word region.Elements (index_of_element layout array n) (val_word (properties n))
    ∷ without_word region.Elements index (owed_elements layout properties array n)
    else without_word region.Elements index (owed_elements layout properties array n)) (none n (omega arith))
    ∙ ap (λ (l : List Owed). owed_word region.Elements (index_of_element layout array n) (val_word (properties n)) ∷ l)
    (without_earlier layout properties array index n (λ place below. none place (omega (arith, below))))

-- a step that leaves what a call shows, but for the stage of the growth
go_on : (layout : Layout) (v u w : View) (at later : Stage) (debts left : List Owed) → IsGrowing layout v u at debts →
    shown (grown_out w) ≡ shown (grown_out u) → w.growth ≡ later → w.owed ≡ left → w.duty ≡ u.duty →
    IsGrowing layout v w later left
go_on layout v u w at later debts left g same stage owed duty = record {
  is_mutator = subst (λ (n : ℕ). n < layout.mutators) (sym (ap (λ (s : Shown). s.kept.who) same)) g.is_mutator;
  runs = ap (λ (s : Shown). s.kept.runs) same ∙ g.runs;
  shown = same ∙ g.shown;
  stage = stage;
  owed = owed;
  duty = duty ∙ g.duty;
}

module _ (layout : Layout) (shapes : ShapeLists) (v u : View) (growth : Growth) (taken : ℕ) where
  abbrev cell : ℕ
  cell = growth.addition.cell

  abbrev filling : Stage
  filling = growing.Filling cell taken growth.old growth.next

  abbrev nuked : Stage
  nuked = growing.Nuked cell taken growth.old growth.next

  abbrev stored : Stage
  stored = growing.Stored cell taken growth.old growth.next

  abbrev structure_debt : Owed
  structure_debt = owed_word region.Structure cell growth.next

  abbrev array_debt : Owed
  array_debt = owed_word region.Array cell (array_word (Some taken))

  runs_there : (at : Stage) (debts : List Owed) → IsGrowing layout v u at debts → (w : World) → w.part u.who ≡ u →
      RunsAsMutator layout w u.who
  runs_there at debts g w is = record { is_mutator = g.is_mutator; runs = ap (λ (x : View). x.runs) is ∙ g.runs }

  -- an element that is owed is stored
  module _ (words : List ℕ) (left : ℕ) (o : OwesGrowth layout v u growth taken words (suc left))
      (next : growth.next ≡ whole_word growth.addition.next (growth.addition.count + 1))
      (few : growth.addition.count < 64) (below : left ≤ growth.addition.count)
      (has : HasElement layout taken growth.addition.count) where
    abbrev at : ℕ
    at = index_of_element layout taken left

    abbrev rest : List Owed
    rest = owed_elements layout o.properties taken left

    has_element : (place : ℕ) → place ≤ growth.addition.count → HasElement layout taken place
    has_element place within = record {
      array_within = has.array_within;
      element_within = (let wide = has.element_within in omega (arith, wide, within));
    }

    abbrev debts : List Owed
    debts = structure_debt ∷ array_debt ∷ owed_elements layout o.properties taken (suc left)

    known_keys : (w : World) → RunningWave layout shapes w → w.part u.who ≡ u →
        Contains ((state_after layout w.log).claims u.who) cell →
        left < length ((state_after layout w.log).cells cell).keys
    known_keys w running is claimed =
        let state = state_after layout w.log in
        let alive : IsLive state cell = running.refs.claimed u.who cell claimed in
        let within = live_within layout shapes running.words.settled state cell running.words.reads alive in
        let keys = ((running.words.reads.parts.cells cell within).taken (ap is_free alive)).keys in
        let owed = running.words.owed u.who region.Structure cell growth.next
        (subst (λ (l : List Owed). Contains l structure_debt)
        (sym (ap (λ (x : View). x.owed) is ∙ o.holds.owed)) (0, omega arith, refl)) in
        let word = keys.is_word in
        let most = keys.few_keys in omega (arith, word, most, owed, next, few, below)

    pub may_pay : (word : ℕ) → word ≡ slice_index words left → MayStep layout shapes u (StoreElement taken left word None)
    may_pay word is_word w running is =
        let knows = subst (λ (g : Stage). GrowthKnows w.heap (state_after layout w.log) u.who (w.part u.who) g)
        (ap (λ (x : View). x.growth) is ∙ o.holds.stage) (running.growths.knows u.who) in inl (record {
          runner = runs_there filling debts o.holds w is;
          own = record {
            cell = cell;
            claimed = knows.0.claimed;
            is_array = knows.0.has;
            has = has_element left below;
          };
          owed = subst (λ (l : List Owed). Contains l (owed_word region.Elements at word))
              (sym (ap (λ (x : View). x.owed) is ∙ o.holds.owed)) (
                2,
                omega arith,
                ap (λ (x : ℕ). owed_word region.Elements at x)
                    (sym (is_word ∙ o.words_are left (omega arith))),
              );
          within = known_keys w running is knows.0.claimed;
        })

    -- and then it is owed no more
    less : without_word region.Elements at debts ≡ structure_debt ∷ array_debt ∷ rest
    less = ap (λ (b : Bool). structure_debt ∷ array_debt ∷ (if not b then
        owed_word region.Elements at (val_word (o.properties left)) ∷ without_word region.Elements at rest
        else without_word region.Elements at rest)) (eq-eqb at at refl)
        ∙ ap (λ (l : List Owed). structure_debt ∷ array_debt ∷ l)
        (without_earlier layout o.properties taken at left (λ place earlier.
        ne_eqb (index_of_element layout taken place) at (λ same.
        let both = (index_of_element-alone layout taken taken left place (has_element left below).element_within
        (has_element place (omega (arith, earlier, below))).element_within same).1 in omega (arith, both, earlier))))

    pub paid : (word : ℕ) (w : View) → FollowsSome layout shapes (StoreElement taken left word None) u w →
        OwesGrowth layout v w growth taken words left
    paid word w f = record {
      properties = o.properties;
      holds = go_on layout v u w filling filling debts (structure_debt ∷ array_debt ∷ rest) o.holds
          (ap (λ (x : View). shown (grown_out x)) f.1.view)
          (ap (λ (x : View). x.growth) f.1.view ∙ o.holds.stage)
          (ap (λ (x : View). x.owed) f.1.view ∙ ap (without_word region.Elements at) o.holds.owed ∙ less)
          (ap (λ (x : View). x.duty) f.1.view);
      words_are = λ place earlier. o.words_are place (omega (arith, earlier));
    }

  -- the array is filled
  module _ (words : List ℕ) (o : OwesGrowth layout v u growth taken words 0) where
    no_element : (w : World) → w.part u.who ≡ u → (index word : ℕ) → Owes (w.part u.who) region.Elements index word → ⊥
    no_element w is index word owed = by_place (subst (λ (l : List Owed). Contains l (owed_word region.Elements index word))
        (ap (λ (x : View). x.owed) is ∙ o.holds.owed) owed)
      where
        by_place : Contains (structure_debt ∷ array_debt ∷ []) (owed_word region.Elements index word) → ⊥
        by_place (zero, inside, same) = absurd (let e = ap (λ (d : Owed). tag d.region) same in omega (arith, e))
        by_place (suc zero, inside, same) = absurd (let e = ap (λ (d : Owed). tag d.region) same in omega (arith, e))
        by_place (suc (suc k), inside, same) = absurd (omega (arith, inside))

    pub may_nuke : (word : ℕ) → word ≡ growth.old + 1 → MayStep layout shapes u (Nuke cell word)
    may_nuke word is_word w running is = record {
      runner = runs_there filling (structure_debt ∷ array_debt ∷ []) o.holds w is;
      array = taken;
      old = growth.old;
      next = growth.next;
      stage = ap (λ (x : View). x.growth) is ∙ o.holds.stage;
      filled = no_element w is;
      is_word = is_word;
    }

    pub has_nuked : (word : ℕ) (w : View) → FollowsSome layout shapes (Nuke cell word) u w →
        IsGrowing layout v w nuked (structure_debt ∷ array_debt ∷ [])
    has_nuked word w f = go_on layout v u w filling nuked (structure_debt ∷ array_debt ∷ [])
        (structure_debt ∷ array_debt ∷ []) o.holds (ap (λ (x : View). shown (grown_out x)) f.1.view)
        (ap (λ (x : View). x.growth) f.1.view ∙ ap nuked_growth o.holds.stage)
        (ap (λ (x : View). x.owed) f.1.view ∙ o.holds.owed) (ap (λ (x : View). x.duty) f.1.view)

  -- the structure is nuked
  module _ (g : IsGrowing layout v u nuked (structure_debt ∷ array_debt ∷ [])) where
    pub nuked_runs : u.runs ≡ true
    nuked_runs = g.runs

    pub may_store_array : MayStep layout shapes u (StoreArray cell taken)
    may_store_array w running is = record {
      runner = runs_there nuked (structure_debt ∷ array_debt ∷ []) g w is;
      old = growth.old;
      next = growth.next;
      stage = ap (λ (x : View). x.growth) is ∙ g.stage;
    }

    pub has_stored : (w : View) → FollowsSome layout shapes (StoreArray cell taken) u w →
        IsGrowing layout v w stored (structure_debt ∷ [])
    has_stored w f = go_on layout v u w nuked stored (structure_debt ∷ array_debt ∷ []) (structure_debt ∷ []) g
        (ap (λ (x : View). shown (grown_out x)) f.1.view)
        (ap (λ (x : View). x.growth) f.1.view ∙ ap stored_growth g.stage)
        (ap (λ (x : View). x.owed) f.1.view ∙ ap (without_word region.Array cell) g.owed
        ∙ ap (λ (b : Bool). structure_debt ∷ (if not b then array_debt ∷ [] else [])) (eq-eqb cell cell refl))
        (ap (λ (x : View). x.duty) f.1.view)

  -- the array is stored
  module _ (g : IsGrowing layout v u stored (structure_debt ∷ [])) where
    pub stored_runs : u.runs ≡ true
    stored_runs = g.runs

    pub may_store_structure : MayStep layout shapes u (StoreStructure cell growth.next None)
    may_store_structure w running is = record {
      runner = runs_there stored (structure_debt ∷ []) g w is;
      array = taken;
      old = growth.old;
      stage = ap (λ (x : View). x.growth) is ∙ g.stage;
    }

    pub has_replaced : (w : View) → FollowsSome layout shapes (StoreStructure cell growth.next None) u w →
        HasReplaced v w
    has_replaced w f = record {
      shown = ap shown f.1.view ∙ g.shown;
      owed = ap (λ (x : View). x.owed) f.1.view ∙ ap (without_word region.Structure cell) g.owed
          ∙ ap (λ (b : Bool). if not b then structure_debt ∷ [] else []) (eq-eqb cell cell refl);
      duty = ap (λ (x : View). x.duty) f.1.view ∙ g.duty;
    }
