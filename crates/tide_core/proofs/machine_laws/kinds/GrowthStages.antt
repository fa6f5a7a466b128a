-- The stages of a growth keep the wave: the structure is nuked, the array is stored, and the structure is stored.
use Rattle.std.proofs.Common.{ℕ, ◌≡◌, ◌≢◌, ◌+◌, ◌<◌, ◌≤◌, ◌⊎◌, refl, sym, ◌∙◌, ap, subst, arith, true, false, List, [], inl, inr, length, Option, Some, None}
use Rattle.std.proofs.lemmas.Bool.{cases_eq}
use Rattle.std.specs.Prelude.{Contains, not}
use Rattle.tide_words.specs.tide_layout.Slots.{HasElement, index_of_element}
use Rattle.tide_words.specs.tide_layout.declared.region.Region.{Region}
use Rattle.tide_core.proofs.machine_laws.WordLaws.{nuked_word_reads}
use Rattle.tide_core.proofs.machine_laws.steps.Frames.{calls_view, stops_view}
use Rattle.tide_core.proofs.machine_laws.steps.GrowthsKept.{growth_kept}
use Rattle.tide_core.proofs.machine_laws.steps.Lists.{from_none}
use Rattle.tide_core.proofs.machine_laws.steps.Owning.{own_alone}
use Rattle.tide_core.proofs.machine_laws.steps.Paying.{words_over, words_paid, in_filter, filter_was}
use Rattle.tide_core.proofs.machine_laws.steps.Steps.{any_step}
use Rattle.tide_core.proofs.machine_laws.steps.SweepsKept.{swept_kept, sweeps_kept}
use Rattle.tide_core.proofs.machine_laws.steps.Waiting.{left_quiet}
use Rattle.tide_core.proofs.machine_laws.steps.SettledNow.{own_now}
use Rattle.tide_core.proofs.machine_laws.steps.Unsettled.{unsettled_write}
use Rattle.tide_core.specs.machine.Duties.{GrowsAndOwes, GrowsOn, nuked_growth, stored_growth, StillOwes}
use Rattle.tide_core.specs.machine.Kind.{Nuke, StoreArray, StoreStructure}
use Rattle.tide_core.specs.machine.Machine.{stepped}
use Rattle.tide_core.specs.machine.Owed.{Owes, owed_word, is_at, without_word, IsOwnWord, own_register, own_structure, own_array, own_pair, own_element}
use Rattle.tide_core.specs.machine.RunningWave.{RunningWave}
use Rattle.tide_core.specs.machine.Scanning.{IsTrue, IsStill, Place, property}
use Rattle.tide_core.specs.machine.Words.{count_of, is_nuked, nuked_word}
use Rattle.tide_core.specs.machine.World.{World, parties}
use Rattle.tide_core.specs.declared.machine.view.Growth.{Growth}
use Rattle.tide_core.specs.declared.machine.view.Owed.{Owed}
use Rattle.tide_core.specs.declared.machine.view.Scan.{Scan}
use Rattle.tide_core.specs.declared.machine.view.View.{View}
use Rattle.tide_core.specs.machine.kinds.Nuke.{MayNuke}
use Rattle.tide_core.specs.machine.kinds.StoreArray.{MayStoreArray}
use Rattle.tide_core.specs.machine.kinds.StoreStructure.{PaysStructure}
use Rattle.tide_core.specs.machine.points.Arrays.{ArrayStands, ArraysStand}
use Rattle.tide_core.specs.machine.points.Growths.{GrowthKnows, OwesNoElement}
use Rattle.tide_core.specs.machine.points.Links.{LinkAt, ScanExcuses, Excuses}
use Rattle.tide_core.specs.machine.points.Scans.{held, scanned, buffered, ScanKnows}
use Rattle.tide_core.specs.machine.points.SettledWords.{RunningWordsRead}
use Rattle.tide_model.proofs.ClaimLaws.{ClaimsAreOwn-lawful}
use Rattle.tide_model.specs.History.{state_after}
use Rattle.tide_model.specs.Layout.{Layout, cell_count}
use Rattle.tide_model.specs.Numbers.{put_at}
use Rattle.tide_model.specs.References.{IsLive}
use Rattle.tide_model.specs.Refused.{ShapeLists}
use Rattle.tide_model.specs.State.{State, is_free}
use Rattle.tide_words.proofs.heap_laws.HeapLaws.{write-same, write-other_index}
use Rattle.tide_words.proofs.heap_laws.ReadingLaws.{live_within}
use Rattle.tide_words.specs.forms.ValueWord.{val_word}
use Rattle.tide_words.specs.heap.Heap.{Heap, write}
use Rattle.tide_words.specs.marking.Colours.{is_marking}
use Rattle.tide_words.specs.tide_layout.declared.region.Region.TheVariants as region
use Rattle.tide_core.specs.declared.machine.view.Growth.TheVariants as growth

module _ (layout : Layout) (shapes : ShapeLists) (w : World) (me : ℕ) (inside : me < parties)
    (wave : RunningWave layout shapes w) (runs : (w.part me).runs ≡ true) where
  abbrev state : State
  state = state_after layout w.log

  claimed_alone : (p cell : ℕ) → p ≢ me → Contains (state.claims me) cell → Contains (state.claims p) cell → ⊥
  claimed_alone p cell apart mine other =
      apart ((ClaimsAreOwn-lawful layout shapes w.log wave.lawful).one_claims p me cell other mine)

  -- what the words of the cell say once no element of its new array is owed
  module _ (cell array : ℕ) (mine : Contains (state.claims me) cell) (has : (state.cells cell).array ≡ Some array) where
    alive : IsLive state cell
    alive = wave.refs.claimed me cell mine

    within : cell < cell_count layout
    within = live_within layout shapes wave.words.settled state cell wave.words.reads alive

    property_stands : (place : ℕ) → place < length (state.cells cell).keys → HasElement layout array place ×
        (val_word ((state.cells cell).properties place)
        ≡ wave.words.settled region.Elements (index_of_element layout array place))
    property_stands place below =
        let (a, its, has_it, value) = (wave.words.reads.parts.cells cell within).properties alive place below in
        let both = sym its ∙ has in
        let same : a ≡ array = cc in
        subst (λ (x : ℕ). HasElement layout x place × (val_word ((state.cells cell).properties place)
        ≡ wave.words.settled region.Elements (index_of_element layout x place))) same (has_it, value.is_word)

    -- the next structure's word tells all keys
    next_tells : (next : ℕ) → Owes (w.part me) region.Structure cell next →
        count_of next ≡ length (state.cells cell).keys
    next_tells next owes =
        let keys = ((wave.words.reads.parts.cells cell within).taken (ap is_free alive)).keys in
        let word = keys.is_word ∙ wave.words.owed me region.Structure cell next owes in
        let few = keys.few_keys in
        omega (arith, word, few)

    filled_stands : OwesNoElement (w.part me) → (new : Heap) →
        ((index : ℕ) → new region.Elements index ≡ w.heap region.Elements index) →
        count_of (new region.Structure cell) ≤ length (state.cells cell).keys →
        ArrayStands layout new state cell array
    filled_stands filled new elements few = record {
      own = inl (wave.refs.arrays_are_live cell array alive has, has);
      few = few;
      room = λ place below. (property_stands place (omega (arith, below, few))).0;
      named = λ place below.
          let p = property_stands place (omega (arith, below, few)) in
          p.1 ∙ sym (elements (index_of_element layout array place) ∙ wave.words.same region.Elements
          (index_of_element layout array place) refl (λ p x owes. unowed place (property_stands place
          (omega (arith, below, few))).0 p x owes)
          (own_now layout shapes w wave me region.Elements (index_of_element layout array place)
          (own_element cell array place mine has (property_stands place (omega (arith, below, few))).0)));
    }
      where
        unowed : (place : ℕ) → HasElement layout array place → (p x : ℕ) →
            Owes (w.part p) region.Elements (index_of_element layout array place) x → ⊥
        unowed place has_it p x owes = elim (cases_eq p me) [
          | inl same ↦ filled (index_of_element layout array place) x
              (subst (λ (q : ℕ). Owes (w.part q) region.Elements (index_of_element layout array place) x) same owes)
          | inr apart ↦ apart (own_alone layout state (ClaimsAreOwn-lawful layout shapes w.log wave.lawful) wave.refs p
              me
              region.Elements region.Elements (index_of_element layout array place) (index_of_element layout array
              place)
              (wave.words.owns p region.Elements (index_of_element layout array place) x owes)
              (own_element cell array place mine has has_it) refl refl)
        ]

  -- a mutator that keeps its duty, its stack and its scan, and knows nothing any more
  abbrev later : Growth → List Owed → View
  later stage owed = record (w.part me) { growth = stage; owed = owed; known = [] }

  module _ (cell : ℕ) (mine : Contains (state.claims me) cell) (word : ℕ) (stage : Growth) (owed : List Owed) where
    abbrev new : Heap
    new = write w.heap region.Structure cell word

    here : new region.Structure cell ≡ word
    here = write-same w.heap region.Structure cell word

    there : (other : ℕ) → other ≢ cell → new region.Structure other ≡ w.heap region.Structure other
    there other apart = write-other_index w.heap region.Structure cell other word apart

    -- what the new word has to be, and what the view owes then
    pub record ShowsWord : Type 0 where
      pub more : count_of (w.heap region.Structure cell) ≤ count_of word
      pub or_nuked : (is_nuked word ≡ true) ⊎ (count_of (w.heap region.Structure cell) < count_of word)
      pub words : RunningWordsRead layout shapes new (put_at w.part me (later stage owed)) state
      pub growth : GrowthKnows new state me (later stage owed) stage
      pub beyond : is_marking w.heap ≡ true → (source n target : ℕ) → LinkAt state source (property n) target →
          count_of (new region.Structure source) ≤ n → GrowsAndOwes (w.part me) source →
          GrowsAndOwes (later stage owed) source
      pub stands : (a : ℕ) → w.heap region.Array cell ≡ a + 1 → ArrayStands layout new state cell a
      pub bare : w.heap region.Array cell ≡ 0 → count_of word ≡ 0

    module _ (s : ShowsWord) where
      count_grows : (source : ℕ) → count_of (w.heap region.Structure source) ≤ count_of (new region.Structure source)
      count_grows source = elim (cases_eq source cell) [
        | inl same ↦
            let e = ap (new region.Structure) same ∙ here in
            let o = ap (w.heap region.Structure) same in
            let m = s.more in
            let ce = ap count_of e in
            let co = ap count_of o in
            omega (arith, ce, co, m)
        | inr apart ↦ (let e = ap count_of (there source apart) in omega (arith, e))
      ]

      -- no first reading is the new word
      never : (first : ℕ) → count_of first ≤ count_of (w.heap region.Structure cell) → word ≡ first →
          is_nuked first ≡ false → ⊥
      never first below is even = elim s.or_nuked [
        | inl nuked ↦ (let also = ap is_nuked is in absurd (cc))
        | inr more ↦ (let c = ap count_of is in omega (arith, below, more, c))
      ]

      still_before : (p : ℕ) (scan : Scan) → (w.part p).scan ≡ Some scan → (first : Option ℕ) → scan.first ≡ first →
          IsStill first (new region.Structure scan.cell) → IsStill first (w.heap region.Structure scan.cell)
      still_before p scan is None e holds = tt
      still_before p scan is (Some first) e holds = elim (cases_eq scan.cell cell) [
        | inl same ↦
            let below = (wave.scans.knows p scan is).grows first e in
            let o = ap count_of (ap (w.heap region.Structure) same) in
            absurd (never first (omega (arith, below, o)) (sym here ∙ ap (new region.Structure) (sym same) ∙ holds.0)
            holds.1)
        | inr apart ↦ (sym (there scan.cell apart) ∙ holds.0, holds.1)
      ]

      knows_after : (p : ℕ) (scan : Scan) → (w.part p).scan ≡ Some scan → ScanKnows layout new state scan
      knows_after p scan is = let k = wave.scans.knows p scan is in record {
        unread = k.unread;
        array_after = k.array_after;
        room = k.room;
        names_live = k.names_live;
        agreed = k.agreed;
        grows = λ first e. (let below = k.grows first e in let g = count_grows scan.cell in omega (arith, below, g));
        nuked = λ first e same nuked. elim (cases_eq scan.cell cell) [
          | inl is_it ↦ elim s.or_nuked [
            | inl now ↦ ap is_nuked (ap (new region.Structure) is_it ∙ here) ∙ now
            | inr more ↦
                let below = k.grows first e in
                let o = ap count_of (ap (w.heap region.Structure) is_it) in
                let n = ap count_of (ap (new region.Structure) is_it ∙ here) in
                absurd (omega (arith, below, same, more, o, n))
          ]
          | inr apart ↦ ap is_nuked (there scan.cell apart) ∙
              k.nuked first e (same ∙ ap count_of (there scan.cell apart)) nuked
        ];
        array = λ array has still. k.array array has (still_before p scan is scan.first refl still);
      }

      truer_before : (p : ℕ) (scan : Scan) → (w.part p).scan ≡ Some scan →
          IsTrue scan (new region.Structure scan.cell) → IsTrue scan (w.heap region.Structure scan.cell)
      truer_before p scan is holds = (
        holds.0,
        elim holds.1 [
          | inl agreed ↦ inl agreed
          | inr still ↦ inr (still_before p scan is scan.first refl still)
        ],
      )

      own_else : (p : ℕ) (at : Region) (index : ℕ) → p ≢ me → IsOwnWord layout state p at index →
          new at index ≡ w.heap at index
      own_else p _ _ apart (own_register register a b) = refl
      own_else p _ _ apart (own_structure c claimed) =
          there c (λ e. claimed_alone p cell apart mine (subst (Contains (state.claims p)) e claimed))
      own_else p _ _ apart (own_array c claimed) = refl
      own_else p _ _ apart (own_pair table place claimed is has) = refl
      own_else p _ _ apart (own_element c array place claimed is has) = refl

      bare_after : (x : ℕ) → IsLive state x → w.heap region.Array x ≡ 0 → count_of (new region.Structure x) ≡ 0
      bare_after x alive_x none = elim (cases_eq x cell) [
        | inl same ↦ ap count_of (ap (new region.Structure) same ∙ here)
            ∙ s.bare (ap (w.heap region.Array) (sym same) ∙ none)
        | inr apart ↦ ap count_of (there x apart) ∙ wave.arrays.bare x alive_x none
      ]

      stand_after : (x a : ℕ) → IsLive state x → w.heap region.Array x ≡ a + 1 → ArrayStands layout new state x a
      stand_after x a alive_x is = elim (cases_eq x cell) [
        | inl same ↦ subst (λ (c : ℕ). ArrayStands layout new state c a) (sym same)
            (s.stands a (ap (w.heap region.Array) (sym same) ∙ is))
        | inr apart ↦
            let before = wave.arrays.stand x a alive_x is in
            record {
              own = before.own;
              few = subst (λ (word : ℕ). count_of word ≤ length (state.cells x).keys) (sym (there x apart)) before.few;
              room = λ n below. before.room n (subst (λ (word : ℕ). n < count_of word) (there x apart) below);
              named = λ n below. before.named n (subst (λ (word : ℕ). n < count_of word) (there x apart) below);
            }
      ]

      arrays_after : ArraysStand layout new state
      arrays_after = record { stand = stand_after; bare = bare_after }

      pub structure_step : RunningWave layout shapes
          (record { heap = new; part = put_at w.part me (later stage owed); log = w.log })
      structure_step = any_step layout shapes w.heap w.part w.log me wave new (later stage owed) record {
        inside = inside;
        phase = refl;
        base = refl;
        period = refl;
        words = s.words;
        who = refl;
        seen = inl refl;
        mine = refl;
        finds = wave.kept.full me;
        told = λ _. wave.numbers.told me runs;
        begins = wave.numbers.begun me;
        left = refl;
        calls = calls_view layout w.heap new w.part me (later stage owed) refl (λ p. refl) wave.calls;
        stops = stops_view layout w.heap new w.part me (later stage owed) refl (λ p. refl) wave.stops;
        empties = λ is. absurd (cc);
        waits = left_quiet layout w.heap new w.part me (later stage owed) refl refl (λ _ c in_c is. is) (λ c is. is)
            refl
            refl refl refl wave.waits;
        stands = arrays_after;
        swept = swept_kept layout w.heap new refl (λ block within. refl) wave.swept;
        sweeps = sweeps_kept layout w.heap new w.part me (later stage owed) w.log refl (λ block. refl) (λ block. refl)
            (unsettled_write w.heap w.part region.Structure cell word
            (own_now layout shapes w wave me region.Structure cell (own_structure cell mine))) refl refl refl refl wave.sweeps;
        growth = s.growth;
        growths = λ p apart. growth_kept w.heap new state state p (w.part p) (w.part p)
            (λ c its. there c (λ e. claimed_alone p cell apart mine (subst (Contains (state.claims p)) e its)))
            (λ c its. refl) (λ c at. at) (λ c a its is. is) (λ c x o. o) (λ c x o. o) (λ i x o. o) (w.part p).growth
            (wave.growths.knows p);
        knows = λ at index word is. from_none (owed_word at index word) is;
        knows_still = λ p at index word apart is. own_else p at index apart (wave.kept.owns p at index word is) ∙
            wave.kept.known p at index word is;
        colours = wave.colours;
        balance = λ c in_c few. refl;
        rests = λ idle. (wave.rests.held idle me, wave.rests.scans idle me);
        at_hand = λ c at. wave.hands.cells me c (elim at [
          | held is ↦ held is
          | scanned scan is e ↦ scanned scan is e
          | buffered scan is e ↦ buffered scan is e
        ]);
        arrays = λ array scan is. wave.hands.arrays me array scan is;
        scanned = λ scan is. (
          wave.retained.scanned me scan is,
          knows_after me scan is,
          λ c at holds. wave.retained.buffered me c scan is at (truer_before me scan is holds),
        );
        scans = λ p scan apart is. knows_after p scan is;
        truer = λ p scan apart is holds. truer_before p scan is holds;
        black = λ source place target link black white.
            inr (refl, white, λ e. inl (same_excuse source place target e));
        stays = λ c is. is;
        recoloured = λ _ c. inl refl;
        aims = λ scan target is. wave.targets.right me scan target is;
        marked = λ c in_c is. inl is;
        born = λ _ c owes. inl owes;
        owes = λ c owes. (owes, wave.born.white me c owes);
        counted = λ marks. omega arith;
        beyond = λ marks source n target link past.
            let more = count_grows source in
            let (p, g) = wave.grows.beyond marks source n target link (omega (arith, more, past)) in
            elim (cases_eq p me) [
              | inl same ↦ inl (s.beyond marks source n target link past
                  (subst (λ (q : ℕ). GrowsAndOwes (w.part q) source) same g))
              | inr apart ↦ inr (p, apart, g)
            ];
      }
        where
          same_excuse : (source : ℕ) (place : Place) (target : ℕ) → Excuses w.heap source place target (w.part me) →
              Excuses new source place target (later stage owed)
          same_excuse source place target (inl owes) = inl owes
          same_excuse source place target (inr answers) = inr (of_scan (w.part me).scan refl answers)
            where
              of_scan : (scan : Option Scan) → (w.part me).scan ≡ scan → ScanExcuses w.heap source place target scan →
                  ScanExcuses new source place target scan
              of_scan None is e = e
              of_scan (Some scan) is e = (
                e.0,
                λ holds. e.1 (subst (λ (c : ℕ). IsTrue scan (w.heap region.Structure c)) e.0
                    (truer_before me scan is (subst (λ (c : ℕ). IsTrue scan (new region.Structure c)) (sym e.0)
                    holds))),
              )

  -- the structure is nuked: its word is owed still
  pub nuke : (cell word : ℕ) → MayNuke layout w me cell word →
      RunningWave layout shapes (stepped layout shapes w me (Nuke cell word))
  nuke cell word may = subst (λ (x : ℕ). RunningWave layout shapes (stepped layout shapes w me (Nuke cell x)))
      (sym may.is_word)
      (subst (λ (g : Growth). RunningWave layout shapes (record {
        heap = write w.heap region.Structure cell (nuked_word may.old);
        part = put_at w.part me (later g (w.part me).owed);
        log = w.log;
      })) (sym (ap nuked_growth may.stage))
      (structure_step cell k.0.claimed (nuked_word may.old) (growth.Nuked cell may.array may.old may.next) (w.part me).owed
      record {
        more = (let c = same_count in omega (arith, c));
        or_nuked = inl (nuked_word_reads may.old k.0.even).0;
        words = words_over layout shapes w.heap w.part me state wave.words region.Structure cell
            (later (growth.Nuked cell may.array may.old may.next) (w.part me).owed)
            (λ r i x at. from_none (owed_word r i x) at) refl (nuked_word may.old) may.next k.0.owes refl;
        growth = (
          record {
            claimed = k.0.claimed;
            has = k.0.has;
            stands = write-same w.heap region.Structure cell (nuked_word may.old);
            even = k.0.even;
            fresh = k.0.fresh;
            more = k.0.more;
            owes = k.0.owes;
          },
          k.1,
          may.filled,
        );
        beyond = λ marks source n target link past g.
            record { grows = subst (λ (h : Growth). GrowsOn h source) may.stage g.grows; owes = g.owes };
        stands = still_stands;
        bare = λ none. same_count ∙ wave.arrays.bare cell (wave.refs.claimed me cell k.0.claimed) none;
      }))
    where
      k : GrowthKnows w.heap state me (w.part me) (growth.Filling cell may.array may.old may.next)
      k = subst (GrowthKnows w.heap state me (w.part me)) may.stage (wave.growths.knows me)

      same_count : count_of (nuked_word may.old) ≡ count_of (w.heap region.Structure cell)
      same_count = (nuked_word_reads may.old k.0.even).1 ∙ ap count_of (sym k.0.stands)

      new_count : count_of (write w.heap region.Structure cell (nuked_word may.old) region.Structure cell)
          ≡ count_of (w.heap region.Structure cell)
      new_count = ap count_of (write-same w.heap region.Structure cell (nuked_word may.old)) ∙ same_count

      still_stands : (a : ℕ) → w.heap region.Array cell ≡ a + 1 →
          ArrayStands layout (write w.heap region.Structure cell (nuked_word may.old)) state cell a
      still_stands a is = let before = wave.arrays.stand cell a (wave.refs.claimed me cell k.0.claimed) is in record {
        own = before.own;
        few = (let few = before.few in let c = new_count in omega (arith, few, c));
        room = λ n below. before.room n (let c = new_count in omega (arith, below, c));
        named = λ n below. before.named n (let c = new_count in omega (arith, below, c));
      }

  -- the new structure is stored: the growth is over
  pub store_structure : (cell word : ℕ) → PaysStructure layout w me cell word →
      RunningWave layout shapes (stepped layout shapes w me (StoreStructure cell word None))
  store_structure cell next may = structure_step cell k.0.claimed next growth.Nothing
      (without_word region.Structure cell (w.part me).owed) record {
        more = (let o = ap count_of k.0.stands in let c = (nuked_word_reads may.old k.0.even).1 in let m = k.0.more in
            omega (arith, o, c, m));
        or_nuked = inr (let o = ap count_of k.0.stands in let c = (nuked_word_reads may.old k.0.even).1 in let m = k.0.more in
            omega (arith, o, c, m));
        words = words_paid layout shapes w.heap w.part me state wave.words region.Structure cell
            (later growth.Nothing (without_word region.Structure cell (w.part me).owed))
            (λ r i x at. from_none (owed_word r i x) at) refl next k.0.owes refl;
        growth = tt;
        beyond = λ marks source n target link past g.
            let same : cell ≡ source = subst (λ (h : Growth). GrowsOn h source) may.stage g.grows in
            let its = subst (λ (c : ℕ). LinkAt state c (property n) target) (sym same) link in
            let below = its.1 in
            let told = all_told in
            let word = ap count_of (ap (write w.heap region.Structure cell next region.Structure) (sym same) ∙
            write-same w.heap region.Structure cell next) in
            absurd (omega (arith, below, told, word, past));
        stands = λ a is.
            let named = k.1 in
            let same : a ≡ may.array = omega (arith, named, is) in
            subst (ArrayStands layout (write w.heap region.Structure cell next) state cell) (sym same)
            (filled_stands cell may.array k.0.claimed k.0.has k.2 (write w.heap region.Structure cell next) (λ i. refl)
            (let told = all_told in let word = ap count_of (write-same w.heap region.Structure cell next) in
            omega (arith, told, word)));
        bare = λ none. absurd (let named = k.1 in omega (arith, named, none));
      }
    where
      k : GrowthKnows w.heap state me (w.part me) (growth.Stored cell may.array may.old next)
      k = subst (GrowthKnows w.heap state me (w.part me)) may.stage (wave.growths.knows me)

      all_told : count_of next ≡ length (state.cells cell).keys
      all_told = next_tells cell may.array k.0.claimed k.0.has next k.0.owes

  -- the array is stored over the nuked structure
  module _ (cell array old next : ℕ) (stage : (w.part me).growth ≡ growth.Nuked cell array old next) where
    abbrev stored : Heap
    stored = write w.heap region.Array cell (array + 1)

    abbrev stored_view : View
    stored_view = later (growth.Stored cell array old next) (without_word region.Array cell (w.part me).owed)

    k : GrowthKnows w.heap state me (w.part me) (growth.Nuked cell array old next)
    k = subst (GrowthKnows w.heap state me (w.part me)) stage (wave.growths.knows me)

    else_same : (x : ℕ) → x ≢ cell → stored region.Array x ≡ w.heap region.Array x
    else_same x apart = write-other_index w.heap region.Array cell x (array + 1) apart

    not_its : (p : ℕ) → p ≢ me → (c : ℕ) → Contains (state.claims p) c → c ≢ cell
    not_its p apart c its e = claimed_alone p cell apart k.0.claimed (subst (Contains (state.claims p)) e its)

    own_stays : (p : ℕ) (at : Region) (index : ℕ) → p ≢ me → IsOwnWord layout state p at index →
        stored at index ≡ w.heap at index
    own_stays p _ _ apart (own_register r a b) = refl
    own_stays p _ _ apart (own_structure c at) = refl
    own_stays p _ _ apart (own_array c at) = else_same c (not_its p apart c at)
    own_stays p _ _ apart (own_pair t j at one has) = refl
    own_stays p _ _ apart (own_element c a j at is has) = refl

    -- no scan that may mark is of a cell whose structure is nuked
    nuked_never : (x : ℕ) (first : Option ℕ) → x ≡ cell → IsStill first (w.heap region.Structure x) →
        (first ≡ None → ⊥) → ⊥
    nuked_never x None same holds some = some refl
    nuked_never x (Some f) same holds some =
        let is = ap is_nuked (sym holds.0 ∙ ap (w.heap region.Structure) same ∙ k.0.stands) ∙
        (nuked_word_reads old k.0.even).0 in
        let isnt = holds.1 in
        absurd (cc)

    scan_after : (scan : Scan) → ScanKnows layout w.heap state scan → ScanKnows layout stored state scan
    scan_after scan s = record {
      unread = s.unread;
      array_after = s.array_after;
      grows = s.grows;
      nuked = s.nuked;
      room = s.room;
      agreed = s.agreed;
      names_live = s.names_live;
      array = λ word has holds. elim (cases_eq scan.cell cell) [
        | inl same ↦ absurd (nuked_never scan.cell scan.first same holds (λ none. let no_array = s.array_after none in
            absurd (cc)))
        | inr apart ↦ else_same scan.cell apart ∙ s.array word has holds
      ];
    }

    told_before : count_of (w.heap region.Structure cell) ≤ length (state.cells cell).keys
    told_before =
        let all = next_tells cell array k.0.claimed k.0.has next k.0.owes in
        let o = ap count_of k.0.stands in
        let c = (nuked_word_reads old k.0.even).1 in
        let m = k.0.more in
        omega (arith, all, o, c, m)

    bare_stored : (x : ℕ) → IsLive state x → stored region.Array x ≡ 0 → count_of (w.heap region.Structure x) ≡ 0
    bare_stored x alive_x none = elim (cases_eq x cell) [
      | inl same ↦
          let word = ap (stored region.Array) (sym same) ∙ none in
          let here = write-same w.heap region.Array cell (array + 1) in
          absurd (omega (arith, word, here))
      | inr apart ↦ wave.arrays.bare x alive_x (sym (else_same x apart) ∙ none)
    ]

    stand_stored : (x a : ℕ) → IsLive state x → stored region.Array x ≡ a + 1 → ArrayStands layout stored state x a
    stand_stored x a alive_x is = elim (cases_eq x cell) [
      | inl same ↦
          let word = ap (stored region.Array) (sym same) ∙ is in
          let here = write-same w.heap region.Array cell (array + 1) in
          let its : a ≡ array = omega (arith, word, here) in
          subst (λ (c : ℕ). ArrayStands layout stored state c a) (sym same)
          (subst (ArrayStands layout stored state cell) (sym its)
          (filled_stands cell array k.0.claimed k.0.has k.2 stored (λ i. refl) told_before))
      | inr apart ↦ (let before = wave.arrays.stand x a alive_x (sym (else_same x apart) ∙ is) in
          record { own = before.own; few = before.few; room = before.room; named = before.named })
    ]

    arrays_stored : ArraysStand layout stored state
    arrays_stored = record { stand = stand_stored; bare = bare_stored }

    store_it : RunningWave layout shapes (record { heap = stored; part = put_at w.part me stored_view; log = w.log })
    store_it = any_step layout shapes w.heap w.part w.log me wave stored stored_view record {
      inside = inside;
      phase = refl;
      base = refl;
      period = refl;
      words = words_paid layout shapes w.heap w.part me state wave.words region.Array cell stored_view
          (λ r i x at. from_none (owed_word r i x) at) refl (array + 1) k.1 refl;
      who = refl;
      seen = inl refl;
      mine = refl;
      finds = wave.kept.full me;
      told = λ _. wave.numbers.told me runs;
      begins = wave.numbers.begun me;
      left = refl;
      calls = calls_view layout w.heap stored w.part me stored_view refl (λ p. refl) wave.calls;
      stops = stops_view layout w.heap stored w.part me stored_view refl (λ p. refl) wave.stops;
      empties = λ is. absurd (cc);
      waits = left_quiet layout w.heap stored w.part me stored_view refl refl (λ _ c in_c is. is) (λ c is. is) refl refl
          refl refl wave.waits;
      stands = arrays_stored;
      swept = swept_kept layout w.heap stored refl (λ block within. refl) wave.swept;
      sweeps = sweeps_kept layout w.heap stored w.part me stored_view w.log refl (λ block. refl) (λ block. refl)
          (unsettled_write w.heap w.part region.Array cell (array + 1)
          (own_now layout shapes w wave me region.Array cell (own_array cell k.0.claimed))) refl refl refl refl wave.sweeps;
      growth = (
        record {
          claimed = k.0.claimed;
          has = k.0.has;
          stands = k.0.stands;
          even = k.0.even;
          fresh = k.0.fresh;
          more = k.0.more;
          owes = in_filter (λ (o : Owed). not (is_at region.Array cell o)) (w.part me).owed
              (owed_word region.Structure cell next) refl k.0.owes;
        },
        write-same w.heap region.Array cell (array + 1),
        λ index x owes. k.2 index x (filter_was (λ (o : Owed). not (is_at region.Array cell o)) (w.part me).owed
            (owed_word region.Elements index x) owes).0,
      );
      growths = λ p apart. growth_kept w.heap stored state state p (w.part p) (w.part p) (λ c its. refl)
          (λ c its. else_same c (not_its p apart c its)) (λ c at. at) (λ c a its is. is) (λ c x o. o) (λ c x o. o)
          (λ i x o. o) (w.part p).growth (wave.growths.knows p);
      knows = λ at index word is. from_none (owed_word at index word) is;
      knows_still = λ p at index word apart is. own_stays p at index apart (wave.kept.owns p at index word is) ∙
          wave.kept.known p at index word is;
      colours = wave.colours;
      balance = λ c in_c few. refl;
      rests = λ idle. (wave.rests.held idle me, wave.rests.scans idle me);
      at_hand = λ c at. wave.hands.cells me c (elim at [
        | held is ↦ held is
        | scanned scan is e ↦ scanned scan is e
        | buffered scan is e ↦ buffered scan is e
      ]);
      arrays = λ a scan is. wave.hands.arrays me a scan is;
      scanned = λ scan is. (
        wave.retained.scanned me scan is,
        scan_after scan (wave.scans.knows me scan is),
        λ c at holds. wave.retained.buffered me c scan is at holds,
      );
      scans = λ p scan apart is. scan_after scan (wave.scans.knows p scan is);
      truer = λ p scan apart is holds. holds;
      black = λ source place target link black white.
          inr (refl, white, λ e. inl (same_excuse source place target e));
      stays = λ c is. is;
      recoloured = λ _ c. inl refl;
      aims = λ scan target is. wave.targets.right me scan target is;
      marked = λ c in_c is. inl is;
      born = λ _ c owes. inl owes;
      owes = λ c owes. (owes, wave.born.white me c owes);
      counted = λ _. omega arith;
      beyond = λ marks source n target link past.
          let (p, g) = wave.grows.beyond marks source n target link past in
          elim (cases_eq p me) [
            | inl same ↦ (let mine = subst (λ (q : ℕ). GrowsAndOwes (w.part q) source) same g in
                inl (record { grows = subst (λ (h : Growth). GrowsOn h source) stage mine.grows; owes = mine.owes }))
            | inr apart ↦ inr (p, apart, g)
          ];
    }
      where
        same_excuse : (source : ℕ) (place : Place) (target : ℕ) → Excuses w.heap source place target (w.part me) →
            Excuses stored source place target stored_view
        same_excuse source place target e = of_scan (w.part me).scan e
          where
            of_scan : (scan : Option Scan) → StillOwes w.heap (w.part me).duty source ⊎
                ScanExcuses w.heap source place target scan → StillOwes w.heap (w.part me).duty source ⊎
                ScanExcuses stored source place target scan
            of_scan scan (inl b) = inl b
            of_scan None (inr x) = inr x
            of_scan (Some scan) (inr x) = inr x

  pub store_array : (cell array : ℕ) → MayStoreArray layout w me cell array →
      RunningWave layout shapes (stepped layout shapes w me (StoreArray cell array))
  store_array cell array may = subst (λ (g : Growth). RunningWave layout shapes (record {
    heap = write w.heap region.Array cell (array + 1);
    part = put_at w.part me (later g (without_word region.Array cell (w.part me).owed));
    log = w.log;
  })) (sym (ap stored_growth may.stage)) (store_it cell array may.old may.next may.stage)
