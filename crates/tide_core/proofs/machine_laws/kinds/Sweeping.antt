-- A mutator sweeps a block: it loads the word of the dead bits, claims the block, zeroes words, gives the bits, and
-- finishes.
use Rattle.std.proofs.Common.{ℕ, zero, ◌≡◌, ◌≢◌, ◌+◌, ◌<◌, ◌≤◌, ◌⊎◌, refl, sym, ◌∙◌, ap, subst, arith, Bool, true, false, List, [], ◌∷◌, ◌++◌, inl, inr, Option, Some, None, length}
use Rattle.std.proofs.lemmas.Bool.{cases_Bool, cases_eq, and_parts, eqb-true, ne_eqb}
use Rattle.std.specs.Prelude.{Contains, ◌==◌, ◌&&◌, if◌then◌else◌, bit_or}
use Rattle.tide_words.proofs.tide_layout.Places.{tag-injective}
use Rattle.tide_words.specs.tide_layout.Region.{tag}
use Rattle.tide_words.specs.tide_layout.Slots.{HasElement, index_of_element}
use Rattle.tide_words.specs.tide_layout.declared.region.Region.{Region}
use Rattle.tide_words.specs.tide_layout.declared.region.Region.TheVariants as region
use Rattle.tide_core.proofs.machine_laws.kinds.SweepingBlocks.{clears, right_claimed, right_given, right_on, sees, taken_is_told, words_claimed}
use Rattle.tide_core.proofs.machine_laws.kinds.SweepingWords.{named_finished, named_given, named_zeroed, words_finished, words_given, words_zeroed}
use Rattle.tide_core.proofs.machine_laws.steps.ArraysKept.{arrays_kept}
use Rattle.tide_core.proofs.machine_laws.steps.DeadBits.{clear_has_none}
use Rattle.tide_core.proofs.machine_laws.steps.Frames.{each_put, put_here}
use Rattle.tide_core.proofs.machine_laws.steps.GrowthsKept.{growth_kept}
use Rattle.tide_core.proofs.machine_laws.steps.IdleEntries.{idle_entry}
use Rattle.tide_core.proofs.machine_laws.steps.IdleSteps.{idle_step, is_left}
use Rattle.tide_core.proofs.machine_laws.steps.Loads.{load_same}
use Rattle.tide_core.proofs.machine_laws.steps.SweepsKept.{swept_kept, unsettles_zeroed}
use Rattle.tide_core.proofs.machine_laws.steps.Unsettled.{dead_word_region, given_put, own_settled, settled_array, settled_element, settled_structure, unsettles_put}
use Rattle.tide_core.specs.machine.Entries.{added}
use Rattle.tide_core.specs.machine.Groups.{is_of_sweeps}
use Rattle.tide_core.specs.machine.Kind.{Kind, ClaimBlock, Finish, GiveBits, LoadDead, ZeroWord}
use Rattle.tide_core.specs.machine.Machine.{IsAllowed, stepped}
use Rattle.tide_core.specs.machine.Owed.{IsOwnWord, Owes, Unsettles, owed_word, own_array, own_structure}
use Rattle.tide_core.specs.machine.RunningWave.{RunningWave}
use Rattle.tide_core.specs.machine.Views.{with_entry}
use Rattle.tide_core.specs.machine.Words.{count_of}
use Rattle.tide_core.specs.machine.World.{World, parties}
use Rattle.tide_core.specs.declared.machine.view.Owed.{Owed}
use Rattle.tide_core.specs.declared.machine.view.Sweeping.{Sweeping}
use Rattle.tide_core.specs.declared.machine.view.View.{View}
use Rattle.tide_core.specs.machine.kinds.Sweep.{IsSweeping, MayClaimBlock, MayFinish, MayGiveBits, MayLoadDead, MayZeroWord, cleared_from, in_sweep, saw_word, with_swept}
use Rattle.tide_core.specs.declared.machine.view.Saw.{Saw}
use Rattle.tide_core.specs.machine.points.Arrays.{ArrayStands, ArraysStand}
use Rattle.tide_core.specs.machine.points.SettledWords.{RunningWordsRead}
use Rattle.tide_core.specs.machine.points.Sweeps.{IsTaken, SawStands, Sweeps, SweptAreBelow}
use Rattle.tide_model.proofs.Histories.{state_after-push}
use Rattle.tide_model.proofs.LawfulReferences.{RefsAreLive-event}
use Rattle.tide_model.proofs.ReferenceLaws.{put_at_elim}
use Rattle.tide_model.proofs.ReferencesInCycles.{live_if_swept, swept_cell-live, swept_status-live}
use Rattle.tide_model.specs.History.{after_sweep, plain, state_after, swept_status}
use Rattle.tide_model.specs.Layout.{Layout, block_of_array, block_of_cell}
use Rattle.tide_model.specs.Numbers.{put_at}
use Rattle.tide_model.specs.References.{IsLive, RefsAreLive}
use Rattle.tide_model.specs.Refused.{ShapeLists}
use Rattle.tide_model.specs.State.{CellState, State, dead, live, spent}
use Rattle.tide_model.specs.declared.entry.Entry.TheVariants.{Sweep, Taken}
use Rattle.tide_model.specs.declared.entry.Event.{Event}
use Rattle.tide_sweep.specs.Zeroed.{IsDeadWord, is_zeroed_region}
use Rattle.tide_sweep.specs.declared.port.Took.TheVariants.{Clean, Mine, Other}
use Rattle.tide_words.proofs.heap_laws.Frames.{is_read}
use Rattle.tide_words.proofs.heap_laws.HeapLaws.{write-other_index, write-other_region, write-same}
use Rattle.tide_words.specs.forms.Reference.{array_word}
use Rattle.tide_words.specs.heap.Heap.{Heap, write}
use Rattle.tide_words.specs.marking.Colours.{is_marking, running_cycle}

module _ (layout : Layout) (shapes : ShapeLists) (w : World) (me : ℕ) (inside : me < parties)
    (wave : RunningWave layout shapes w) where
  abbrev state : State
  state = state_after layout w.log

  -- where its view says so, no cycle marks
  rests_now : (w.part me).runs ≡ true → (w.part me).marks ≡ false → is_marking w.heap ≡ false
  rests_now runs rests = sym (wave.numbers.told me runs).0 ∙ rests

  -- the words and what views have differ stay
  words_stay : (u : View) → u.owed ≡ (w.part me).owed → u.known ≡ (w.part me).known → u.sweeping ≡ (w.part me).sweeping →
      RunningWordsRead layout shapes w.heap (put_at w.part me u) state
  words_stay u owed known sweeping = record {
    settled = wave.words.settled;
    reads = wave.words.reads;
    same = λ at index read unowed swept. wave.words.same at index read
        (λ p x o. unowed p x (put_at_elim (λ p v. (r : Region) (i x : ℕ) → Owes (w.part p) r i x → Owes v r i x) w.part me u
        (λ r i x. subst (λ (l : List Owed). Contains l (owed_word r i x)) (sym owed)) (λ p apart r i x o. o) p at index x o))
        (unsettles_put w.part me u sweeping at index swept);
    owed = each_put (λ p v. (r : Region) (i x : ℕ) → Owes v r i x → wave.words.settled r i ≡ x) w.part me u
        (λ r i x o. wave.words.owed me r i x (subst (λ (l : List Owed). Contains l (owed_word r i x)) owed o)) wave.words.owed;
    owns = each_put (λ p v. (r : Region) (i x : ℕ) → Owes v r i x → IsOwnWord layout state p r i) w.part me u
        (λ r i x o. wave.words.owns me r i x (subst (λ (l : List Owed). Contains l (owed_word r i x)) owed o)) wave.words.owns;
    known = each_put (λ p v. (r : Region) (i x : ℕ) → Contains v.known (owed_word r i x) → wave.words.settled r i ≡ x) w.part me u
        (λ r i x o. wave.words.known me r i x (subst (λ (l : List Owed). Contains l (owed_word r i x)) known o)) wave.words.known;
    given = given_put wave.words.settled w.part me u sweeping wave.words.given;
  }

  -- what a load of the dead bits sees
  abbrev seen_of : ℕ → Saw
  seen_of block = record { block = block; word = w.heap region.Dead block; swept = None }

  -- the word of the dead bits is loaded
  load_dead : (block : ℕ) → MayLoadDead layout w me block → RunningWave layout shapes (stepped layout shapes w me (LoadDead block))
  load_dead block may = load_same layout shapes w.heap region.Dead block _ w.log (by (w.heap region.Dead block == 0) refl)
    where
      idle : is_marking w.heap ≡ false
      idle = rests_now may.runner.runs may.rests

      by : (b : Bool) → (w.heap region.Dead block == 0) ≡ b → RunningWave layout shapes (record {
        heap = w.heap;
        part = put_at w.part me (if b then cleared_from Clean (length w.log) block (w.part me)
            else record (w.part me) { saw = Some (seen_of block) });
        log = w.log;
      })
      by true is = idle_step layout shapes w me inside wave may.runner.runs idle w.heap (w.part me).sweeping (w.part me).saw
          (record { block = block; moment = length w.log; took = Clean } ∷ (w.part me).cleared) record {
            same = λ at index left. refl;
            words = words_stay _ refl refl refl;
            known = wave.kept.known;
            arrays = wave.arrays;
            growths = wave.growths.knows;
            swept = wave.swept;
            sweeps = clears layout shapes w.heap w.part w.log wave.words wave.sweeps idle me _ block Clean
                (clear_has_none layout shapes w.heap w.part state wave.words wave.sweeps.named block
                (eqb-true (w.heap region.Dead block) 0 is)) refl refl refl refl;
          }
      by false is = idle_step layout shapes w me inside wave may.runner.runs idle w.heap (w.part me).sweeping
          (Some (seen_of block)) (w.part me).cleared record {
            same = λ at index left. refl;
            words = words_stay _ refl refl refl;
            known = wave.kept.known;
            arrays = wave.arrays;
            growths = wave.growths.knows;
            swept = wave.swept;
            sweeps = sees layout shapes w.heap w.part w.log wave.words wave.sweeps idle me _ (Some (seen_of block))
                (λ one is_one. let same : seen_of block ≡ one = cc in subst (SawStands layout w.heap) same (record {
                  within = may.within;
                  dead = inl refl;
                  swept = λ word is_word. absurd (cc);
                })) refl refl refl refl;
          }

  -- a word of what is dead is zeroed
  module _ (at : Region) (index : ℕ) (may : MayZeroWord layout w me at index) where
    abbrev s_z : Sweeping
    s_z = may.sweeps.sweeping

    idle_z : is_marking w.heap ≡ false
    idle_z = (wave.sweeps.named.taken me s_z.block (record { sweeping = s_z; is = may.sweeps.is; of_block = refl })).0

    abbrev zeroed : Heap
    zeroed = write w.heap at index 0

    abbrev later_z : View
    later_z = record (w.part me) {
      sweeping = in_sweep (w.part me).sweeping (λ s_z. record s_z { zeroed = owed_word at index 0 ∷ s_z.zeroed });
    }

    word : IsDeadWord layout s_z.block s_z.dead at index
    word = subst (λ (b : ℕ). IsDeadWord layout b s_z.dead at index) (sym may.sweeps.of_block) may.word

    goes_on : later_z.sweeping ≡ Some (record s_z { zeroed = owed_word at index 0 ∷ s_z.zeroed })
    goes_on = ap (λ (o : Option Sweeping). in_sweep o (λ s_z. record s_z { zeroed = owed_word at index 0 ∷ s_z.zeroed })) may.sweeps.is

    words_now : RunningWordsRead layout shapes zeroed (put_at w.part me later_z) state
    words_now = words_zeroed layout shapes w.heap w.part state wave.words wave.sweeps.named wave.refs me later_z refl refl refl refl s_z
        may.sweeps.is may.sweeps.ungiven at index word goes_on

    named_now_z : Rattle.tide_core.specs.machine.points.Sweeps.SweepsAreNamed layout zeroed (put_at w.part me later_z) state
    named_now_z = named_zeroed layout shapes w.heap w.part state wave.words wave.sweeps.named wave.refs me later_z refl refl refl refl s_z
        may.sweeps.is may.sweeps.ungiven at index word goes_on

    zero_else : (r : Region) (i : ℕ) → is_zeroed_region r ≡ false → zeroed r i ≡ w.heap r i
    zero_else r i isnt = write-other_region w.heap at r index i 0 (elim (cases_Bool (tag r == tag at)) [
      | inl same ↦ absurd (dead_word_region layout s_z.block s_z.dead at index
          (subst (λ (q : Region). is_zeroed_region q ≡ false) (tag-injective r at (eqb-true (tag r) (tag at) same)) isnt) word)
      | inr apart ↦ apart
    ])

    left_not_zeroed : (r : Region) → is_left r ≡ true → is_zeroed_region r ≡ false
    left_not_zeroed region.Phase is = refl
    left_not_zeroed region.Base is = refl
    left_not_zeroed region.Period is = refl
    left_not_zeroed region.Call is = refl
    left_not_zeroed region.Stopped is = refl
    left_not_zeroed region.Colour is = refl
    left_not_zeroed region.GreyShared is = refl
    left_not_zeroed region.GreyMutator is = refl
    left_not_zeroed region.GreyRace is = refl
    left_not_zeroed _ is = absurd (cc)

    here_differs : Unsettles (put_at w.part me later_z me) at index 0
    here_differs = subst (λ (u : View). Unsettles u at index 0) (sym (put_here w.part me later_z))
        (unsettles_zeroed later_z.sweeping (record s_z { zeroed = owed_word at index 0 ∷ s_z.zeroed }) at index 0 goes_on may.sweeps.ungiven
        (zero, omega arith, refl))

    -- a word that no sweep has differ isn't the one that is written
    unwritten : (r : Region) (i : ℕ) → ((p x : ℕ) → Unsettles (put_at w.part me later_z p) r i x → ⊥) → zeroed r i ≡ w.heap r i
    unwritten r i settled = elim (cases_Bool ((tag r == tag at) && (i == index))) [
      | inl here ↦
          let parts = and_parts (tag r == tag at) (i == index) here in
          let region_is = tag-injective r at (eqb-true (tag r) (tag at) parts.0) in
          let index_is = eqb-true i index parts.1 in
          absurd (settled me 0 (subst (λ (q : Region). Unsettles (put_at w.part me later_z me) q i 0) (sym region_is)
          (subst (λ (j : ℕ). Unsettles (put_at w.part me later_z me) at j 0) (sym index_is) here_differs)))
      | inr apart ↦ ap (λ (b : Bool). if b then 0 else w.heap r i) apart
    ]

    own_alone_now : (q : ℕ) (r : Region) (i : ℕ) → IsOwnWord layout state q r i → (p x : ℕ) →
        Unsettles (put_at w.part me later_z p) r i x → ⊥
    own_alone_now = own_settled layout shapes zeroed (put_at w.part me later_z) state words_now named_now_z wave.refs

    structure_stays : (cell : ℕ) → IsLive state cell → zeroed region.Structure cell ≡ w.heap region.Structure cell
    structure_stays cell alive = unwritten region.Structure cell
        (settled_structure layout shapes zeroed (put_at w.part me later_z) state words_now named_now_z cell (λ gone. absurd (cc)))

    array_stays : (cell : ℕ) → IsLive state cell → zeroed region.Array cell ≡ w.heap region.Array cell
    array_stays cell alive = unwritten region.Array cell
        (settled_array layout shapes zeroed (put_at w.part me later_z) state words_now named_now_z cell (λ gone. absurd (cc)))

    element_stays : (array place : ℕ) → HasElement layout array place → state.arrays array ≢ dead →
        zeroed region.Elements (index_of_element layout array place) ≡ w.heap region.Elements (index_of_element layout array place)
    element_stays array place has used = unwritten region.Elements (index_of_element layout array place)
        (settled_element layout shapes zeroed (put_at w.part me later_z) state words_now named_now_z array place has used)

    stand_z : (cell array : ℕ) → IsLive state cell → zeroed region.Array cell ≡ array_word (Some array) →
        ArrayStands layout zeroed state cell array
    stand_z cell array alive is = let was = wave.arrays.stand cell array alive (sym (array_stays cell alive) ∙ is) in record {
      own = was.own;
      few = subst (λ (x : ℕ). count_of x ≤ length (state.cells cell).keys) (sym (structure_stays cell alive)) was.few;
      room = λ place below. was.room place (subst (λ (x : ℕ). place < count_of x) (structure_stays cell alive) below);
      named = λ place below. let fewer = subst (λ (x : ℕ). place < count_of x) (structure_stays cell alive) below in
          was.named place fewer ∙ sym (element_stays array place (was.room place fewer) (used was.own));
    }
      where
        used : ((state.arrays array ≡ live) × ((state.cells cell).array ≡ Some array)) ⊎ (state.arrays array ≡ spent) →
            state.arrays array ≢ dead
        used (inl mine) gone = (let other = mine.0 in absurd (cc))
        used (inr replaced) gone = absurd (cc)

    bare_z : (cell : ℕ) → IsLive state cell → zeroed region.Array cell ≡ 0 → count_of (zeroed region.Structure cell) ≡ 0
    bare_z cell alive none = ap count_of (structure_stays cell alive) ∙ wave.arrays.bare cell alive (sym (array_stays cell alive) ∙ none)

    still : (b : ℕ) → IsSweeping (w.part me) b → IsSweeping later_z b
    still b t = record {
      sweeping = record t.sweeping { zeroed = owed_word at index 0 ∷ t.sweeping.zeroed };
      is = ap (λ (o : Option Sweeping). in_sweep o (λ s_z. record s_z { zeroed = owed_word at index 0 ∷ s_z.zeroed })) t.is;
      of_block = t.of_block;
      ungiven = t.ungiven;
    }

    -- it sweeps the block that it swept before
    was : (b : ℕ) → Sweeps later_z b → Sweeps (w.part me) b
    was b t =
        let one : Some t.sweeping ≡ Some (record s_z { zeroed = owed_word at index 0 ∷ s_z.zeroed }) = sym t.is ∙ goes_on in
        let same : t.sweeping ≡ record s_z { zeroed = owed_word at index 0 ∷ s_z.zeroed } = cc in
        record { sweeping = s_z; is = may.sweeps.is; of_block = sym (ap (λ (o : Sweeping). o.block) same) ∙ t.of_block }

    zero_word : RunningWave layout shapes (stepped layout shapes w me (ZeroWord at index))
    zero_word = idle_step layout shapes w me inside wave may.runner.runs idle_z zeroed
        (in_sweep (w.part me).sweeping (λ s_z. record s_z { zeroed = owed_word at index 0 ∷ s_z.zeroed })) (w.part me).saw
        (w.part me).cleared record {
          same = λ r i left. zero_else r i (left_not_zeroed r left);
          words = words_now;
          known = λ p r i x is. unwritten r i (own_alone_now p r i (wave.kept.owns p r i x is)) ∙ wave.kept.known p r i x is;
          arrays = record { stand = stand_z; bare = bare_z };
          growths = λ p. growth_kept w.heap zeroed state state p (w.part p) (w.part p)
              (λ c at. unwritten region.Structure c (own_alone_now p region.Structure c (own_structure c at)))
              (λ c at. unwritten region.Array c (own_alone_now p region.Array c (own_array c at))) (λ c at. at) (λ c a at is. is)
              (λ c x o. o) (λ c x o. o) (λ i x o. o) (w.part p).growth (wave.growths.knows p);
          swept = swept_kept layout w.heap zeroed (zero_else region.Phase 0 refl) (λ b within. zero_else region.Swept b refl) wave.swept;
          sweeps = right_on layout shapes w.heap w.part w.log wave.words wave.sweeps idle_z me later_z zeroed (zero_else region.Phase 0 refl)
              (λ b. zero_else region.Swept b refl) refl still was named_now_z;
        }

  -- the bits of what was dead are given
  module _ (block bits : ℕ) (may : MayGiveBits layout shapes w me block bits) where
    abbrev s_g : Sweeping
    s_g = may.sweeps.sweeping

    idle_g : is_marking w.heap ≡ false
    idle_g = (wave.sweeps.named.taken me s_g.block (record { sweeping = s_g; is = may.sweeps.is; of_block = refl })).0

    abbrev event : Event
    event = plain (Sweep s_g.block)

    abbrev new_g : Heap
    new_g = write w.heap region.Free s_g.block (bit_or (w.heap region.Free s_g.block) s_g.dead)

    abbrev later_g : View
    later_g = record (w.part me) {
      seen = w.log ++ event ∷ [];
      sweeping = in_sweep (w.part me).sweeping (λ s_g. record s_g { given = true });
    }

    gave : later_g.sweeping ≡ Some (record s_g { given = true })
    gave = ap (λ (o : Option Sweeping). in_sweep o (λ s_g. record s_g { given = true })) may.sweeps.is

    all : (at : Region) (index : ℕ) → IsDeadWord layout s_g.block s_g.dead at index → Contains s_g.zeroed (owed_word at index 0)
    all at index word = may.all at index (subst (λ (x : ℕ). IsDeadWord layout block x at index) (sym may.are_dead)
        (subst (λ (b : ℕ). IsDeadWord layout b s_g.dead at index) may.sweeps.of_block word))

    abbrev swept : State
    swept = after_sweep layout state s_g.block

    becomes_g : state_after layout (w.log ++ event ∷ []) ≡ swept
    becomes_g = state_after-push layout w.log event

    stands_now : Rattle.tide_model.specs.Lawful.Stands layout shapes w.log event
    stands_now = subst (λ (b : ℕ). Rattle.tide_model.specs.Lawful.Stands layout shapes w.log (plain (Sweep b))) (sym may.sweeps.of_block) may.stands

    same_cell : (cell : ℕ) → IsLive state cell → swept.cells cell ≡ state.cells cell
    same_cell cell alive = swept_cell-live (block_of_cell cell == s_g.block) (state.cells cell) alive

    was_live : (cell : ℕ) → IsLive swept cell → IsLive state cell
    was_live cell alive = live_if_swept (block_of_cell cell == s_g.block) (state.cells cell) alive

    named_now_g : Rattle.tide_core.specs.machine.points.Sweeps.SweepsAreNamed layout new_g (put_at w.part me later_g) swept
    named_now_g = named_given layout shapes w.heap w.part state wave.words wave.sweeps.named wave.refs me later_g refl refl refl refl s_g
        may.sweeps.is may.sweeps.ungiven all wave.kept.owns gave

    stand_g : (cell array : ℕ) → IsLive swept cell → new_g region.Array cell ≡ array_word (Some array) → ArrayStands layout new_g swept cell array
    stand_g cell array alive is =
        let was_alive = was_live cell alive in
        let was = wave.arrays.stand cell array was_alive is in
        let same = same_cell cell was_alive in record {
          own = elim was.own [
            | inl mine ↦ inl (
              ap (swept_status (block_of_array layout array == s_g.block)) mine.0
                  ∙ swept_status-live (block_of_array layout array == s_g.block),
              ap (λ (c : CellState). c.array) same ∙ mine.1,
            )
            | inr replaced ↦ inr (ap (swept_status (block_of_array layout array == s_g.block)) replaced
                ∙ spent_stays (block_of_array layout array == s_g.block))
          ];
          few = subst (λ (c : CellState). count_of (w.heap region.Structure cell) ≤ length c.keys) (sym same) was.few;
          room = was.room;
          named = λ place below. ap (λ (c : CellState). Rattle.tide_words.specs.forms.ValueWord.val_word (c.properties place)) same
              ∙ was.named place below;
        }
      where
        spent_stays : (b : Bool) → swept_status b spent ≡ spent
        spent_stays true = refl
        spent_stays false = refl

    given_now : RunningWave layout shapes (stepped layout shapes w me (GiveBits s_g.block s_g.dead))
    given_now = idle_entry layout shapes w me inside wave may.runner.runs idle_g event stands_now refl (λ who. refl) refl refl refl new_g
        (in_sweep (w.part me).sweeping (λ s_g. record s_g { given = true })) (w.part me).saw (w.part me).cleared record {
          same = λ r i left. write-other_region w.heap region.Free r s_g.block i (bit_or (w.heap region.Free s_g.block) s_g.dead)
              (ne_eqb (tag r) (tag region.Free) (λ same. let one = tag-injective r region.Free same in
              let also = ap is_left one in absurd (cc)));
          words = subst (RunningWordsRead layout shapes new_g (put_at w.part me later_g)) (sym becomes_g)
              (words_given layout shapes w.heap w.part state wave.words wave.sweeps.named wave.refs me later_g refl refl refl refl s_g
              may.sweeps.is may.sweeps.ungiven all wave.kept.owns gave);
          known = λ p r i x is. not_free p r i x (wave.kept.owns p r i x is) ∙ wave.kept.known p r i x is;
          structures = λ p c at. refl;
          own_arrays = λ p c at. refl;
          active = λ p. ap (λ (t : State). t.active p) becomes_g;
          claims = λ p. ap (λ (t : State). t.claims p) becomes_g;
          cells = λ cell alive. ap (λ (t : State). t.cells cell) becomes_g ∙ same_cell cell alive;
          lived = λ cell alive. was_live cell (subst (λ (t : State). IsLive t cell) becomes_g alive);
          refs = RefsAreLive-event layout shapes w.log event wave.refs stands_now;
          arrays = subst (ArraysStand layout new_g) (sym becomes_g) (record {
            stand = stand_g;
            bare = λ cell alive none. wave.arrays.bare cell (was_live cell alive) none;
          });
          swept = swept_kept layout w.heap new_g refl (λ b within. refl) wave.swept;
          sweeps = right_given layout shapes w.heap w.part w.log wave.words wave.sweeps idle_g me later_g new_g s_g may.sweeps.is gave refl
              (λ b. refl) refl (subst (Rattle.tide_core.specs.machine.points.Sweeps.SweepsAreNamed layout new_g (put_at w.part me later_g))
              (sym becomes_g) named_now_g);
        }
      where
        not_free : (p : ℕ) (r : Region) (i x : ℕ) → IsOwnWord layout state p r i → new_g r i ≡ w.heap r i
        not_free p _ _ x (Rattle.tide_core.specs.machine.Owed.own_register a b c) = refl
        not_free p _ _ x (Rattle.tide_core.specs.machine.Owed.own_structure c at) = refl
        not_free p _ _ x (Rattle.tide_core.specs.machine.Owed.own_array c at) = refl
        not_free p _ _ x (Rattle.tide_core.specs.machine.Owed.own_pair t k at one has) = refl
        not_free p _ _ x (Rattle.tide_core.specs.machine.Owed.own_element c a k at is has) = refl

    give_bits : RunningWave layout shapes (stepped layout shapes w me (GiveBits block bits))
    give_bits =
        subst (λ (b : ℕ). RunningWave layout shapes (stepped layout shapes w me (GiveBits b bits))) may.sweeps.of_block
        (subst (λ (x : ℕ). RunningWave layout shapes (stepped layout shapes w me (GiveBits s_g.block x))) (sym may.are_dead) given_now)

  -- the sweep is over
  module _ (block : ℕ) (may : MayFinish layout w me block) where
    abbrev s_f : Sweeping
    s_f = may.sweeping

    idle_f : is_marking w.heap ≡ false
    idle_f = (wave.sweeps.named.taken me s_f.block (record { sweeping = s_f; is = may.is; of_block = refl })).0

    abbrev new_f : Heap
    new_f = write w.heap region.Dead s_f.block 0

    abbrev later_f : View
    later_f = record (w.part me) { sweeping = None }

    not_dead : (p : ℕ) (r : Region) (i : ℕ) → IsOwnWord layout state p r i → new_f r i ≡ w.heap r i
    not_dead p _ _ (Rattle.tide_core.specs.machine.Owed.own_register a b c) = refl
    not_dead p _ _ (Rattle.tide_core.specs.machine.Owed.own_structure c at) = refl
    not_dead p _ _ (Rattle.tide_core.specs.machine.Owed.own_array c at) = refl
    not_dead p _ _ (Rattle.tide_core.specs.machine.Owed.own_pair t k at one has) = refl
    not_dead p _ _ (Rattle.tide_core.specs.machine.Owed.own_element c a k at is has) = refl

    finish : RunningWave layout shapes (stepped layout shapes w me (Finish block))
    finish =
        subst (λ (b : ℕ). RunningWave layout shapes (stepped layout shapes w me (Finish b))) may.of_block
        (idle_step layout shapes w me inside wave may.runner.runs idle_f new_f None (w.part me).saw (w.part me).cleared record {
          same = λ r i left. write-other_region w.heap region.Dead r s_f.block i 0
              (ne_eqb (tag r) (tag region.Dead) (λ same. let one = tag-injective r region.Dead same in
              let also = ap is_left one in absurd (cc)));
          words = words_finished layout shapes w.heap w.part state wave.words wave.sweeps.named wave.refs me later_f refl refl refl refl s_f
              may.is may.given refl;
          known = λ p r i x is. not_dead p r i (wave.kept.owns p r i x is) ∙ wave.kept.known p r i x is;
          arrays = arrays_kept layout w.heap new_f state state (λ c. refl) (λ c. refl) (λ i. refl) (λ array. refl)
              (λ c array alive is. (alive, refl, refl, refl)) (λ c alive none. inl alive) wave.arrays;
          growths = λ p. growth_kept w.heap new_f state state p (w.part p) (w.part p) (λ c at. refl) (λ c at. refl) (λ c at. at)
              (λ c a at is. is) (λ c x o. o) (λ c x o. o) (λ i x o. o) (w.part p).growth (wave.growths.knows p);
          swept = swept_kept layout w.heap new_f refl (λ b within. refl) wave.swept;
          sweeps = right_on layout shapes w.heap w.part w.log wave.words wave.sweeps idle_f me later_f new_f refl (λ b. refl) refl
              (λ b t. absurd (let one : Some t.sweeping ≡ Some s_f = sym t.is ∙ may.is in let same : t.sweeping ≡ s_f = cc in
              let waits = t.ungiven in let bad : false ≡ true = sym waits ∙ ap (λ (o : Sweeping). o.given) same ∙ may.given in cc))
              (λ b t. absurd (let none = t.is in cc)) (named_finished layout shapes w.heap w.part state wave.words wave.sweeps.named wave.refs me later_f refl refl refl refl s_f
              may.is may.given refl);
        })

  -- a block is claimed, or found claimed, or its word changed meanwhile
  module _ (block old cycle : ℕ) (may : MayClaimBlock layout shapes w me block old cycle (w.heap region.Swept block)) where
    abbrev read : ℕ
    read = w.heap region.Swept block

    idle_c : is_marking w.heap ≡ false
    idle_c = rests_now may.runner.runs may.rests

    is_last : cycle ≡ running_cycle w.heap
    is_last = may.of_last ∙ (wave.numbers.told me may.runner.runs).1

    abbrev claims_it : View
    claims_it = record (cleared_from Mine (length w.log + 1) block (w.part me)) {
      sweeping = Some (record { block = block; dead = saw_word (w.part me).saw; given = false; zeroed = [] });
    }

    abbrev new_c : Heap
    new_c = write w.heap region.Swept block cycle

    abbrev later_c : View
    later_c = record claims_it { seen = w.log ++ plain (Taken block) ∷ [] }

    by : (b : Bool) → (w.heap region.Swept block == old) ≡ b → RunningWave layout shapes (record {
      heap = write w.heap region.Swept block (if b then cycle else w.heap region.Swept block);
      part = put_at w.part me (with_entry w.log (if b then Some (plain (Taken block)) else None)
          (if b then claims_it
          else if w.heap region.Swept block == cycle then cleared_from Other (length w.log) block (w.part me)
          else record (w.part me) { saw = with_swept (w.heap region.Swept block) (w.part me).saw }));
      log = added w.log (if b then Some (plain (Taken block)) else None);
    })
    by true is = idle_entry layout shapes w me inside wave may.runner.runs idle_c (plain (Taken block)) (may.stands same) refl
        (λ who. refl) refl refl refl new_c (Some (record { block = block; dead = saw_word (w.part me).saw; given = false; zeroed = [] }))
        (w.part me).saw (record { block = block; moment = length w.log + 1; took = Mine } ∷ (w.part me).cleared) record {
          same = λ r i left. write-other_region w.heap region.Swept r block i cycle
              (ne_eqb (tag r) (tag region.Swept) (λ one. let at = tag-injective r region.Swept one in
              let also = ap is_left at in absurd (cc)));
          words = subst (RunningWordsRead layout shapes new_c (put_at w.part me later_c)) (sym becomes_c)
              (words_claimed layout shapes w.heap w.part w.log wave.words wave.sweeps idle_c me later_c block (saw_word (w.part me).saw) cycle
              may.within is_last lower may.between.sweeping may.saw may.is_saw may.of_block seen may.runner.is_mutator stays refl refl
              refl refl refl refl);
          known = λ p r i x has. write-other_region w.heap region.Swept r block i cycle
              (ne_eqb (tag r) (tag region.Swept) (λ one. let at = tag-injective r region.Swept one in
              let also = ap is_read at in let reads = wave.kept.reads p r i x has in absurd (cc))) ∙ wave.kept.known p r i x has;
          structures = λ p c at. refl;
          own_arrays = λ p c at. refl;
          active = λ p. ap (λ (t : State). t.active p) becomes_c;
          claims = λ p. ap (λ (t : State). t.claims p) becomes_c;
          cells = λ cell alive. ap (λ (t : State). t.cells cell) becomes_c;
          lived = λ cell alive. subst (λ (t : State). IsLive t cell) becomes_c alive;
          refs = subst RefsAreLive (sym becomes_c) wave.refs;
          arrays = subst (ArraysStand layout new_c) (sym becomes_c) (arrays_kept layout w.heap new_c state state (λ c. refl) (λ c. refl)
              (λ i. refl) (λ array. refl) (λ c array alive is. (alive, refl, refl, refl)) (λ c alive none. inl alive) wave.arrays);
          swept = record {
            last = λ b within. elim (cases_eq b block) [
              | inl here ↦ (let now = ap (new_c region.Swept) here ∙ write-same w.heap region.Swept block cycle in omega (arith, now, is_last))
              | inr apart ↦ (let now = write-other_index w.heap region.Swept block b cycle apart in
                  let few = wave.swept.last b within in omega (arith, now, few))
            ];
            ended = λ marks. absurd (let both = sym marks ∙ idle_c in cc);
          };
          sweeps = right_claimed layout shapes w.heap w.part w.log wave.words wave.sweeps idle_c me later_c block (saw_word (w.part me).saw)
              cycle may.within is_last lower may.between.sweeping may.saw may.is_saw may.of_block seen may.runner.is_mutator stays refl
              refl refl refl refl refl;
        }
      where
        becomes_c : state_after layout (w.log ++ plain (Taken block) ∷ []) ≡ state
        becomes_c = state_after-push layout w.log (plain (Taken block))

        same : w.heap region.Swept block ≡ old
        same = eqb-true (w.heap region.Swept block) old is

        lower : w.heap region.Swept block < cycle
        lower = (let l = may.lower in omega (arith, l, same))

        seen : saw_word (w.part me).saw ≡ may.saw.word
        seen = ap saw_word may.is_saw

        stays : (w.part me).left ≡ false
        stays = may.stays
    by false is = load_same layout shapes w.heap region.Swept block _ w.log (found (w.heap region.Swept block == cycle) refl)
      where
        found : (b : Bool) → (w.heap region.Swept block == cycle) ≡ b → RunningWave layout shapes (record {
          heap = w.heap;
          part = put_at w.part me (if b then cleared_from Other (length w.log) block (w.part me)
              else record (w.part me) { saw = with_swept (w.heap region.Swept block) (w.part me).saw });
          log = w.log;
        })
        found true last = idle_step layout shapes w me inside wave may.runner.runs idle_c w.heap (w.part me).sweeping (w.part me).saw
            (record { block = block; moment = length w.log; took = Other } ∷ (w.part me).cleared) record {
              same = λ at index left. refl;
              words = words_stay _ refl refl refl;
              known = wave.kept.known;
              arrays = wave.arrays;
              growths = wave.growths.knows;
              swept = wave.swept;
              sweeps = clears layout shapes w.heap w.part w.log wave.words wave.sweeps idle_c me _ block Other
                  (taken_is_told layout shapes w.heap w.part w.log wave.words wave.sweeps idle_c block may.within
                  (let l = may.lower in omega (arith, l, is_last))
                  (eqb-true (w.heap region.Swept block) cycle last ∙ is_last)) refl refl refl refl;
            }
        found false other = idle_step layout shapes w me inside wave may.runner.runs idle_c w.heap (w.part me).sweeping
            (with_swept (w.heap region.Swept block) (w.part me).saw) (w.part me).cleared record {
              same = λ at index left. refl;
              words = words_stay _ refl refl refl;
              known = wave.kept.known;
              arrays = wave.arrays;
              growths = wave.growths.knows;
              swept = wave.swept;
              sweeps = sees layout shapes w.heap w.part w.log wave.words wave.sweeps idle_c me _
                  (with_swept (w.heap region.Swept block) (w.part me).saw) seen_now refl refl refl refl;
            }
          where
            -- what the claim found stands in the block's word
            seen_now : (one : Saw) → with_swept (w.heap region.Swept block) (w.part me).saw ≡ Some one →
                SawStands layout w.heap one
            seen_now one is_one =
                let was = wave.sweeps.named.saw me may.saw may.is_saw in
                let both : Some (record may.saw { swept = Some (w.heap region.Swept block) }) ≡ Some one =
                sym (ap (with_swept (w.heap region.Swept block)) may.is_saw) ∙ is_one in
                let same : record may.saw { swept = Some (w.heap region.Swept block) } ≡ one = cc in
                subst (SawStands layout w.heap) same (record {
                  within = was.within;
                  dead = was.dead;
                  swept = λ word is_word.
                      let it : w.heap region.Swept block ≡ word = cc in
                      inl (ap (w.heap region.Swept) may.of_block ∙ it);
                })

    claim_block : RunningWave layout shapes (stepped layout shapes w me (ClaimBlock block old cycle))
    claim_block = by (w.heap region.Swept block == old) refl

  -- each of these kinds
  pub sweeps_kept_wave : (kind : Kind) → is_of_sweeps kind ≡ true → IsAllowed layout shapes w me kind →
      RunningWave layout shapes (stepped layout shapes w me kind)
  sweeps_kept_wave (ClaimBlock block old cycle) is may = claim_block block old cycle may
  sweeps_kept_wave (LoadDead block) is may = load_dead block may
  sweeps_kept_wave (ZeroWord at index) is may = zero_word at index may
  sweeps_kept_wave (GiveBits block bits) is may = give_bits block bits may
  sweeps_kept_wave (Finish block) is may = finish block may
  sweeps_kept_wave _ is may = absurd (cc)
