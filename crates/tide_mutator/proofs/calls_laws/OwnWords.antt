-- A word that a mutator alone stores is known to it once it is loaded.
use Rattle.std.proofs.Common.{ℕ, suc, ◌≡◌, ◌<◌, ◌⊎◌, refl, sym, ◌∙◌, ap, subst, arith, true, false, List, [], ◌∷◌, None, Some, inl, inr}
use Rattle.std.proofs.lemmas.List.Elements.{Contains-append_cases}
use Rattle.std.specs.Prelude.{◌==◌, Contains}
use Rattle.tide_heap.specs.tide_layout.Region.{tag}
use Rattle.tide_heap.specs.tide_layout.Slots.{HasSlot, index_of_slot}
use Rattle.tide_heap.specs.tide_layout.declared.region.Region.{Region}
use Rattle.tide_heap.specs.tide_layout.declared.region.Region.TheVariants as region
use Rattle.tide_heap.proofs.tide_core.machine_laws.steps.Lists.{in_one}
use Rattle.tide_heap.specs.tide_core.machine.Kind.{LoadOwnArray, LoadOwnStructure, LoadPair}
use Rattle.tide_heap.specs.tide_core.machine.May.{RunsAsMutator}
use Rattle.tide_heap.specs.tide_core.machine.Moment.{Moment}
use Rattle.tide_heap.specs.tide_core.machine.Owed.{IsOwnWord, Knows, own_array, own_pair, own_structure, owed_word}
use Rattle.tide_heap.specs.tide_core.machine.RunningWave.{RunningWave}
use Rattle.tide_heap.specs.tide_core.machine.World.{World}
use Rattle.tide_heap.specs.tide_core.declared.machine.view.Owed.{Owed}
use Rattle.tide_heap.specs.tide_core.declared.machine.view.View.{View}
use Rattle.tide_heap.specs.tide_core.machine.kinds.StoreArray.{MayLoadOwn}
use Rattle.tide_model.specs.History.{state_after}
use Rattle.tide_model.specs.Layout.{Layout, cell_count}
use Rattle.tide_model.specs.Refused.{ShapeLists, is_table}
use Rattle.tide_model.specs.declared.entry.Event.{Event}
use Rattle.tide_mutator.proofs.cells_laws.OwnFound.{own_found}
use Rattle.tide_mutator.proofs.owed_laws.Standing.{moment_in, stands_then}
use Rattle.tide_mutator.specs.owed.Standing.{MutatorStandsAt, claims_of}
use Rattle.tide_mutator.specs.calls.Owning.{OwnsAt, unread}
use Rattle.tide_heap.specs.steps.Follows.{Follows, MayStep}
use Rattle.tide_heap.proofs.tide_words.heap_laws.Frames.{is_read}
use Rattle.tide_heap.specs.tide_words.forms.Reference.{claim_word}
use Rattle.tide_heap.specs.tide_words.heap.Heap.{Heap}

-- the view that found a word, and knows it
abbrev pub knowing : Region → ℕ → ℕ → View → View
knowing at index word v = record v { known = owed_word at index word ∷ v.known; found = word }

-- what it knows is this word, or was known
known_cases : (v : View) (at : Region) (index word : ℕ) (r : Region) (i x : ℕ) → Knows (knowing at index word v) r i x →
    (owed_word at index word ≡ owed_word r i x) ⊎ Knows v r i x
known_cases v at index word r i x is =
    elim (Contains-append_cases (owed_word at index word ∷ []) v.known (owed_word r i x) is) [
      | inl here ↦ inl (in_one (owed_word at index word) (owed_word r i x) here)
      | inr before ↦ inr before
    ]

-- it knows the word
knows_it : (v : View) (at : Region) (index word : ℕ) → Knows (knowing at index word v) at index word
knows_it v at index word = (0, omega arith, refl)

-- it knows what it knew
knew : (v : View) (at : Region) (index word : ℕ) (r : Region) (i x : ℕ) → Knows v r i x →
    Knows (knowing at index word v) r i x
knew v at index word r i x (k, below, is) = (suc k, omega (arith, below), is)

module _ (layout : Layout) (shapes : ShapeLists) (v u : View) (at : Region) (index read : ℕ)
    (view : u ≡ knowing at index read v) where
  -- where it may stand with what it knows now, it might before
  pub narrows : (given : Layout) (who : ℕ) (heap : Heap) → OwnsAt layout shapes u given who heap →
      OwnsAt layout shapes v given who heap
  narrows given who heap owns = by_view (subst (λ (x : View). OwnsAt layout shapes x given who heap) view owns)
    where
      by_view : OwnsAt layout shapes (knowing at index read v) given who heap → OwnsAt layout shapes v given who heap
      by_view o = record {
        same_layout = o.same_layout;
        same_who = o.same_who;
        runs = o.runs;
        stays = o.stays;
        calm = o.calm;
        grows_not = o.grows_not;
        log = o.log;
        stands = record {
          lawful = o.stands.lawful;
          own = o.stands.own;
          active = o.stands.active;
          claims = o.stands.claims;
          refs = o.stands.refs;
          reads = o.stands.reads;
          known = λ r i x other knows. o.stands.known r i x other (knew v at index read r i x knows);
        };
      }

  -- and there the word is the one that was read
  pub is_read_there : (tag at == tag region.Elements) ≡ false → (given : Layout) (who : ℕ) (heap : Heap) →
      OwnsAt layout shapes u given who heap → heap at index ≡ read
  is_read_there other given who heap owns =
      (subst (λ (x : View). OwnsAt layout shapes x given who heap) view owns).stands.known at index read other
      (knows_it v at index read)

  pub unread_same : unread u ≡ unread v
  unread_same = ap unread view

  -- it may stand where it read the word
  pub owns_then : (given : Layout) (who : ℕ) (heap : Heap) (log : List Event) → OwnsAt layout shapes v given who heap →
      is_read at ≡ true → (m : Moment layout shapes v log at index read) →
      IsOwnWord layout (state_after layout log) v.who at index → OwnsAt layout shapes u given who m.settled
  owns_then given who heap log o is_one m own =
      subst (λ (x : View). OwnsAt layout shapes x given who m.settled) (sym view) record {
        same_layout = o.same_layout;
        same_who = o.same_who;
        runs = o.runs;
        stays = o.stays;
        calm = o.calm;
        grows_not = o.grows_not;
        log = log;
        stands = record {
          lawful = stands.lawful;
          own = stands.own;
          active = stands.active;
          claims = stands.claims;
          refs = stands.refs;
          reads = stands.reads;
          known = λ r i x other knows. elim (known_cases v at index read r i x knows) [
            | inl this ↦ subst (λ (word : Owed). m.settled word.region word.index ≡ word.word) this found
            | inr before ↦ m.known r i x before
          ];
        };
      }
    where
      stands : MutatorStandsAt layout shapes v m.settled log
      stands = stands_then layout shapes v log at index read o.stays m

      found : m.settled at index ≡ read
      found = own_found layout shapes v log at index read is_one o.calm own m

-- the words of a cell that a mutator claims
module _ (layout : Layout) (shapes : ShapeLists) (v : View) (given : Layout) (who : ℕ) (heap : Heap)
    (o : OwnsAt layout shapes v given who heap) (mutator : who < given.mutators) (cell : ℕ)
    (inside : cell < cell_count given) (claim : heap region.Claim cell ≡ claim_word (Some who)) where
  below : v.who < layout.mutators
  below = subst (λ (n : ℕ). n < layout.mutators) o.same_who (subst (λ (l : Layout). who < l.mutators) o.same_layout mutator)

  pub within : cell < cell_count layout
  within = subst (λ (l : Layout). cell < cell_count l) o.same_layout inside

  has_claim : Contains (claims_of v) cell
  has_claim = subst (λ (l : List ℕ). Contains l cell) o.stands.claims
      ((o.stands.reads.parts.claims.named cell v.who within).0
      (claim ∙ ap (λ (n : ℕ). claim_word (Some n)) o.same_who))

  -- it claims it at each of its steps
  pub claimed_then : (log : List Event) (at : Region) (index read : ℕ) → Moment layout shapes v log at index read →
      Contains ((state_after layout log).claims v.who) cell
  claimed_then log at index read m = subst (λ (l : List ℕ). Contains l cell)
      (sym (stands_then layout shapes v log at index read o.stays m).claims) has_claim

  runner : (w : World) → w.part v.who ≡ v → RunsAsMutator layout w v.who
  runner w is = record { is_mutator = below; runs = ap (λ (x : View). x.runs) is ∙ o.runs }

  may_load_own : (at : Region) (w : World) → RunningWave layout shapes w → w.part v.who ≡ v →
      MayLoadOwn layout w v.who cell
  may_load_own at w running is = record {
    runner = runner w is;
    claimed = claimed_then w.log at cell (w.heap at cell) (moment_in layout shapes w v at cell running is);
    grows_not = ap (λ (x : View). x.growth) is ∙ o.grows_not;
    owes_not = ap (λ (x : View). x.owed) is ∙ o.calm;
  }

  pub may_load_structure : MayStep layout shapes v (LoadOwnStructure cell)
  may_load_structure w running is = may_load_own region.Structure w running is

  pub may_load_array : MayStep layout shapes v (LoadOwnArray cell)
  may_load_array w running is = may_load_own region.Array w running is

  pub may_load_pair : (place : ℕ) → is_table given cell ≡ true → HasSlot given cell place →
      MayStep layout shapes v (LoadPair cell place None)
  may_load_pair place one has w running is = (
    runner w is,
    record {
      claimed = claimed_then w.log region.Slots (index_of_slot layout cell place) _
          (moment_in layout shapes w v region.Slots (index_of_slot layout cell place) running is);
      is_one = subst (λ (l : Layout). is_table l cell ≡ true) o.same_layout one;
      has = subst (λ (l : Layout). HasSlot l cell place) o.same_layout has;
    },
    ap (λ (x : View). x.owed) is ∙ o.calm,
  )

  -- where it may stand once it has loaded such a word
  module _ (u : View) (read : ℕ) where
    pub structure_owned : (f : Follows layout shapes (LoadOwnStructure cell) v read u) →
        OwnsAt layout shapes u given who f.moment.settled
    structure_owned f = owns_then layout shapes v u region.Structure cell read f.view given who heap f.log o refl f.moment
        (own_structure cell (claimed_then f.log region.Structure cell read f.moment))

    pub array_owned : (f : Follows layout shapes (LoadOwnArray cell) v read u) →
        OwnsAt layout shapes u given who f.moment.settled
    array_owned f = owns_then layout shapes v u region.Array cell read f.view given who heap f.log o refl f.moment
        (own_array cell (claimed_then f.log region.Array cell read f.moment))

    pub pair_owned : (place : ℕ) → is_table given cell ≡ true → HasSlot given cell place →
        (f : Follows layout shapes (LoadPair cell place None) v read u) →
        OwnsAt layout shapes u given who f.moment.settled
    pair_owned place one has f = owns_then layout shapes v u region.Slots (index_of_slot layout cell place) read f.view given
        who heap f.log o refl f.moment (own_pair cell place
        (claimed_then f.log region.Slots (index_of_slot layout cell place) read f.moment)
        (subst (λ (l : Layout). is_table l cell ≡ true) o.same_layout one)
        (subst (λ (l : Layout). HasSlot l cell place) o.same_layout has))
