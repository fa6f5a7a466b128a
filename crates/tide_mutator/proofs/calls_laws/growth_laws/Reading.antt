-- A mutator that read words of its own is about to make its call still.
use Rattle.std.proofs.Common.{ℕ, suc, ◌≡◌, ◌+◌, ◌<◌, refl, sym, ◌∙◌, ap, subst, arith, List, ◌∷◌, length, Option, Some, inl, inr}
use Rattle.std.proofs.lemmas.Bool.{cases_lt}
use Rattle.std.specs.Prelude.{Contains, ◌%◌, ◌^◌, slice_index}
use Rattle.tide_mutator.specs.owed.Calling.{IsCalling}
use Rattle.tide_mutator.specs.owed.Made.{HasDone, IsMade, Shown, shown}
use Rattle.tide_mutator.specs.cells.Searching.{HasLooked}
use Rattle.tide_mutator.specs.owed.Standing.{IsPlanned}
use Rattle.tide_mutator.proofs.cells_laws.Looking.{calling_still as calling_looked, planned_still as planned_looked}
use Rattle.tide_heap.specs.tide_call.declared.action.Action.{Action}
use Rattle.tide_mutator.specs.calls.Growing.{HasRead, IsReady, KnowsElements, action_of}
use Rattle.tide_mutator.specs.declared.owed.growth.Growth.{Growth}
use Rattle.tide_heap.specs.tide_layout.Slots.{index_of_element}
use Rattle.tide_heap.specs.tide_layout.declared.region.Region.{Region}
use Rattle.tide_heap.specs.tide_layout.declared.region.Region.TheVariants as region
use Rattle.tide_heap.specs.tide_core.machine.Owed.{Knows, owed_word}
use Rattle.tide_heap.specs.tide_core.declared.machine.view.Owed.{Owed}
use Rattle.tide_heap.specs.tide_core.declared.machine.view.View.{View}
use Rattle.tide_model.specs.Layout.{Layout}
use Rattle.tide_model.specs.Refused.{ShapeLists}
use Rattle.tide_model.specs.declared.op.Op.{Op}
use Rattle.tide_model.specs.declared.op.Reply.{Reply}

pub read_none : (v : View) → HasRead v v
read_none v = record { known = v.known; found = v.found; is = refl; more = λ word at. at }

pub read_twice : (v u w : View) → HasRead v u → HasRead u w → HasRead v w
read_twice v u w one other = record {
  known = other.known;
  found = other.found;
  is = other.is ∙ ap (λ (x : View). record x { known = other.known; found = other.found }) one.is;
  more = λ word at. other.more word
      (subst (λ (l : List Owed). Contains l word) (sym (ap (λ (x : View). x.known) one.is)) (one.more word at));
}

-- a step that adds what it read
pub read_once : (v u : View) (word : Owed) (read : ℕ) → u ≡ record v { known = word ∷ v.known; found = read } →
    HasRead v u
read_once v u word read is = record {
  known = word ∷ v.known;
  found = read;
  is = is;
  more = λ other (k, below, at). (suc k, omega (arith, below), at);
}

module _ (v u : View) (h : HasRead v u) where
  pub knows_still : (at : Region) (index word : ℕ) → Knows v at index word → Knows u at index word
  knows_still at index word knew =
      subst (λ (l : List Owed). Contains l (owed_word at index word)) (sym (ap (λ (x : View). x.known) h.is))
      (h.more (owed_word at index word) knew)

  pub counted_still : (calls : ℕ) → calls ≡ (length v.mine + 1) % 2 ^ 64 → calls ≡ (length u.mine + 1) % 2 ^ 64
  counted_still calls counts = counts ∙ ap (λ (x : View). (length x.mine + 1) % 2 ^ 64) (sym h.is)

  module _ (layout : Layout) (op : Op) where
    pub calling_still : IsCalling layout v op → IsCalling layout u op
    calling_still c = subst (λ (x : View). IsCalling layout x op) (sym h.is) record {
      limits = c.limits;
      is_mutator = c.is_mutator;
      runs = c.runs;
      stays = c.stays;
      between = record {
        owed = c.between.owed;
        duty = c.between.duty;
        growth = c.between.growth;
        sweeping = c.between.sweeping;
        calls = c.between.calls;
      };
      own = c.own;
      fits = c.fits;
      bare = c.bare;
    }

    module _ (shapes : ShapeLists) where
      module _ (does : Action) where
        pub planned_still : IsPlanned layout shapes v op does → IsPlanned layout shapes u op does
        planned_still planned = subst (λ (x : View). IsPlanned layout shapes x op does) (sym h.is)
            (λ heap log s. planned heap log record {
              lawful = s.lawful;
              own = s.own;
              active = s.active;
              claims = s.claims;
              refs = s.refs;
              reads = s.reads;
              known = λ at index x apart knew. s.known at index x apart (h.more (owed_word at index x) knew);
            })

        -- a call that was made after it read
        pub made_before : (reply : Reply) (after : Shown) → IsMade layout shapes op does reply u after →
            IsMade layout shapes op does reply v after
        made_before reply after made =
            forget (subst (λ (x : View). IsMade layout shapes op does reply x after) h.is made)
          where
            forget : IsMade layout shapes op does reply (record v { known = h.known; found = h.found }) after →
                IsMade layout shapes op does reply v after
            forget m = record {
              took = m.took;
              log = m.log;
              heap = m.heap;
              new = m.new;
              stands = record {
                lawful = m.stands.lawful;
                own = m.stands.own;
                active = m.stands.active;
                claims = m.stands.claims;
                refs = m.stands.refs;
                reads = m.stands.reads;
                known = λ at index x apart knew. m.stands.known at index x apart (h.more (owed_word at index x) knew);
              };
              words = m.words;
              before = m.before;
              seen = m.seen;
              mine = m.mine;
              lawful = m.lawful;
              own = m.own;
              kept = m.kept;
              left = m.left;
              gone = m.gone;
              births = m.births;
            }

        pub has_done_before : (reply : Reply) (w : View) → HasDone layout shapes op does reply u w →
            HasDone layout shapes op does reply v w
        has_done_before reply w done = record {
          made = made_before reply (shown w) done.made;
          owed = done.owed;
          duty = done.duty;
          calls = done.calls;
        }

      pub ready_read : (growth : Growth) → IsReady layout shapes v op growth → IsReady layout shapes u op growth
      ready_read growth r = record {
        calling = calling_still r.calling;
        planned = planned_still (action_of growth) r.planned;
        may = r.may;
        knows = knows_still region.Structure growth.addition.cell growth.old r.knows;
        small = r.small;
        next = r.next;
        has = r.has;
      }

-- so it is of one that looked for something free
pub ready_looked : (layout : Layout) (shapes : ShapeLists) (v u : View) (op : Op) (growth : Growth) → HasLooked v u →
    IsReady layout shapes v op growth → IsReady layout shapes u op growth
ready_looked layout shapes v u op growth h r = record {
  calling = calling_looked v u h layout op r.calling;
  planned = planned_looked v u h layout op shapes (action_of growth) r.planned;
  may = r.may;
  knows = knows_looked v u h region.Structure growth.addition.cell growth.old r.knows;
  small = r.small;
  next = r.next;
  has = r.has;
}
  where
    knows_looked : (v u : View) → HasLooked v u → (at : Region) (index word : ℕ) → Knows v at index word →
        Knows u at index word
    knows_looked v u h at index word knew =
        subst (λ (l : List Owed). Contains l (owed_word at index word)) (sym (ap (λ (x : View). x.known) h.is)) knew

-- one element more is known
pub knows_more : (layout : Layout) (v u : View) (array : Option ℕ) (source : ℕ) (words later : List ℕ)
    (place read : ℕ) → array ≡ Some source → HasRead v u → KnowsElements layout v array words place →
    Knows u region.Elements (index_of_element layout source place) read → slice_index later place ≡ read →
    ((other : ℕ) → other < place → slice_index later other ≡ slice_index words other) →
    KnowsElements layout u array later (place + 1)
knows_more layout v u array source words later place read is h so_far knows here others other p from below =
    elim (cases_lt p place) [
      | inl earlier ↦ subst (λ (x : ℕ). Knows u region.Elements (index_of_element layout other p) x)
          (sym (others p earlier))
          (knows_still v u h region.Elements (index_of_element layout other p) (slice_index words p)
          (so_far other p from earlier))
      | inr past ↦
          let at : place ≡ p = omega (arith, below, past) in
          let both : Some source ≡ Some other = sym is ∙ from in
          let same : source ≡ other = cc in
          subst (λ (n : ℕ). Knows u region.Elements (index_of_element layout other n) (slice_index later n)) at
          (subst (λ (a : ℕ). Knows u region.Elements (index_of_element layout a place) (slice_index later place)) same
          (subst (λ (x : ℕ). Knows u region.Elements (index_of_element layout source place) x) (sym here) knows))
    ]

-- words of which a later one was put are known as before
pub knows_below : (layout : Layout) (v : View) (array : Option ℕ) (words later : List ℕ) (count : ℕ) →
    ((place : ℕ) → place < count → slice_index later place ≡ slice_index words place) →
    KnowsElements layout v array words count → KnowsElements layout v array later count
knows_below layout v array words later count same knows source place from below =
    subst (λ (x : ℕ). Knows v region.Elements (index_of_element layout source place) x) (sym (same place below))
    (knows source place from below)
