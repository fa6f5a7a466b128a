-- The kinds on the words of pairs keep the wave: a pair is stored or dropped by the claimer of its table, or seen.
use Rattle.std.proofs.Common.{ℕ, ◌≡◌, ◌≢◌, ◌<◌, refl, sym, ◌∙◌, ap, subst, arith, List, [], inl, inr, Some, None, Option, false}
use Rattle.std.specs.Prelude.{Contains, slice_get}
use Rattle.tide_call.specs.CallWords.{CallWords, IsPlaceFor, HasPairAt}
use Rattle.tide_core.specs.wave.FrozenWave.{is_birth_of}
use Rattle.tide_words.specs.tide_layout.Limits.{IsWithinLimits}
use Rattle.tide_words.specs.tide_layout.Slots.{HasSlot, index_of_slot}
use Rattle.tide_core.proofs.machine_laws.kinds.LoadingSeen.{load_seen}
use Rattle.tide_core.proofs.machine_laws.kinds.SeenCalls.{seen_granted}
use Rattle.tide_core.proofs.machine_laws.steps.CallReadings.{call_reads}
use Rattle.tide_core.proofs.machine_laws.steps.CellCalls.{cell_call}
use Rattle.tide_core.proofs.machine_laws.steps.Lists.{nothing_in}
use Rattle.tide_core.proofs.machine_laws.steps.Loads.{load_same}
use Rattle.tide_core.proofs.machine_laws.steps.Owning.{own_alone}
use Rattle.tide_core.proofs.machine_laws.steps.SameLinks.{SameLinks, same_links, same_arrays, all_same}
use Rattle.tide_core.proofs.machine_laws.steps.SettledNow.{own_now}
use Rattle.tide_core.specs.machine.Duties.{OwesColour}
use Rattle.tide_core.specs.machine.Kind.{LoadPair, StorePair}
use Rattle.tide_core.specs.machine.Machine.{stepped}
use Rattle.tide_core.specs.machine.May.{MayCall}
use Rattle.tide_core.specs.machine.Owed.{Owes, owed_word, own_pair}
use Rattle.tide_core.specs.machine.RunningWave.{RunningWave}
use Rattle.tide_core.specs.machine.Scanning.{property}
use Rattle.tide_core.specs.machine.Words.{value_of_pair}
use Rattle.tide_core.specs.machine.World.{World, parties, pushes}
use Rattle.tide_core.specs.declared.machine.view.Duty.{Duty}
use Rattle.tide_core.specs.declared.machine.view.Owed.{Owed}
use Rattle.tide_core.specs.machine.kinds.StorePlainWord.{IsOwnPair, SetsPair, DropsPair, MayStorePair, MayLoadPair}
use Rattle.tide_core.specs.machine.points.Births.{IsHidden}
use Rattle.tide_model.proofs.ClaimLaws.{ClaimsAreOwn-lawful}
use Rattle.tide_model.proofs.ReferenceLaws.{put_at_elim}
use Rattle.tide_model.specs.Applied.{after_call, at_cell, put_cell, put_pair, pair_of}
use Rattle.tide_model.specs.Answer.{AtCell}
use Rattle.tide_model.specs.History.{state_after}
use Rattle.tide_model.specs.Layout.{Layout, cell_count}
use Rattle.tide_model.specs.Numbers.{put_at}
use Rattle.tide_model.specs.References.{IsLive}
use Rattle.tide_model.specs.Refused.{ShapeLists, refusal_of}
use Rattle.tide_model.specs.State.{State, CellState, is_free}
use Rattle.tide_model.specs.declared.entry.Entry.TheVariants.{Call}
use Rattle.tide_model.specs.declared.op.Op.{Op}
use Rattle.tide_model.specs.declared.op.Op.TheVariants.{PairSet, PairDel, PairGet}
use Rattle.tide_model.specs.declared.op.Reply.TheVariants.{Done}
use Rattle.tide_model.specs.declared.val.Val.{Val}
use Rattle.tide_model.specs.declared.val.Val.TheVariants.{Cell, Empty, Int}
use Rattle.tide_words.proofs.heap_laws.ReadingLaws.{live_within}
use Rattle.tide_words.specs.forms.PairWord.{pair_word}
use Rattle.tide_words.specs.forms.ValueWord.{HasU32}
use Rattle.tide_words.specs.heap.Heap.{write}
use Rattle.tide_words.specs.heap.Reading.{ReadsAs, IsPairOf, slot_word}
use Rattle.tide_words.specs.tide_layout.declared.region.Region.TheVariants as region

module _ (layout : Layout) (shapes : ShapeLists) (limits : IsWithinLimits layout)
    (empty_shape : slice_get shapes 0 ≡ Some []) (w : World) (me : ℕ) (inside : me < parties)
    (wave : RunningWave layout shapes w) where
  abbrev state : State
  state = state_after layout w.log

  -- the words of a table that one claims are settled, where it owes nothing
  settled_pair : (table place : ℕ) → IsOwnPair layout w me table place → (w.part me).owed ≡ [] → (other : ℕ) →
      HasSlot layout table other → slot_word layout w.heap table other ≡ slot_word layout wave.words.settled table other
  settled_pair table place own owes_nothing other has =
      wave.words.same region.Slots (index_of_slot layout table other) refl (λ p word owes.
      nobody p word owes (own_alone layout state (ClaimsAreOwn-lawful layout shapes w.log wave.lawful) wave.refs p me
      region.Slots region.Slots (index_of_slot layout table other) (index_of_slot layout table other)
      (wave.words.owns p region.Slots (index_of_slot layout table other) word owes)
      (own_pair table other own.claimed own.is_one has) refl refl))
      (own_now layout shapes w wave me region.Slots (index_of_slot layout table other)
      (own_pair table other own.claimed own.is_one has))
    where
      nobody : (p word : ℕ) → Owes (w.part p) region.Slots (index_of_slot layout table other) word → p ≡ me → ⊥
      nobody p word owes same =
          let its = owed_word region.Slots (index_of_slot layout table other) word in
          nothing_in its (subst (λ (l : List Owed). Contains l its) owes_nothing
          (subst (λ (q : ℕ). Contains (w.part q).owed its) same owes))

  -- a call that gives a table another pair, or takes one away
  module _ (op : Op) (bears_nothing : (c : ℕ) → is_birth_of c (Call me op Done) ≡ false)
      (may : MayCall layout shapes w me op Done None) (table key place word : ℕ) (held : Option Val)
      (own : IsOwnPair layout w me table place)
      (becomes : after_call state me op Done None ≡ put_pair state table key held)
      (names : (c : ℕ) → held ≡ Some (Cell c) → (register : ℕ) × (state.registers me register ≡ Cell c))
      (words : CallWords layout shapes wave.words.settled state me op Done None
      (write wave.words.settled region.Slots (index_of_slot layout table place) word)) where
    abbrev idx : ℕ
    idx = index_of_slot layout table place

    abbrev paired : CellState
    paired = record (state.cells table) { pairs = put_at (state.cells table).pairs key held }

    same_pairs : SameLinks paired (state.cells table)
    same_pairs = record { status = refl; keys = refl; slots = refl; properties = refl; array = refl }

    -- another's hidden cell is in no pair
    unpaired : (p c : ℕ) → p ≢ me → IsHidden state p c → (x k : ℕ) → IsLive state x →
        ((put_cell state table paired).cells x).pairs k ≡ Some (Cell c) → ⊥
    unpaired p c apart h x k = put_at_elim (λ x (d : CellState). IsLive state x → d.pairs k ≡ Some (Cell c) → ⊥)
        state.cells table paired
        (λ is_live. put_at_elim (λ j (o : Option Val). o ≡ Some (Cell c) → ⊥) (state.cells table).pairs key held
        (λ is. let (register, names_it) = names c is in
        h.registers me register (λ e. apart (sym e)) may.stands.is_active names_it)
        (λ j other is. h.paired table j is_live is) k)
        (λ y other is_live is. h.paired y k is_live is) x

    stored_pair : RunningWave layout shapes (stepped layout shapes w me (StorePair table place word (Some op)))
    stored_pair = cell_call layout shapes w me inside wave may.runner.runs may.between.duty may.between.owed
        may.between.growth op Done bears_nothing may.stands table paired (w.part me).duty region.Slots idx word record {
          called = refl;
          no_period = refl;
          no_call = refl;
          no_dead = refl;
          settled = own_now layout shapes w wave me region.Slots idx (own_pair table place own.claimed own.is_one own.has);
          becomes = becomes;
          reads = subst (ReadsAs layout shapes (write wave.words.settled region.Slots idx word)) becomes
              (call_reads layout shapes limits empty_shape w wave me op Done None
              (write wave.words.settled region.Slots idx word) may.stands words);
          alone = λ p apart its. apart (own_alone layout state (ClaimsAreOwn-lawful layout shapes w.log wave.lawful)
              wave.refs p me region.Slots region.Slots idx idx its (own_pair table place own.claimed own.is_one own.has)
              refl refl);
          status = refl;
          array = refl;
          pushes_none = λ c. ap (λ (d : Duty). pushes d c) may.between.duty;
          no_colour = λ c owes. subst (λ (d : Duty). OwesColour d c) may.between.duty owes;
          links = λ x at target link. inr (same_links state table paired same_pairs x at target link);
          beyond = λ marks x k target link past. (
            same_links state table paired same_pairs x (property k) target link,
            past,
          );
          scans = λ p scan is k. record {
            unread = k.unread;
            array_after = k.array_after;
            grows = k.grows;
            nuked = k.nuked;
            array = k.array;
            room = k.room;
            agreed = k.agreed;
            names_live = λ first array at c a b below names_it. (all_same state table paired same_pairs c).status ∙
                k.names_live first array at c a b below names_it;
          };
          truer = λ p scan is holds. holds;
          hidden = λ p c apart alive h. (
            (λ x at link. h.linked x at (same_links state table paired same_pairs x at c link)),
            (λ x k is_live is. unpaired p c apart h x k is_live is),
            (λ at target link. h.blank at target (same_links state table paired same_pairs c at target link)),
          );
        }
        (same_arrays state table paired same_pairs layout w.heap (write w.heap region.Slots idx word)
        (λ c. refl) (λ c. refl) (λ i. refl) wave.arrays)

  set_pair : (table place word src key val : ℕ) → SetsPair layout shapes w me table place word src key val →
      RunningWave layout shapes (stepped layout shapes w me (StorePair table place word (Some (PairSet src key val))))
  set_pair table place word src key val s =
      subst (λ (x : ℕ). RunningWave layout shapes
      (stepped layout shapes w me (StorePair table place x (Some (PairSet src key val))))) (sym s.is_word)
      (stored_pair (PairSet src key val) (λ c. refl) s.may table s.cell place
      (pair_word s.cell (state.registers me val)) (Some (state.registers me val)) s.own becomes
      (λ c is. (val, (let e : state.registers me val ≡ Cell c = cc in e)))
      (table, s.cell, place, s.source, s.is_key, s.own.has, settled_place, λ other index below. refl))
    where
      becomes : after_call state me (PairSet src key val) Done None
          ≡ put_pair state table s.cell (Some (state.registers me val))
      becomes = ap (λ (x : Val). at_cell state x (λ t. at_cell state (state.registers me key) (λ c.
          put_pair state t c (Some (state.registers me val))))) s.source
          ∙ ap (λ (x : Val). at_cell state x (λ c. put_pair state table c (Some (state.registers me val)))) s.is_key

      word_same : (other : ℕ) → HasSlot layout table other →
          slot_word layout w.heap table other ≡ slot_word layout wave.words.settled table other
      word_same = settled_pair table place s.own s.may.between.owed

      earlier_has : (other : ℕ) → other < place → HasSlot layout table other
      earlier_has other below = record {
        cell_within = s.own.has.cell_within;
        slot_within = (let few = s.own.has.slot_within in omega (arith, few, below));
      }

      settled_place : IsPlaceFor layout wave.words.settled state table place s.cell
      settled_place = elim s.is_place [
        | inl empty ↦ inl (
          empty.0,
          (
            sym (word_same place s.own.has) ∙ empty.1.0,
            λ other below none. empty.1.1 other below (word_same other (earlier_has other below) ∙ none),
          ),
        )
        | inr has ↦ inr (has.0, subst (IsPairOf s.cell has.0) (word_same place s.own.has) has.1)
      ]

  drop_pair : (table place word src key : ℕ) → DropsPair layout shapes w me table place word src key →
      RunningWave layout shapes (stepped layout shapes w me (StorePair table place word (Some (PairDel src key))))
  drop_pair table place word src key d =
      subst (λ (x : ℕ). RunningWave layout shapes
      (stepped layout shapes w me (StorePair table place x (Some (PairDel src key))))) (sym d.is_word)
      (stored_pair (PairDel src key) (λ c. refl) d.may table d.cell place 0 None d.own becomes
      (λ c is. absurd (cc))
      (table, d.cell, place, d.source, d.is_key, d.own.has, has, λ other index below. refl))
    where
      becomes : after_call state me (PairDel src key) Done None ≡ put_pair state table d.cell None
      becomes = ap (λ (x : Val). at_cell state x (λ t. at_cell state (state.registers me key) (λ c.
          put_pair state t c None))) d.source
          ∙ ap (λ (x : Val). at_cell state x (λ c. put_pair state table c None)) d.is_key

      has : HasPairAt layout wave.words.settled table place d.cell
      has = (
        d.has_pair.0,
        subst (IsPairOf d.cell d.has_pair.0) (settled_pair table place d.own d.may.between.owed place d.own.has)
            d.has_pair.1,
      )

  pub store_pair : (table place word : ℕ) (op : Op) → MayStorePair layout shapes w me table place word (Some op) →
      RunningWave layout shapes (stepped layout shapes w me (StorePair table place word (Some op)))
  store_pair table place word (PairSet src key val) may = set_pair table place word src key val may
  store_pair table place word (PairDel src key) may = drop_pair table place word src key may
  store_pair table place word _ none = absurd none

  -- PairGet sees the value of a pair's word
  pub see_pair : (table place : ℕ) (op : Op) →
      MayLoadPair layout shapes w me table place (w.heap region.Slots (index_of_slot layout table place)) (Some op) →
      RunningWave layout shapes (stepped layout shapes w me (LoadPair table place (Some op)))
  see_pair table place (PairGet dst src key) (own, source, may) = load_same layout shapes w.heap region.Slots _ _ _
      (load_seen layout shapes w me inside wave may.runner.runs may.between.duty may.between.owed may.between.growth
      (PairGet dst src key) dst value may.stands (λ s. refl) may.stands.fits.0 (by_key (state.registers me key) seen).0
      (λ p c apart h is. (by_key (state.registers me key) seen).1 p c h is))
    where
      value : Val
      value = value_of_pair (w.heap region.Slots (index_of_slot layout table place))

      alive : IsLive state table
      alive = wave.refs.claimed me table own.claimed

      within : table < cell_count layout
      within = live_within layout shapes wave.words.settled state table wave.words.reads alive

      seen : pair_of state table (state.registers me key) ≡ Some value
      seen = subst (λ (v : Val). AtCell v (λ t. pair_of state t (state.registers me key) ≡ Some value)) source
          (seen_granted layout state me (PairGet dst src key) value None
          (refusal_of layout shapes state me (PairGet dst src key)) may.stands.answers).1

      by_key : (k : Val) → pair_of state table k ≡ Some value → HasU32 value ×
          ((p c : ℕ) → IsHidden state p c → value ≡ Cell c → ⊥)
      by_key Empty is = absurd (cc)
      by_key (Int n) is = absurd (cc)
      by_key (Cell c) is =
          let taken = (wave.words.reads.parts.cells table within).taken (ap is_free alive) in
          let (at, has, pair) = (taken.table own.is_one).stands c value is in
          (pair.number, λ p cell h same. h.paired table c alive (is ∙ ap (λ (v : Val). Some v) same))
  see_pair table place _ none = absurd none
