-- The steps of a growth up to the take of its array: loads of own words, a block's word, and the take, which makes the
-- call; or the store of the call word once nothing was found free.
use Rattle.std.proofs.Common.{ℕ, suc, ◌≡◌, ◌+◌, ◌%◌, ◌<◌, ◌≤◌, ◌==◌, refl, sym, ◌∙◌, ap, subst, arith, Bool, false, List, ◌∷◌, length, None, Some, inl}
use Rattle.std.proofs.lemmas.Bool.{eq-eqb, ne_eqb}
use Rattle.std.specs.Int.{bit_at}
use Rattle.std.specs.Prelude.{Contains, ◌^◌, bit_and, if◌then◌else◌}
use Rattle.tide_mutator.proofs.owed_laws.Entering.{made_by, may_call, none_born, runs_there}
use Rattle.tide_mutator.proofs.cells_laws.Looking.{looked_once}
use Rattle.tide_mutator.proofs.cells_laws.LookingSteps.{seen_once}
use Rattle.tide_mutator.proofs.cells_laws.NoRoom.{refused_then}
use Rattle.tide_mutator.proofs.cells_laws.OwnFound.{own_found}
use Rattle.tide_mutator.proofs.owed_laws.Refusing.{stored_at}
use Rattle.tide_mutator.proofs.owed_laws.Standing.{moment_in, stands_then}
use Rattle.tide_mutator.proofs.cells_laws.Unowned.{found_there}
use Rattle.tide_mutator.specs.owed.Calling.{IsCalling, kept}
use Rattle.tide_mutator.specs.owed.Made.{HasDone}
use Rattle.tide_mutator.specs.cells.Searching.{ClassIsSearched, HasLooked, HasSeen}
use Rattle.tide_mutator.specs.owed.Standing.{IsPlanned, caller_of}
use Rattle.tide_heap.proofs.tide_block.ArrayLaws.{block_of_arrays}
use Rattle.tide_heap.proofs.tide_block.BitLaws.{without_bit-is}
use Rattle.tide_heap.specs.tide_call.ActionWords.{ActionWords}
use Rattle.tide_heap.specs.tide_call.ShapeWord.{whole_word}
use Rattle.tide_mutator.proofs.calls_laws.growth_laws.Grown.{are_grown, grown_words}
use Rattle.tide_mutator.proofs.calls_laws.growth_laws.Actions.{IsGrowth, bare_there, claimed_there, element_there, full_reply, growth_there, structure_there}
use Rattle.tide_mutator.proofs.calls_laws.growth_laws.Reading.{read_once}
use Rattle.tide_mutator.specs.calls.Growing.{HasRead, HasTaken, IsReady, action_of}
use Rattle.tide_mutator.specs.owed.Replacing.{grown_out}
use Rattle.tide_mutator.specs.declared.owed.growth.Growth.{Growth}
use Rattle.tide_heap.specs.tide_layout.Region.{cell_block_count}
use Rattle.tide_heap.specs.tide_layout.Slots.{HasElement, index_of_element, width_of_array, width_of_class}
use Rattle.tide_heap.specs.tide_layout.declared.region.Region.TheVariants as region
use Rattle.tide_heap.specs.tide_core.machine.Duties.{is_growing}
use Rattle.tide_heap.specs.tide_core.machine.Entries.{call_of}
use Rattle.tide_heap.specs.tide_core.machine.Kind.{LoadElement, LoadOwnStructure, StoreCall, TakeArray}
use Rattle.tide_heap.specs.tide_core.machine.May.{MayCall}
use Rattle.tide_heap.specs.tide_core.machine.Moment.{Moment}
use Rattle.tide_heap.specs.tide_core.machine.Owed.{Knows, owed_elements, owed_word, own_structure}
use Rattle.tide_heap.specs.tide_core.machine.Views.{with_entry}
use Rattle.tide_heap.specs.tide_core.machine.Words.{all_but, cell_named}
use Rattle.tide_heap.specs.tide_core.declared.machine.view.FullBlock.{FullBlock}
use Rattle.tide_heap.specs.tide_core.declared.machine.view.Growth.{Growth as Stage}
use Rattle.tide_heap.specs.tide_core.declared.machine.view.View.{View}
use Rattle.tide_heap.specs.tide_core.machine.kinds.LoadFree.{looked_view}
use Rattle.tide_heap.specs.tide_core.machine.kinds.TakeArray.{MayTakeArray, array_at, array_view, grown_view, properties_with}
use Rattle.tide_model.specs.History.{state_after}
use Rattle.tide_model.specs.Layout.{IsBlockOf, Layout, block_of_array}
use Rattle.tide_model.specs.Refused.{ShapeLists}
use Rattle.tide_model.specs.Room.{StandsRefused}
use Rattle.tide_model.specs.State.{State}
use Rattle.tide_model.specs.declared.entry.Event.{Event}
use Rattle.tide_model.specs.declared.op.Op.{Op}
use Rattle.tide_model.specs.declared.op.Refusal.TheVariants.{Full}
use Rattle.tide_model.specs.declared.op.Reply.{Reply}
use Rattle.tide_model.specs.declared.op.Reply.TheVariants.{Done, Refused}
use Rattle.tide_model.specs.declared.val.Val.{Val}
use Rattle.tide_heap.specs.steps.Follows.{Follows, FollowsSome, MayStep}
use Rattle.tide_heap.proofs.tide_call.action_laws.TakenLaws.{taken-array, wide-array}
use Rattle.tide_heap.specs.tide_call.Taken.{IsTakenOf}
use Rattle.tide_heap.proofs.tide_words.heap_laws.HeapLaws.{write-other_index, write-other_region, write-same}
use Rattle.tide_heap.specs.tide_words.forms.ValueWord.{val_word}
use Rattle.tide_heap.specs.tide_words.heap.Heap.{Heap, write}
use Rattle.tide_heap.specs.tide_words.heap.Written.{IsBitPut}

-- a bit that was cleared
cleared : (layout : Layout) (heap : Heap) (block k : ℕ) → k < 64 →
    IsBitPut layout heap (write heap region.Free block (bit_and (heap region.Free block) (all_but k))) region.Free block k 0
cleared layout heap block k few = record {
  others = λ other apart index below.
      write-other_region heap region.Free other block index (bit_and (heap region.Free block) (all_but k)) apart;
  other_words = λ at below apart.
      write-other_index heap region.Free block at (bit_and (heap region.Free block) (all_but k)) apart;
  bits = λ other below. ap (λ (x : ℕ). bit_at x other)
      (write-same heap region.Free block (bit_and (heap region.Free block) (all_but k)))
      ∙ without_bit-is (heap region.Free block) k few other below;
}

-- the load of the structure's word
module _ (layout : Layout) (shapes : ShapeLists) (v : View) (op : Op) (growth : Growth)
    (calling : IsCalling layout v op) (planned : IsPlanned layout shapes v op (action_of growth)) where
  abbrev its_cell : ℕ
  its_cell = growth.addition.cell

  pub may_load_structure : MayStep layout shapes v (LoadOwnStructure its_cell)
  may_load_structure w running is =
      let read = w.heap region.Structure its_cell in
      let m = moment_in layout shapes w v region.Structure its_cell running is in record {
        runner = runs_there layout w v op is calling;
        claimed = claimed_there layout shapes v op growth calling planned m.settled w.log
            (stands_then layout shapes v w.log region.Structure its_cell read calling.stays m);
        grows_not = ap (λ (x : View). x.growth) is ∙ calling.between.growth;
        owes_not = ap (λ (x : View). x.owed) is ∙ calling.between.owed;
      }

  module _ (read : ℕ) (u : View) (f : Follows layout shapes (LoadOwnStructure its_cell) v read u) where
    pub structure_read : HasRead v u
    structure_read = read_once v u (owed_word region.Structure its_cell read) read f.view

    pub structure_known : Knows u region.Structure its_cell read
    structure_known = subst (λ (x : View). Knows x region.Structure its_cell read) (sym f.view) (0, omega arith, refl)

    pub structure_small : read + 1 < 2 ^ 64
    structure_small =
        let m = f.moment in
        let stands = stands_then layout shapes v f.log region.Structure its_cell read calling.stays m in
        let claimed = claimed_there layout shapes v op growth calling planned m.settled f.log stands in
        let of = structure_there layout shapes v op growth calling planned m.settled f.log stands in
        let found = own_found layout shapes v f.log region.Structure its_cell read refl calling.between.owed
        (own_structure its_cell claimed) m in
        let shape = of.few_shapes in
        let keys = of.few_keys in
        let word = of.is_word in omega (arith, shape, keys, word, found)

    pub elements_had : (source place : ℕ) → growth.array ≡ Some source → place < growth.addition.count →
        HasElement layout source place
    elements_had source place from below = (element_there layout shapes v op growth calling planned f.moment.settled
        f.log (stands_then layout shapes v f.log region.Structure its_cell read calling.stays f.moment) source place from
        below).0

module _ (layout : Layout) (shapes : ShapeLists) (v : View) (op : Op) (growth : Growth)
    (r : IsReady layout shapes v op growth) where
  abbrev calling : IsCalling layout v op
  calling = r.calling

  abbrev planned : IsPlanned layout shapes v op (action_of growth)
  planned = r.planned

  abbrev cell : ℕ
  cell = growth.addition.cell

  abbrev count : ℕ
  count = growth.addition.count

  few_classes : growth.class < 10
  few_classes = r.may.largest

  -- the load of an element
  module _ (source place : ℕ) (from : growth.array ≡ Some source) (below : place < count) where
    abbrev at_element : ℕ
    at_element = index_of_element layout source place

    pub may_load_element : MayStep layout shapes v (LoadElement source place None)
    may_load_element w running is =
        let read = w.heap region.Elements at_element in
        let m = moment_in layout shapes w v region.Elements at_element running is in
        let stands = stands_then layout shapes v w.log region.Elements at_element read calling.stays m in (
          runs_there layout w v op is calling,
          inl (
            record {
              cell = cell;
              claimed = claimed_there layout shapes v op growth calling planned m.settled w.log stands;
              is_array = (growth_there layout shapes v op growth calling planned m.settled w.log stands).needs.is_its ∙ from;
              has = r.has source place from below;
            },
            ap (λ (x : View). x.growth) is ∙ calling.between.growth,
            ap (λ (x : View). x.owed) is ∙ calling.between.owed,
          ),
        )

    module _ (read : ℕ) (u : View) (f : Follows layout shapes (LoadElement source place None) v read u) where
      element_view_is : u ≡ record v { known = owed_word region.Elements at_element read ∷ v.known; found = read }
      element_view_is = f.view ∙ ap (λ (b : Bool). record (if b then v
          else record v { known = owed_word region.Elements at_element read ∷ v.known }) { found = read })
          (ap (λ (g : Stage). is_growing g) calling.between.growth)

      pub element_read : HasRead v u
      element_read = read_once v u (owed_word region.Elements at_element read) read element_view_is

      pub element_known : Knows u region.Elements at_element read
      element_known = subst (λ (x : View). Knows x region.Elements at_element read) (sym element_view_is)
          (0, omega arith, refl)

  -- a block of the class
  module _ (block : ℕ) (of_class : IsBlockOf layout growth.class block) where
    -- blocks of arrays come after those of cells
    pub past_cells : cell_block_count layout ≤ block
    past_cells = (block_of_arrays layout growth.class block calling.limits.five_cell_classes
        calling.limits.five_array_classes r.may.smallest few_classes of_class).0

    -- the take of a bit
    module _ (k : ℕ) (few : k < 64) where
      abbrev taken : ℕ
      taken = array_at layout block k

      is_taken : (heap : Heap) → bit_at (heap region.Free block) k ≡ 1 →
          IsTakenOf layout heap (write heap region.Free block (bit_and (heap region.Free block) (all_but k)))
          growth.class block k
      is_taken heap set = record {
        of_class = of_class;
        of_word = few;
        free_bit = set;
        put = cleared layout heap block k few;
      }

      in_block : block_of_array layout taken ≡ block
      in_block = (let from = past_cells in omega (arith, from, few))

      its_bit : taken % 64 ≡ k
      its_bit = omega (arith, few)

      -- where the bit was set
      module _ (log : List Event) (read : ℕ) (m : Moment layout shapes v log region.Free block read)
          (set : bit_at read k ≡ 1) where
        abbrev state : State
        state = state_after layout log

        here : IsGrowth (caller_of layout shapes v) state op growth
        here = growth_there layout shapes v op growth calling planned m.settled log
            (stands_then layout shapes v log region.Free block read calling.stays m)

        abbrev properties : ℕ → Val
        properties = properties_with state cell growth.value

        set_there : bit_at (m.settled region.Free block) k ≡ 1
        set_there = ap (λ (x : ℕ). bit_at x k)
            (found_there layout shapes v log region.Free block read refl (refl, refl, refl, refl, refl) (λ gone. gone) m)
            ∙ set

        wide_there : width_of_array layout taken ≡ width_of_class growth.class
        wide_there = wide-array layout m.settled _ growth.class block k calling.limits (is_taken m.settled set_there)
            r.may.smallest few_classes

        has_there : (place : ℕ) → place < suc count → HasElement layout taken place
        has_there place below = record {
          array_within = (taken-array layout m.settled _ growth.class block k calling.limits
              (is_taken m.settled set_there) r.may.smallest few_classes).within;
          element_within = (let wide = wide_there in let holds = r.may.holds in omega (arith, below, wide, holds));
        }

        last_is : properties count ≡ growth.value
        last_is = ap (λ (b : Bool). if b then growth.value else (state.cells cell).properties count)
            (eq-eqb count (length (state.cells cell).keys) here.adds.is_count)

        earlier_is : (place : ℕ) → place < count → properties place ≡ (state.cells cell).properties place
        earlier_is place below = ap (λ (b : Bool). if b then growth.value else (state.cells cell).properties place)
            (ne_eqb place (length (state.cells cell).keys)
            (λ same. let is = here.adds.is_count in omega (arith, below, same, is)))

        -- what the old array holds is owed to the new one
        stood : (source place : ℕ) → growth.array ≡ Some source → place < count →
            val_word (properties place) ≡ m.settled region.Elements (index_of_element layout source place)
        stood source place from below = ap val_word (earlier_is place below)
            ∙ sym (element_there layout shapes v op growth calling planned m.settled log
            (stands_then layout shapes v log region.Free block read calling.stays m) source place from below).1

        abbrev after : Heap
        after = grown_words layout m.settled properties cell taken block k count growth.addition.next in_block its_bit
            few has_there

        grown_action : ActionWords layout m.settled v.who (action_of growth) Done (Some taken) after
        grown_action = (
          taken-array layout m.settled _ growth.class block k calling.limits (is_taken m.settled set_there)
              r.may.smallest few_classes,
          are_grown layout m.settled properties cell taken block k count growth.addition.next in_block its_bit few
              has_there growth.array growth.value last_is stood,
        )

      pub may_take_bit : MayStep layout shapes v (TakeArray block k growth.old growth.next (Some op))
      may_take_bit w running is =
          let read = w.heap region.Free block in
          let m = moment_in layout shapes w v region.Free block running is in
          let stands = stands_then layout shapes v w.log region.Free block read calling.stays m in
          let g = growth_there layout shapes v op growth calling planned m.settled w.log stands in
          subst (λ (o : Op). MayTakeArray layout shapes w v.who block k growth.old growth.next read (Some o))
          (sym g.same) (
            runs_there layout w v op is calling,
            few,
            λ set. record {
              is_block = past_cells;
              cell = cell;
              claimed = claimed_there layout shapes v op growth calling planned m.settled w.log stands;
              source = g.source;
              knows = subst (λ (x : View). Knows x region.Structure cell growth.old) (sym is) r.knows;
              shape = growth.addition.next;
              is_shape = g.adds.after;
              is_word = r.next ∙ ap (λ (n : ℕ). whole_word growth.addition.next (n + 1)) g.adds.is_count;
              may = subst (λ (o : Op). MayCall layout shapes w v.who o Done (Some taken)) g.same
                  (may_call layout shapes w v op (action_of growth) Done (Some taken) region.Free block read is calling
                  planned m (after w.log read m set) (grown_action w.log read m set) (λ class full. absurd (cc)));
            },
          )

      module _ (read : ℕ) (u : View)
          (f : Follows layout shapes (TakeArray block k growth.old growth.next (Some op)) v read u) where
        abbrev then_state : State
        then_state = state_after layout f.log

        abbrev event : Event
        event = call_of v.who op Done (Some taken)

        module _ (set : bit_at read k ≡ 1) where
          at_take : IsGrowth (caller_of layout shapes v) then_state op growth
          at_take = here f.log read f.moment set

          abbrev its_view : View
          its_view = grown_view layout then_state cell taken growth.value growth.old growth.next v

          took_view : u ≡ record (with_entry f.log (Some event) its_view) { found = read }
          took_view = f.view ∙ ap (λ (o : Op). record (with_entry f.log
              (if bit_at read k == 1 then Some event else None)
              (array_view layout f.log then_state v.who block k growth.old growth.next (Some o) read v)) { found = read })
              at_take.same
              ∙ ap (λ (b : Bool). record (with_entry f.log (if b then Some event else None)
              (if b then grown_view layout then_state (cell_named (then_state.registers v.who at_take.src)) taken
              (then_state.registers v.who at_take.val) growth.old growth.next v
              else looked_view f.log block read v)) { found = read }) (eq-eqb (bit_at read k) 1 set)
              ∙ ap (λ (x : Val). record (with_entry f.log (Some event) (grown_view layout then_state (cell_named x) taken
              (then_state.registers v.who at_take.val) growth.old growth.next v)) { found = read }) at_take.source
              ∙ ap (λ (x : Val). record (with_entry f.log (Some event) (grown_view layout then_state cell taken
              x growth.old growth.next v)) { found = read }) (sym at_take.is_value)

          kept_out : kept (grown_out its_view) ≡ kept v
          kept_out = ap (λ (g : Stage). record (kept v) { growth = g }) (sym calling.between.growth)

          pub taken_by : HasTaken layout shapes op growth v u taken
          taken_by = record {
            made = made_by layout shapes op (action_of growth) Done (Some taken) v (grown_out u) (grown_out its_view) f.log
                region.Free block read calling f.moment f.lawful f.own (ap grown_out took_view)
                (after f.log read f.moment set) (grown_action f.log read f.moment set) kept_out refl (λ stays. refl)
                (λ is. absurd (cc)) (none_born v.born);
            stage = ap (λ (x : View). x.growth) took_view;
            duty = ap (λ (x : View). x.duty) took_view;
            has = has_there f.log read f.moment set count (omega arith);
            properties = properties f.log read f.moment set;
            owed = ap (λ (x : View). x.owed) took_view
                ∙ ap (λ (n : ℕ). owed_word region.Structure cell growth.next
                ∷ owed_word region.Array cell (Rattle.tide_heap.specs.tide_words.forms.Reference.array_word (Some taken))
                ∷ owed_elements layout (properties_with then_state cell growth.value) taken (suc n))
                (sym at_take.adds.is_count);
            copied = λ source place word from below knows.
                sym (f.moment.known region.Elements (index_of_element layout source place) word knows)
                ∙ sym (stood f.log read f.moment set source place from below);
            bare = bare_there layout shapes v op growth calling planned f.moment.settled f.log
                (stands_then layout shapes v f.log region.Free block read calling.stays f.moment);
            last = last_is f.log read f.moment set;
          }

        module _ (clear : (bit_at read k == 1) ≡ false) where
          lost_here : IsGrowth (caller_of layout shapes v) then_state op growth
          lost_here = growth_there layout shapes v op growth calling planned f.moment.settled f.log
              (stands_then layout shapes v f.log region.Free block read calling.stays f.moment)

          lost_view : u ≡ record v { full = record { block = block; moment = length f.log; word = read } ∷ v.full; found = read }
          lost_view = f.view ∙ ap (λ (o : Op). record (with_entry f.log
              (if bit_at read k == 1 then Some event else None)
              (array_view layout f.log then_state v.who block k growth.old growth.next (Some o) read v)) { found = read })
              lost_here.same
              ∙ ap (λ (b : Bool). record (with_entry f.log (if b then Some event else None)
              (if b then grown_view layout then_state (cell_named (then_state.registers v.who lost_here.src)) taken
              (then_state.registers v.who lost_here.val) growth.old growth.next v
              else looked_view f.log block read v)) { found = read }) clear

          pub lost_looked : HasLooked v u
          lost_looked = looked_once v u (record { block = block; moment = length f.log; word = read }) read lost_view

          pub lost_seen : HasSeen u block read
          lost_seen = seen_once layout shapes v u f.log region.Free block read f.moment block read lost_view

  -- each block of the class was searched in vain
  module _ (searched : ClassIsSearched layout v growth.class) where
    full_words : (heap : Heap) → ActionWords layout heap v.who (action_of growth) (Refused (Full growth.class)) None heap
    full_words heap = (refl, refl, λ region index below. refl)

    pub may_tell_full : (word : ℕ) → word ≡ (length v.mine + 1) % 2 ^ 64 →
        MayStep layout shapes v (StoreCall word (Some op))
    may_tell_full word counts w running is =
        let read = w.heap region.Call v.who in
        let m = moment_in layout shapes w v region.Call v.who running is in
        let g = growth_there layout shapes v op growth calling planned m.settled w.log
        (stands_then layout shapes v w.log region.Call v.who read calling.stays m) in (
          subst (λ (reply : Reply). MayCall layout shapes w v.who op reply None)
              (sym (full_reply (caller_of layout shapes v) (state_after layout w.log) op growth g))
              (may_call layout shapes w v op (action_of growth) (Refused (Full growth.class)) None region.Call v.who read is
              calling planned m m.settled (full_words m.settled)
              (λ full same. let number : growth.class ≡ full = cc in
              subst (StandsRefused layout w.log v.who) number
              (refused_then layout shapes w v running is calling.runs calling.between.sweeping growth.class searched))),
          counts ∙ ap (λ (n : ℕ). (n + 1) % 2 ^ 64) (sym (ap (λ (x : View). length x.mine) is)),
        )

    pub full_by : (word : ℕ) (u : View) → FollowsSome layout shapes (StoreCall word (Some op)) v u →
        HasDone layout shapes op (action_of growth) (Refused (Full growth.class)) v u
    full_by word u f = stored_at layout shapes v op (action_of growth) (Refused (Full growth.class)) calling full_words
        (λ is. absurd (cc)) word u f (full_reply (caller_of layout shapes v) (state_after layout f.1.log) op growth
        (growth_there layout shapes v op growth calling planned f.1.moment.settled f.1.log
        (stands_then layout shapes v f.1.log region.Call v.who f.0 calling.stays f.1.moment)))
