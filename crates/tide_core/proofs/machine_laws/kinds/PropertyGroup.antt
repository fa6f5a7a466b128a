-- Each kind on properties, structures and arrays whose law is proved keeps the wave.
use Rattle.std.proofs.Common.{ℕ, ◌≡◌, ◌<◌, ◌∷◌, sym, ap, subst, Bool, true, false, [], inl, inr, Some, None, refl}
use Rattle.std.proofs.lemmas.Bool.{eqb-true}
use Rattle.std.specs.Int.{bit_at}
use Rattle.std.specs.Prelude.{slice_get, if◌then◌else◌, bit_and, ◌==◌}
use Rattle.tide_words.specs.tide_layout.Limits.{IsWithinLimits}
use Rattle.tide_words.specs.tide_layout.Slots.{index_of_element}
use Rattle.tide_words.specs.tide_layout.declared.region.Region.TheVariants as region
use Rattle.tide_core.proofs.machine_laws.kinds.AddingInPlace.{add_in_place}
use Rattle.tide_core.proofs.machine_laws.kinds.GrowthStages.{nuke, store_array, store_structure}
use Rattle.tide_core.proofs.machine_laws.kinds.KnownLoads.{known_load}
use Rattle.tide_core.proofs.machine_laws.kinds.Searches.{lost_bit}
use Rattle.tide_core.proofs.machine_laws.kinds.SeenProperties.{see_property}
use Rattle.tide_core.proofs.machine_laws.kinds.StoringElements.{store_own_element}
use Rattle.tide_core.proofs.machine_laws.kinds.StoringProperties.{set_property}
use Rattle.tide_core.proofs.machine_laws.kinds.TakingArrays.{array_taken}
use Rattle.tide_core.proofs.machine_laws.steps.Loads.{load_nothing}
use Rattle.tide_core.specs.machine.Duties.{is_growing}
use Rattle.tide_core.specs.machine.Entries.{call_of, added}
use Rattle.tide_core.specs.machine.Groups.{is_of_properties}
use Rattle.tide_core.specs.machine.Kind.{Kind, LoadOwnArray, LoadOwnStructure, LoadElement, StoreElement, StoreStructure, Nuke, StoreArray, TakeArray}
use Rattle.tide_core.specs.machine.Machine.{IsAllowed, stepped}
use Rattle.tide_core.specs.machine.Owed.{owed_word, own_array, own_structure, own_element}
use Rattle.tide_core.specs.machine.RunningWave.{RunningWave}
use Rattle.tide_core.specs.machine.Views.{with_entry}
use Rattle.tide_core.specs.machine.Words.{cell_named, all_but}
use Rattle.tide_core.specs.machine.World.{World, parties}
use Rattle.tide_core.specs.machine.kinds.LoadFree.{looked_view}
use Rattle.tide_core.specs.machine.kinds.StorePrivateElement.{MayLoadElement, MayStoreElement}
use Rattle.tide_core.specs.machine.kinds.StoreStructure.{MayStoreStructure}
use Rattle.tide_core.specs.machine.kinds.TakeArray.{MayTakeArray, array_at, grown_view}
use Rattle.tide_model.specs.History.{state_after}
use Rattle.tide_model.specs.Layout.{Layout}
use Rattle.tide_model.specs.Numbers.{put_at}
use Rattle.tide_model.specs.Refused.{ShapeLists}
use Rattle.tide_model.specs.declared.op.Op.{Op}
use Rattle.tide_model.specs.declared.op.Op.TheVariants.{SetProp, Add}
use Rattle.tide_model.specs.declared.op.Reply.TheVariants.{Done}
use Rattle.tide_words.specs.heap.Heap.{write}

module _ (layout : Layout) (shapes : ShapeLists) (limits : IsWithinLimits layout)
    (empty_shape : slice_get shapes 0 ≡ Some []) (w : World) (me : ℕ) (inside : me < parties)
    (wave : RunningWave layout shapes w) where
  -- an element is known from its load on, or copied by a growth
  load_element : (array place : ℕ) →
      MayLoadElement layout shapes w me array place (w.heap region.Elements (index_of_element layout array place)) None
      →
      RunningWave layout shapes (stepped layout shapes w me (LoadElement array place None))
  load_element array place (runner, how) = elim how [
    | inl (own, grows_not, owes_not) ↦ in_view false (ap is_growing grows_not)
        (known_load layout shapes w me inside wave runner.runs owes_not region.Elements
        (index_of_element layout array place) refl (own_element own.cell array place own.claimed own.is_array own.has))
    | inr copies ↦ in_view true (ap is_growing copies.stage)
        (load_nothing layout shapes w me wave region.Elements (index_of_element layout array place))
  ]
    where
      in_view : (b : Bool) → is_growing (w.part me).growth ≡ b → RunningWave layout shapes (record {
        heap = write w.heap region.Elements (index_of_element layout array place)
            (w.heap region.Elements (index_of_element layout array place));
        part = put_at w.part me (if b then w.part me else record (w.part me) {
          known = owed_word region.Elements (index_of_element layout array place)
              (w.heap region.Elements (index_of_element layout array place)) ∷ (w.part me).known;
        });
        log = w.log;
      }) → RunningWave layout shapes (stepped layout shapes w me (LoadElement array place None))
      in_view b is = subst (λ (b : Bool). RunningWave layout shapes (record {
        heap = write w.heap region.Elements (index_of_element layout array place)
            (w.heap region.Elements (index_of_element layout array place));
        part = put_at w.part me (if b then w.part me else record (w.part me) {
          known = owed_word region.Elements (index_of_element layout array place)
              (w.heap region.Elements (index_of_element layout array place)) ∷ (w.part me).known;
        });
        log = w.log;
      })) (sym is)

  -- the stores that a call makes
  store_called : (array place word : ℕ) (op : Op) → MayStoreElement layout shapes w me array place word (Some op) →
      RunningWave layout shapes (stepped layout shapes w me (StoreElement array place word (Some op)))
  store_called array place word (SetProp src key val) may =
      set_property layout shapes limits empty_shape w me inside wave array place word src key val may
  store_called array place word _ none = absurd none

  structure_called : (cell word : ℕ) (op : Op) → MayStoreStructure layout shapes w me cell word (Some op) →
      RunningWave layout shapes (stepped layout shapes w me (StoreStructure cell word (Some op)))
  structure_called cell word (Add src key val) may =
      add_in_place layout shapes limits empty_shape w me inside wave cell word src key val may
  structure_called cell word _ none = absurd none

  -- the free bit of an array is taken, or another has it
  take_array : (block k old next : ℕ) (op : Op) →
      MayTakeArray layout shapes w me block k old next (w.heap region.Free block) (Some op) →
      RunningWave layout shapes (stepped layout shapes w me (TakeArray block k old next (Some op)))
  take_array block k old next (Add src key val) (runner, few, takes) =
      by (bit_at (w.heap region.Free block) k == 1) refl
    where
      by : (b : Bool) → (bit_at (w.heap region.Free block) k == 1) ≡ b → RunningWave layout shapes
          (stepped layout shapes w me (TakeArray block k old next (Some (Add src key val))))
      by true set = array_taken layout shapes limits empty_shape w me inside wave block k few old next src key val
          (takes (eqb-true (bit_at (w.heap region.Free block) k) 1 set)) set
      by false clear = subst (λ (set : Bool). RunningWave layout shapes (record {
        heap = write w.heap region.Free block (bit_and (w.heap region.Free block) (all_but k));
        part = put_at w.part me (with_entry w.log
            (if set then Some (call_of me (Add src key val) Done (Some (array_at layout block k)))
            else None)
            (if set then grown_view layout (state_after layout w.log)
            (cell_named ((state_after layout w.log).registers me src)) (array_at layout block k)
            ((state_after layout w.log).registers me val) old next (w.part me)
            else looked_view w.log block (w.heap region.Free block) (w.part me)));
        log = added w.log (if set then Some (call_of me (Add src key val) Done (Some (array_at layout block k)))
            else None);
      })) (sym clear) (lost_bit layout shapes w me inside wave runner.runs block k few clear)
  take_array block k old next _ none = absurd none

  pub properties_kept : (kind : Kind) → is_of_properties kind ≡ true → IsAllowed layout shapes w me kind →
      RunningWave layout shapes (stepped layout shapes w me kind)
  properties_kept (LoadOwnArray cell) is may =
      known_load layout shapes w me inside wave may.runner.runs may.owes_not region.Array cell refl
      (own_array cell may.claimed)
  properties_kept (LoadOwnStructure cell) is may =
      known_load layout shapes w me inside wave may.runner.runs may.owes_not region.Structure cell refl
      (own_structure cell may.claimed)
  properties_kept (LoadElement array place None) is may = load_element array place may
  properties_kept (LoadElement array place (Some op)) is may =
      see_property layout shapes w me inside wave array place op may
  properties_kept (StoreElement array place word None) is may =
      store_own_element layout shapes w me inside wave array place word may
  properties_kept (StoreElement array place word (Some op)) is may = store_called array place word op may
  properties_kept (TakeArray block k old next None) is may = absurd may
  properties_kept (TakeArray block k old next (Some op)) is may = take_array block k old next op may
  properties_kept (Nuke cell word) is may = nuke layout shapes w me inside wave may.runner.runs cell word may
  properties_kept (StoreArray cell array) is may =
      store_array layout shapes w me inside wave may.runner.runs cell array may
  properties_kept (StoreStructure cell word None) is may =
      store_structure layout shapes w me inside wave may.runner.runs cell word may
  properties_kept (StoreStructure cell word (Some op)) is may = structure_called cell word op may
  properties_kept _ is may = absurd (cc)
