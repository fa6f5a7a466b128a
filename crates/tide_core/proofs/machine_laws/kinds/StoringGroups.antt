-- The store of a group word keeps the wave.
use Rattle.std.proofs.Common.{ℕ, ◌≡◌, ◌<◌, refl, sym, ◌∙◌, ap, subst, arith, [], inr, Some, None, Option}
use Rattle.std.specs.Prelude.{slice_get}
use Rattle.tide_words.specs.tide_layout.Limits.{IsWithinLimits}
use Rattle.tide_words.specs.tide_layout.Region.{tag}
use Rattle.tide_words.specs.tide_layout.declared.region.Region.{Region}
use Rattle.tide_core.proofs.machine_laws.steps.CallReadings.{call_reads}
use Rattle.tide_core.proofs.machine_laws.steps.CellCalls.{cell_call}
use Rattle.tide_core.proofs.machine_laws.steps.SameLinks.{SameLinks, same_links, same_arrays, all_same}
use Rattle.tide_core.proofs.machine_laws.steps.SettledNow.{group_now}
use Rattle.tide_core.specs.machine.Duties.{OwesColour}
use Rattle.tide_core.specs.machine.Kind.{StoreGroup}
use Rattle.tide_core.specs.machine.Machine.{stepped}
use Rattle.tide_core.specs.machine.May.{MayCall}
use Rattle.tide_core.specs.machine.Owed.{IsOwnWord, own_register, own_structure, own_array, own_pair, own_element}
use Rattle.tide_core.specs.machine.RunningWave.{RunningWave}
use Rattle.tide_core.specs.machine.Scanning.{property}
use Rattle.tide_core.specs.machine.World.{World, parties, pushes}
use Rattle.tide_core.specs.declared.machine.view.Duty.{Duty}
use Rattle.tide_core.specs.machine.kinds.StorePlainWord.{MayStoreGroup}
use Rattle.tide_model.proofs.ReferenceLaws.{put_at_elim}
use Rattle.tide_model.specs.Applied.{after_call, at_cell, put_cell}
use Rattle.tide_model.specs.History.{state_after}
use Rattle.tide_model.specs.Layout.{Layout}
use Rattle.tide_model.specs.Refused.{ShapeLists}
use Rattle.tide_model.specs.State.{State, CellState}
use Rattle.tide_model.specs.declared.op.Op.{Op}
use Rattle.tide_model.specs.declared.op.Op.TheVariants.{Group}
use Rattle.tide_model.specs.declared.op.Reply.TheVariants.{Done}
use Rattle.tide_model.specs.declared.val.Val.{Val}
use Rattle.tide_model.specs.declared.val.Val.TheVariants.{Cell}
use Rattle.tide_words.specs.heap.Heap.{write}
use Rattle.tide_words.specs.heap.Reading.{ReadsAs}
use Rattle.tide_words.specs.tide_layout.declared.region.Region.TheVariants as region

module _ (layout : Layout) (shapes : ShapeLists) (limits : IsWithinLimits layout)
    (empty_shape : slice_get shapes 0 ≡ Some []) (w : World) (me : ℕ) (inside : me < parties)
    (wave : RunningWave layout shapes w) where
  abbrev state : State
  state = state_after layout w.log

  module _ (src n cell : ℕ) (source : state.registers me src ≡ Cell cell)
      (may : MayCall layout shapes w me (Group src n) Done None) where
    abbrev grouped : CellState
    grouped = record (state.cells cell) { group = n }

    same_group : SameLinks grouped (state.cells cell)
    same_group = record { status = refl; keys = refl; slots = refl; properties = refl; array = refl }

    no_own : (p : ℕ) (at : Region) (index : ℕ) → IsOwnWord layout state p at index → tag at ≡ tag region.Group → ⊥
    no_own p _ _ (own_register r a b) e = omega (arith, e)
    no_own p _ _ (own_structure c at) e = omega (arith, e)
    no_own p _ _ (own_array c at) e = omega (arith, e)
    no_own p _ _ (own_pair t k at one has) e = omega (arith, e)
    no_own p _ _ (own_element c a k at is has) e = omega (arith, e)

    pairs_same : (x : ℕ) → ((put_cell state cell grouped).cells x).pairs ≡ (state.cells x).pairs
    pairs_same = put_at_elim (λ x (h : CellState). h.pairs ≡ (state.cells x).pairs) state.cells cell grouped refl
        (λ x apart. refl)

    becomes : after_call state me (Group src n) Done None ≡ put_cell state cell grouped
    becomes = ap (λ (x : Val). at_cell state x (λ c. put_cell state c (record (state.cells c) { group = n }))) source

    grouped_kept : RunningWave layout shapes (stepped layout shapes w me (StoreGroup cell n (Some (Group src n))))
    grouped_kept = cell_call layout shapes w me inside wave may.runner.runs may.between.duty may.between.owed
        may.between.growth (Group src n) Done (λ c. refl) may.stands cell grouped (w.part me).duty region.Group cell n
        record {
          called = refl;
          no_period = refl;
          no_call = refl;
          no_dead = refl;
          settled = group_now layout shapes w wave cell (λ is. let alive = wave.refs.in_registers me src cell may.stands.is_active source in absurd (cc));
          becomes = becomes;
          reads = subst (ReadsAs layout shapes (write wave.words.settled region.Group cell n)) becomes
              (call_reads layout shapes limits empty_shape w wave me (Group src n) Done None
              (write wave.words.settled region.Group cell n) may.stands (cell, source, λ other index below. refl));
          alone = λ p apart own. no_own p region.Group cell own refl;
          status = refl;
          array = refl;
          pushes_none = λ c. ap (λ (d : Duty). pushes d c) may.between.duty;
          no_colour = λ c owes. subst (λ (d : Duty). OwesColour d c) may.between.duty owes;
          links = λ x place target link. inr (same_links state cell grouped same_group x place target link);
          beyond = λ marks x k target link past. (
            same_links state cell grouped same_group x (property k) target link,
            past,
          );
          scans = λ p scan is k. record {
            unread = k.unread;
            array_after = k.array_after;
            grows = k.grows;
            nuked = k.nuked;
            array = k.array;
            room = k.room;
            agreed = k.agreed;
            names_live = λ first array place c a b below names. (all_same state cell grouped same_group c).status ∙
                k.names_live first array place c a b below names;
          };
          truer = λ p scan is holds. holds;
          hidden = λ p c apart alive h. (
            (λ x place link. h.linked x place (same_links state cell grouped same_group x place c link)),
            (λ table key is_live is. h.paired table key is_live
                (ap (λ (f : ℕ → Option Val). f key) (sym (pairs_same table)) ∙ is)),
            (λ place target link. h.blank place target (same_links state cell grouped same_group c place target link)),
          );
        }
        (same_arrays state cell grouped same_group layout w.heap (write w.heap region.Group cell n) (λ c.
        refl) (λ c. refl) (λ i. refl) wave.arrays)

  pub store_group : (cell word : ℕ) (op : Op) → MayStoreGroup layout shapes w me cell word (Some op) →
      RunningWave layout shapes (stepped layout shapes w me (StoreGroup cell word (Some op)))
  store_group cell word (Group src n) (source, is, may) =
      subst (λ (x : ℕ). RunningWave layout shapes (stepped layout shapes w me (StoreGroup cell x (Some (Group src n)))))
      (sym is) (grouped_kept src n cell source may)
  store_group cell word _ none = absurd none
