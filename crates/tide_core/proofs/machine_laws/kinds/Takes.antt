-- A free bit that is set is taken: the cell is born, and the wave is kept.
use Rattle.std.proofs.Common.{ℕ, ◌≡◌, ◌+◌, ◌*◌, ◌%◌, ◌<◌, ◌==◌, refl, sym, ◌∙◌, ap, subst, arith, Bool, true, [], Option, Some, None}
use Rattle.std.proofs.lemmas.Bool.{eqb-true}
use Rattle.std.specs.Int.{bit_at}
use Rattle.std.specs.Prelude.{if◌then◌else◌, slice_get, bit_and}
use Rattle.tide_words.proofs.tide_block.BitLaws.{without_bit-is}
use Rattle.tide_words.proofs.tide_layout.LimitLaws.{few_cells}
use Rattle.tide_words.specs.tide_layout.Limits.{IsWithinLimits}
use Rattle.tide_words.specs.tide_layout.Region.{tag}
use Rattle.tide_words.specs.tide_layout.declared.region.Region.{Region}
use Rattle.tide_words.specs.tide_layout.declared.region.Region.TheVariants as region
use Rattle.tide_core.proofs.machine_laws.kinds.TakingCells.{take_free}
use Rattle.tide_core.proofs.machine_laws.steps.SettledNow.{free_now}
use Rattle.tide_core.specs.machine.Entries.{call_of, added}
use Rattle.tide_core.specs.machine.Kind.{TakeFree}
use Rattle.tide_core.specs.machine.Machine.{stepped}
use Rattle.tide_core.specs.machine.May.{called, MayCall}
use Rattle.tide_core.specs.machine.Owed.{owed_register, IsOwnWord, own_register, own_structure, own_array, own_pair, own_element, filled_register}
use Rattle.tide_core.specs.machine.RunningWave.{RunningWave}
use Rattle.tide_core.specs.machine.Views.{with_entry}
use Rattle.tide_core.specs.machine.Words.{all_but}
use Rattle.tide_core.specs.machine.World.{World, parties}
use Rattle.tide_core.specs.declared.machine.view.Duty.TheVariants as duty
use Rattle.tide_core.specs.machine.kinds.LoadFree.{looked_view}
use Rattle.tide_core.specs.machine.kinds.TakeFree.{MayTakeFree}
use Rattle.tide_model.specs.Applied.{after_call, put_register, put_cell}
use Rattle.tide_model.specs.History.{state_after}
use Rattle.tide_model.specs.Layout.{Layout, block_of_cell, cell_count}
use Rattle.tide_model.specs.Numbers.{put_at}
use Rattle.tide_model.specs.Refused.{ShapeLists}
use Rattle.tide_model.specs.State.{blank_cell, live, free, State}
use Rattle.tide_model.specs.declared.op.Op.{Op}
use Rattle.tide_model.specs.declared.op.Op.TheVariants.{Alloc, Table}
use Rattle.tide_model.specs.declared.op.Reply.TheVariants.{Born}
use Rattle.tide_model.specs.declared.val.Val.TheVariants.{Cell}
use Rattle.tide_words.proofs.heap_laws.HeapLaws.{write-other_region, write-other_index, write-same}
use Rattle.tide_words.specs.heap.Heap.{write}
use Rattle.tide_words.specs.heap.Written.{IsBitPut}

-- the free words are nobody's to owe
pub free_is_unowed : (layout : Layout) (state : State) (p index : ℕ) → IsOwnWord layout state p region.Free index → ⊥
free_is_unowed layout state p index own = by region.Free index own refl
  where
    by : (at : Region) (i : ℕ) → IsOwnWord layout state p at i → tag at ≡ tag region.Free → ⊥
    by _ _ (own_register r a b) e = omega (arith, e)
    by _ _ (own_structure c at) e = omega (arith, e)
    by _ _ (own_array c at) e = omega (arith, e)
    by _ _ (own_pair t k at one has) e = omega (arith, e)
    by _ _ (own_element c a k at is has) e = omega (arith, e)

module _ (layout : Layout) (shapes : ShapeLists) (limits : IsWithinLimits layout)
    (empty_shape : slice_get shapes 0 ≡ Some []) (w : World) (me : ℕ)
    (inside : me < parties) (wave : RunningWave layout shapes w) (block k : ℕ) (few : k < 64)
    (within : 64 * block + k < cell_count layout) where
  abbrev cell : ℕ
  cell = 64 * block + k

  abbrev read : ℕ
  read = w.heap region.Free block

  in_block : block_of_cell cell ≡ block
  in_block = omega (arith, few)

  its_bit : cell % 64 ≡ k
  its_bit = omega (arith, few)

  pub same_word : wave.words.settled region.Free block ≡ read
  same_word = sym (wave.words.same region.Free block refl (λ p x owes.
      free_is_unowed layout (state_after layout w.log) p block (wave.words.owns p region.Free block x owes)) (free_now layout shapes w wave block))

  -- the bit of the settled words is cleared
  put : IsBitPut layout wave.words.settled (write wave.words.settled region.Free block (bit_and read (all_but k)))
      region.Free block k 0
  put = record {
    others = λ other apart index below. write-other_region wave.words.settled region.Free other block index
        (bit_and read (all_but k)) apart;
    other_words = λ at below apart. write-other_index wave.words.settled region.Free block at
        (bit_and read (all_but k)) apart;
    bits = λ other below. ap (λ (x : ℕ). bit_at x other)
        (write-same wave.words.settled region.Free block (bit_and read (all_but k)))
        ∙ without_bit-is read k few other below ∙
        ap (λ (x : ℕ). if other == k then 0 else bit_at x other) (sym same_word);
  }

  -- by an operation that takes a cell
  taken : (op : Op) (dst : ℕ) → MayCall layout shapes w me op (Born cell) None → dst < layout.registers →
      filled_register op ≡ Some dst →
      after_call (state_after layout w.log) me op (Born cell) None ≡ put_register
      (put_cell (state_after layout w.log) cell (blank_cell live)) me dst (Cell cell) →
      ((state_after layout w.log).cells cell).status ≡ free → (bit_at read k == 1) ≡ true →
      RunningWave layout shapes (stepped layout shapes w me (TakeFree block k (Some op)))
  taken op dst may in_registers fills bears was_free set =
      subst (λ (b : Bool). RunningWave layout shapes (record {
        heap = write w.heap region.Free block (bit_and read (all_but k));
        part = put_at w.part me (with_entry w.log
            (if b then Some (call_of me op (Born cell) None) else None)
            (if b then record (called (owed_register layout me (filled_register op) (Cell cell)) (w.part me)) {
              duty =
                  duty.Born cell;
              born = (w.part me).born + 1;
            }
            else looked_view w.log block read (w.part me)));
        log = added w.log (if b then Some (call_of me op (Born cell) None) else None);
      })) (sym set)
      (subst (λ (f : Option ℕ). RunningWave layout shapes (record {
        heap = write w.heap region.Free block (bit_and read (all_but k));
        part = put_at w.part me (with_entry w.log (Some (call_of me op (Born cell) None))
            (record (called (owed_register layout me f (Cell cell)) (w.part me)) {
              duty = duty.Born cell;
              born =
                  (w.part me).born + 1;
            }));
        log = added w.log (Some (call_of me op (Born cell) None));
      })) (sym fills)
      (subst (λ (b : ℕ). RunningWave layout shapes (record {
        heap = write w.heap region.Free b (bit_and read (all_but k));
        part = put_at w.part me (with_entry w.log (Some (call_of me op (Born cell) None))
            (record (called (owed_register layout me (Some dst) (Cell cell)) (w.part me)) {
              duty = duty.Born cell;
              born = (w.part me).born + 1;
            }));
        log = added w.log (Some (call_of me op (Born cell) None));
      })) in_block
      (take_free layout shapes w me inside wave may.runner.runs may.between.duty may.between.owed may.between.growth
      empty_shape op dst cell (bit_and read (all_but k)) may.stands within
      (let most = few_cells layout limits in omega (arith, most, within)) in_registers bears was_free
      (subst (λ (b : ℕ). IsBitPut layout wave.words.settled
      (write wave.words.settled region.Free b (bit_and read (all_but k))) region.Free b (cell % 64) 0)
      (sym in_block)
      (subst (λ (i : ℕ). IsBitPut layout wave.words.settled
      (write wave.words.settled region.Free block (bit_and read (all_but k))) region.Free block i 0)
      (sym its_bit) put)))))

  pub take : (op : Op) → MayTakeFree layout shapes w me block k read (Some op) → (bit_at read k == 1) ≡ true →
      RunningWave layout shapes (stepped layout shapes w me (TakeFree block k (Some op)))
  take (Alloc dst class) (runner, takes, few_k, inside_layout, may) set =
      let call = may (eqb-true (bit_at read k) 1 set) in
      taken (Alloc dst class) dst call call.stands.fits.0 refl refl call.stands.answers.1.is_free set
  take (Table dst) (runner, takes, few_k, inside_layout, may) set =
      let call = may (eqb-true (bit_at read k) 1 set) in
      taken (Table dst) dst call call.stands.fits refl refl call.stands.answers.1.is_free set
  take _ (runner, takes, few_k, inside_layout, may) set = absurd takes
