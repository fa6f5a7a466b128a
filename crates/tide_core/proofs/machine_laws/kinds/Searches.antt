-- The kinds by which a mutator looks for something free, and a take that is lost.
use Rattle.std.proofs.Common.{ℕ, ◌≡◌, ◌+◌, ◌*◌, ◌<◌, ◌≤◌, ◌==◌, refl, sym, ◌∙◌, ap, subst, arith, Bool, true, false, [], ◌∷◌, inl, inr, Some, None, length}
use Rattle.std.proofs.lemmas.Bool.{cases_eq, eq-eqb, ne_eqb, eqb-false}
use Rattle.std.proofs.lemmas.List.Elements.{Contains-append_cases}
use Rattle.std.proofs.lemmas.Nat.Bits.{bit_at-lt}
use Rattle.std.specs.Int.{bit_at}
use Rattle.std.specs.Prelude.{Contains, if◌then◌else◌, bit_and}
use Rattle.tide_words.proofs.tide_block.BitLaws.{without_bit-is}
use Rattle.tide_words.specs.tide_layout.declared.region.Region.TheVariants as region
use Rattle.tide_core.proofs.machine_laws.kinds.Searching.{shown_block, in_window, looks}
use Rattle.tide_core.proofs.machine_laws.kinds.Takes.{free_is_unowed}
use Rattle.tide_core.proofs.machine_laws.steps.Growing.{state_at-last}
use Rattle.tide_core.proofs.machine_laws.steps.Lists.{in_one}
use Rattle.tide_core.proofs.machine_laws.steps.SettledNow.{free_now}
use Rattle.tide_core.specs.machine.Entries.{call_of, added}
use Rattle.tide_core.specs.machine.Looked.{FreeIsShown}
use Rattle.tide_core.specs.machine.Kind.{LoadFree, TakeFree}
use Rattle.tide_core.specs.machine.Machine.{stepped}
use Rattle.tide_core.specs.machine.May.{called}
use Rattle.tide_core.specs.machine.Owed.{owed_register, filled_register}
use Rattle.tide_core.specs.machine.RunningWave.{RunningWave}
use Rattle.tide_core.specs.machine.Views.{with_entry}
use Rattle.tide_core.specs.machine.Words.{all_but}
use Rattle.tide_core.specs.machine.World.{World, parties}
use Rattle.tide_core.specs.declared.machine.view.Duty.TheVariants as duty
use Rattle.tide_core.specs.declared.machine.view.FullBlock.{FullBlock}
use Rattle.tide_core.specs.machine.kinds.LoadFree.{looked_view}
use Rattle.tide_model.specs.History.{state_after, state_at}
use Rattle.tide_model.specs.Layout.{Layout}
use Rattle.tide_model.specs.Numbers.{put_at}
use Rattle.tide_model.specs.Refused.{ShapeLists}
use Rattle.tide_model.specs.Room.{window_start}
use Rattle.tide_model.specs.State.{State}
use Rattle.tide_model.specs.declared.op.Op.{Op}
use Rattle.tide_model.specs.declared.op.Reply.TheVariants.{Born}
use Rattle.tide_model.specs.declared.val.Val.TheVariants.{Cell}
use Rattle.tide_words.specs.heap.Heap.{write}

module _ (layout : Layout) (shapes : ShapeLists) (w : World) (me : ℕ) (inside : me < parties)
    (wave : RunningWave layout shapes w) (runs : (w.part me).runs ≡ true) (block : ℕ) where
  abbrev state : State
  state = state_after layout w.log

  abbrev read : ℕ
  read = w.heap region.Free block

  same_word : wave.words.settled region.Free block ≡ read
  same_word = sym (wave.words.same region.Free block refl (λ p x owes.
      free_is_unowed layout state p block (wave.words.owns p region.Free block x owes)) (free_now layout shapes w wave block))

  -- nothing of the block is free now but what its word shows
  finds : (b moment word : ℕ) →
      Contains (record { block = block; moment = length w.log; word = read } ∷ (w.part me).full)
      (record { block = b; moment = moment; word = word }) →
      (window_start me w.log ≤ moment) × (moment ≤ length w.log)
      × FreeIsShown layout (state_at layout w.log moment) b word
  finds b moment word at = elim (Contains-append_cases
      (record { block = block; moment = length w.log; word = read } ∷ [])
      (w.part me).full (record { block = b; moment = moment; word = word }) at) [
        | inl here ↦ subst (λ (f : FullBlock). (window_start me w.log ≤ f.moment) × (f.moment ≤ length w.log) ×
            FreeIsShown layout (state_at layout w.log f.moment) f.block f.word)
            (in_one (record { block = block; moment = length w.log; word = read })
            (record { block = b; moment = moment; word = word }) here) (
              in_window me w.log,
              omega arith,
              subst (λ (s : State). FreeIsShown layout s block read) (sym (state_at-last layout w.log))
                  (shown_block layout shapes wave.words.settled state block read wave.words.reads same_word),
            )
        | inr before ↦ wave.kept.full me b moment word before
      ]

  pub load_free : RunningWave layout shapes (stepped layout shapes w me (LoadFree block))
  load_free =
      looks layout shapes w me inside wave runs block read (λ k few. ap (λ (x : ℕ). bit_at x k) (sym same_word))
      (record { block = block; moment = length w.log; word = read } ∷ (w.part me).full) finds

  -- a take of a bit that isn't set
  pub lost_bit : (k : ℕ) → k < 64 → (bit_at read k == 1) ≡ false →
      RunningWave layout shapes (record {
        heap = write w.heap region.Free block (bit_and read (all_but k));
        part = put_at w.part me (looked_view w.log block read (w.part me));
        log = w.log;
      })
  lost_bit k few clear = looks layout shapes w me inside wave runs block (bit_and read (all_but k))
      (λ i below. same_bits i below ∙ ap (λ (x : ℕ). bit_at x i) (sym same_word))
      (record { block = block; moment = length w.log; word = read } ∷ (w.part me).full) finds
    where
      same_bits : (i : ℕ) → i < 64 → bit_at (bit_and read (all_but k)) i ≡ bit_at read i
      same_bits i below = without_bit-is read k few i below ∙ elim (cases_eq i k) [
        | inl is ↦
            ap (λ (b : Bool). if b then 0 else bit_at read i) (eq-eqb i k is) ∙ sym (ap (bit_at read) is ∙ no_bit)
        | inr apart ↦ ap (λ (b : Bool). if b then 0 else bit_at read i) (ne_eqb i k apart)
      ]
        where
          no_bit : bit_at read k ≡ 0
          no_bit = (let low = bit_at-lt read k in let isnt = eqb-false (bit_at read k) 1 clear in
              omega (arith, low, isnt))

  pub lost : (k : ℕ) → k < 64 → (o : Op) → (bit_at read k == 1) ≡ false →
      RunningWave layout shapes (stepped layout shapes w me (TakeFree block k (Some o)))
  lost k few o clear =
      subst (λ (set : Bool). RunningWave layout shapes (record {
        heap = write w.heap region.Free block (bit_and read (all_but k));
        part = put_at w.part me (with_entry w.log
            (if set then Some (call_of me o (Born (64 * block + k)) None) else None)
            (if set then record (called (owed_register layout me (filled_register o) (Cell (64 * block + k)))
            (w.part me)) { duty = duty.Born (64 * block + k); born = (w.part me).born + 1 }
            else looked_view w.log block read (w.part me)));
        log = added w.log (if set then Some (call_of me o (Born (64 * block + k)) None) else None);
      })) (sym clear) (lost_bit k few clear)
