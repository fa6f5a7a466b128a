-- A register or a handle is stored by its call, or a mutator retires: the wave is kept.
use Rattle.std.proofs.Common.{ℕ, ◌≡◌, ◌≢◌, ◌<◌, ◌==◌, refl, sym, subst, Bool, true, false, Some, None, inl, inr, ap}
use Rattle.std.proofs.lemmas.Bool.{eq-eqb}
use Rattle.std.specs.Prelude.{not, if◌then◌else◌}
use Rattle.tide_call.proofs.reading_laws.RootReading.{Reading-register, Reading-strong, Reading-weak, Reading-retire}
use Rattle.tide_words.specs.tide_layout.Region.{tag, index_of_register}
use Rattle.tide_words.specs.tide_layout.declared.region.Region.{Region}
use Rattle.tide_words.specs.tide_layout.declared.region.Region.TheVariants as region
use Rattle.tide_core.proofs.machine_laws.steps.Owning.{own_alone}
use Rattle.tide_core.proofs.machine_laws.steps.PlainWords.{plain_word}
use Rattle.tide_core.proofs.machine_laws.steps.Registers.{register_after}
use Rattle.tide_core.proofs.machine_laws.steps.SettledNow.{active_now, register_now, strong_now, weak_now}
use Rattle.tide_core.specs.machine.Kind.{StoreRegister, StoreStrong, StoreWeak, Retire as RetireKind}
use Rattle.tide_core.specs.machine.Machine.{stepped}
use Rattle.tide_core.specs.machine.May.{MayCall}
use Rattle.tide_core.specs.machine.Owed.{IsOwnWord, own_register, own_structure, own_array, own_pair, own_element}
use Rattle.tide_core.specs.machine.RunningWave.{RunningWave}
use Rattle.tide_core.specs.machine.World.{World, parties}
use Rattle.tide_core.specs.machine.kinds.RegisterCall.{MayStoreRegister}
use Rattle.tide_core.specs.machine.kinds.Retire.{MayRetire}
use Rattle.tide_core.specs.machine.kinds.StoreRootWord.{MayStoreStrong, MayStoreWeak}
use Rattle.tide_core.specs.machine.points.Births.{IsHidden}
use Rattle.tide_model.proofs.ClaimLaws.{ClaimsAreOwn-lawful}
use Rattle.tide_model.proofs.ReferenceLaws.{put_at_elim}
use Rattle.tide_model.specs.Applied.{put_register, after_call}
use Rattle.tide_model.specs.History.{state_after}
use Rattle.tide_model.specs.Layout.{Layout}
use Rattle.tide_model.specs.Numbers.{put_at}
use Rattle.tide_model.specs.Refused.{ShapeLists}
use Rattle.tide_model.specs.State.{State}
use Rattle.tide_model.specs.declared.op.Op.{Op}
use Rattle.tide_model.specs.declared.op.Op.TheVariants.{Move, Set, Drop, StrongSet, WeakSet, Retire}
use Rattle.tide_model.specs.declared.op.Reply.TheVariants.{Done}
use Rattle.tide_model.specs.declared.val.Val.{Val}
use Rattle.tide_model.specs.declared.val.Val.TheVariants.{Cell, Int, Empty}
use Rattle.tide_words.specs.forms.ValueWord.{HasU32, val_word}

module _ (layout : Layout) (shapes : ShapeLists) (w : World) (me : ℕ) (inside : me < parties)
    (wave : RunningWave layout shapes w) where
  abbrev state : State
  state = state_after layout w.log

  -- nobody owns such a word as another's
  not_own : (at : Region) → (tag at == tag region.Registers) ≡ false → (tag at == tag region.Structure) ≡ false →
      (tag at == tag region.Array) ≡ false →
      (tag at == tag region.Slots) ≡ false → (tag at == tag region.Elements) ≡ false → (p index : ℕ) →
      IsOwnWord layout state p at index → ⊥
  not_own _ a b c d e p _ (own_register r x y) = absurd (cc)
  not_own _ a b c d e p _ (own_structure x at) = absurd (cc)
  not_own _ a b c d e p _ (own_array x at) = absurd (cc)
  not_own _ a b c d e p _ (own_pair t k at one has) = absurd (cc)
  not_own _ a b c d e p _ (own_element x y k at is has) = absurd (cc)

  -- a register is filled by a call that is answered with Done
  filled : (op : Op) (dst : ℕ) (value : Val) (may : MayCall layout shapes w me op Done None) → dst < layout.registers →
      HasU32 value →
      after_call state me op Done None ≡ put_register state me dst value →
      ((p c : ℕ) → p ≢ me → IsHidden state p c → value ≡ Cell c → ⊥) →
      RunningWave layout shapes (stepped layout shapes w me (StoreRegister dst (val_word value) (Some op)))
  filled op dst value may within number fills unseen =
      plain_word layout shapes w me inside wave may.runner.runs may.between.duty may.between.owed may.between.growth op
      Done (λ c. refl) may.stands
      state.active (put_register state me dst value).registers state.claims state.strong state.weak (w.part me).left
      region.Registers (index_of_register layout me dst) (val_word value) record {
        changes = refl;
        no_call = refl;
        settled = register_now layout shapes w wave (index_of_register layout me dst);
        becomes = fills;
        reads = Reading-register layout shapes wave.words.settled state wave.words.reads me dst value
            may.stands.is_mutator within number;
        alone = λ p apart own. apart (own_alone layout state (ClaimsAreOwn-lawful layout shapes w.log wave.lawful)
            wave.refs p me
            region.Registers region.Registers (index_of_register layout me dst) (index_of_register layout me dst) own
            (own_register dst may.stands.is_mutator within) refl refl);
        claims_else = λ p apart. refl;
        active_else = λ p apart. refl;
        left_is = wave.left me;
        leaves = inl refl;
        hidden = λ p c apart alive h. (
          (λ who register not_p active is. elim (register_after state me dst value who register (Cell c) is) [
            | inl now ↦ unseen p c apart h now
            | inr was ↦ h.registers who register not_p active was
          ]),
          h.strong,
          h.weak,
          h.claims,
        );
      }

  pub store_register : (register word : ℕ) (op : Op) → MayStoreRegister layout shapes w me register word (Some op) →
      RunningWave layout shapes (stepped layout shapes w me (StoreRegister register word (Some op)))
  store_register register word (Move dst src) (may, (at, is)) =
      subst (λ (r : ℕ). RunningWave layout shapes
      (stepped layout shapes w me (StoreRegister r word (Some (Move dst src))))) at
      (subst (λ (x : ℕ). RunningWave layout shapes
      (stepped layout shapes w me (StoreRegister dst x (Some (Move dst src))))) (sym is)
      (filled (Move dst src) dst (state.registers me src) may may.stands.fits.0
      (wave.words.reads.roots.registers me src may.stands.is_mutator may.stands.fits.1).number refl
      (λ p c apart h. h.registers me src (λ e. apart (sym e)) may.stands.is_active)))
  store_register register word (Set dst n) (may, (at, is)) =
      subst (λ (r : ℕ). RunningWave layout shapes
      (stepped layout shapes w me (StoreRegister r word (Some (Set dst n))))) at
      (subst (λ (x : ℕ). RunningWave layout shapes
      (stepped layout shapes w me (StoreRegister dst x (Some (Set dst n))))) (sym is)
      (filled (Set dst n) dst (Int n) may may.stands.fits.0 may.stands.fits.1 refl (λ p c apart h e. absurd (cc))))
  store_register register word (Drop dst) (may, (at, is)) =
      subst (λ (r : ℕ). RunningWave layout shapes (stepped layout shapes w me (StoreRegister r word (Some (Drop dst)))))
      at
      (subst (λ (x : ℕ). RunningWave layout shapes (stepped layout shapes w me (StoreRegister dst x (Some (Drop dst)))))
      (sym is)
      (filled (Drop dst) dst Empty may may.stands.fits tt refl (λ p c apart h e. absurd (cc))))
  store_register register word _ (may, none) = absurd none

  pub store_strong : (handle word : ℕ) (op : Op) → MayStoreStrong layout shapes w me handle word (Some op) →
      RunningWave layout shapes (stepped layout shapes w me (StoreStrong handle word (Some op)))
  store_strong handle word (StrongSet at val) (here, is, may) =
      subst (λ (h : ℕ). RunningWave layout shapes
      (stepped layout shapes w me (StoreStrong h word (Some (StrongSet at val))))) here
      (subst (λ (x : ℕ). RunningWave layout shapes
      (stepped layout shapes w me (StoreStrong at x (Some (StrongSet at val))))) (sym is)
      (plain_word layout shapes w me inside wave may.runner.runs may.between.duty may.between.owed may.between.growth
      (StrongSet at val) Done (λ c. refl) may.stands
      state.active state.registers state.claims (put_at state.strong at (state.registers me val)) state.weak
      (w.part me).left
      region.Strong at (val_word (state.registers me val)) record {
        changes = refl;
        no_call = refl;
        settled = strong_now layout shapes w wave at;
        becomes = refl;
        reads = Reading-strong layout shapes wave.words.settled state wave.words.reads at
            (state.registers me val) may.stands.fits.0
            (wave.words.reads.roots.registers me val may.stands.is_mutator may.stands.fits.1).number;
        alone = λ p apart. not_own region.Strong refl refl refl refl refl p at;
        claims_else = λ p apart. refl;
        active_else = λ p apart. refl;
        left_is = wave.left me;
        leaves = inl refl;
        hidden = λ p c apart alive h. (
          h.registers,
          put_at_elim (λ n (held : Val). held ≡ Cell c → ⊥) state.strong at (state.registers me val)
              (λ is. h.registers me val (λ e. apart (sym e)) may.stands.is_active is) (λ n other is. h.strong n is),
          h.weak,
          h.claims,
        );
      }))
  store_strong handle word _ none = absurd none

  pub store_weak : (handle word : ℕ) (op : Op) → MayStoreWeak layout shapes w me handle word (Some op) →
      RunningWave layout shapes (stepped layout shapes w me (StoreWeak handle word (Some op)))
  store_weak handle word (WeakSet at val) (here, is, may) =
      subst (λ (h : ℕ). RunningWave layout shapes
      (stepped layout shapes w me (StoreWeak h word (Some (WeakSet at val))))) here
      (subst (λ (x : ℕ). RunningWave layout shapes
      (stepped layout shapes w me (StoreWeak at x (Some (WeakSet at val))))) (sym is)
      (plain_word layout shapes w me inside wave may.runner.runs may.between.duty may.between.owed may.between.growth
      (WeakSet at val) Done (λ c. refl) may.stands
      state.active state.registers state.claims state.strong (put_at state.weak at (state.registers me val))
      (w.part me).left
      region.Weak at (val_word (state.registers me val)) record {
        changes = refl;
        no_call = refl;
        settled = weak_now layout shapes w wave at;
        becomes = refl;
        reads = Reading-weak layout shapes wave.words.settled state wave.words.reads at
            (state.registers me val) may.stands.fits.0
            (wave.words.reads.roots.registers me val may.stands.is_mutator may.stands.fits.1).number;
        alone = λ p apart. not_own region.Weak refl refl refl refl refl p at;
        claims_else = λ p apart. refl;
        active_else = λ p apart. refl;
        left_is = wave.left me;
        leaves = inl refl;
        hidden = λ p c apart alive h. (
          h.registers,
          h.strong,
          put_at_elim (λ n (held : Val). held ≡ Cell c → ⊥) state.weak at (state.registers me val)
              (λ is. h.registers me val (λ e. apart (sym e)) may.stands.is_active is) (λ n other is. h.weak n is),
          h.claims,
        );
      }))
  store_weak handle word _ none = absurd none

  pub retire : (op : Op) → MayRetire layout shapes w me (Some op) →
      RunningWave layout shapes (stepped layout shapes w me (RetireKind (Some op)))
  retire Retire may =
      plain_word layout shapes w me inside wave may.runner.runs may.between.duty may.between.owed may.between.growth
      Retire Done (λ c. refl) may.stands
      (put_at state.active me false) state.registers state.claims state.strong state.weak true region.Active me 0
      record {
        changes = refl;
        no_call = refl;
        settled = active_now layout shapes w wave me;
        becomes = refl;
        reads = Reading-retire layout shapes wave.words.settled state wave.words.reads me may.stands.is_mutator;
        alone = λ p apart. not_own region.Active refl refl refl refl refl p me;
        claims_else = λ p apart. refl;
        active_else = λ p apart. active_of p apart;
        leaves = inr may.between.sweeping;
        left_is = sym (ap not (ap (λ (b : Bool). if b then false else state.active me) (eq-eqb me me refl)));
        hidden = λ p c apart alive h. (
          (λ who register not_p active is. h.registers who register not_p (was_active who active) is),
          h.strong,
          h.weak,
          h.claims,
        );
      }
    where
      active_of : (p : ℕ) → p ≢ me → put_at state.active me false p ≡ state.active p
      active_of = put_at_elim (λ p (b : Bool). p ≢ me → b ≡ state.active p) state.active me false (λ apart.
          absurd (apart refl)) (λ p other apart. refl)

      was_active : (who : ℕ) → put_at state.active me false who ≡ true → state.active who ≡ true
      was_active = put_at_elim (λ who (b : Bool). b ≡ true → state.active who ≡ true) state.active me false (λ e.
          absurd (cc)) (λ who other e. e)
  retire _ none = absurd none
