-- What a call still does after its entry: the register that it filled is stored, and the call word tells the call.
use Rattle.std.proofs.Common.{ℕ, ◌≡◌, ◌<◌, refl, sym, ◌∙◌, ap, subst, true, false, Bool, List, [], ◌∷◌, length, arith, None, Some}
use Rattle.std.proofs.lemmas.Bool.{eq-eqb}
use Rattle.std.specs.Prelude.{Contains, if◌then◌else◌, not, ◌==◌, ◌%◌, ◌^◌}
use Rattle.tide_heap.specs.tide_call.declared.action.Action.{Action}
use Rattle.tide_heap.specs.tide_layout.Region.{index_of_register}
use Rattle.tide_heap.specs.tide_layout.declared.region.Region.TheVariants.{Registers}
use Rattle.tide_heap.specs.tide_core.machine.Kind.{StoreCall, StoreRegister}
use Rattle.tide_heap.specs.tide_core.machine.Owed.{owed_register, owed_word, without_word}
use Rattle.tide_heap.specs.tide_core.declared.machine.view.Duty.TheVariants.{Nothing}
use Rattle.tide_heap.specs.tide_core.declared.machine.view.Owed.{Owed}
use Rattle.tide_heap.specs.tide_core.declared.machine.view.View.{View}
use Rattle.tide_model.specs.Layout.{Layout}
use Rattle.tide_model.specs.Refused.{ShapeLists}
use Rattle.tide_model.specs.declared.op.Op.{Op}
use Rattle.tide_model.specs.declared.op.Reply.{Reply}
use Rattle.tide_model.specs.declared.val.Val.{Val}
use Rattle.tide_mutator.proofs.owed_laws.Telling.{still_mutator, still_runs}
use Rattle.tide_mutator.specs.owed.Calling.{IsCalling, Kept}
use Rattle.tide_mutator.specs.owed.Made.{HasDone, HasMade, IsMade, Shown, shown}
use Rattle.tide_mutator.specs.owed.Paying.{HasPaid, OwesRegister}
use Rattle.tide_heap.specs.steps.Follows.{FollowsSome, MayStep}
use Rattle.tide_heap.specs.tide_words.forms.ValueWord.{val_word}

-- a word that was owed alone is owed no more
pub owes_none : (index word : ℕ) → without_word Registers index (owed_word Registers index word ∷ []) ≡ []
owes_none index word = by_test (index == index) (eq-eqb index index refl)
  where
    by_test : (b : Bool) → b ≡ true → (if not b then owed_word Registers index word ∷ [] else []) ≡ []
    by_test true is = refl
    by_test false is = absurd (cc)

module _ (layout : Layout) (shapes : ShapeLists) (v : View) (dst : ℕ) (value : Val)
    (owing : OwesRegister layout v dst value) where
  pub may_pay : (word : ℕ) → word ≡ val_word value → MayStep layout shapes v (StoreRegister dst word None)
  may_pay word same w running is = (
    record { is_mutator = owing.is_mutator; runs = ap (λ (x : View). x.runs) is ∙ owing.runs },
    subst (λ (l : List Owed). Contains l (owed_word Registers (index_of_register layout v.who dst) word))
        (sym (ap (λ (x : View). x.owed) is ∙ owing.owed))
        (0, omega arith, ap (owed_word Registers (index_of_register layout v.who dst)) (sym same)),
  )

  module _ (u : View) (word : ℕ) (f : FollowsSome layout shapes (StoreRegister dst word None) v u) where
    pub runs_still : u.runs ≡ true
    runs_still = ap (λ (x : View). x.runs) f.1.view ∙ owing.runs

    pub mutator_still : u.who < layout.mutators
    mutator_still = subst (λ (n : ℕ). n < layout.mutators) (sym (ap (λ (x : View). x.who) f.1.view)) owing.is_mutator

    pub may_count : (calls : ℕ) → calls ≡ length v.mine % 2 ^ 64 → MayStep layout shapes u (StoreCall calls None)
    may_count calls counts w running is = (
      record { is_mutator = mutator_still; runs = ap (λ (x : View). x.runs) is ∙ runs_still },
      counts ∙ ap (λ (n : ℕ). n % 2 ^ 64)
          (sym (ap (λ (x : View). length x.mine) is ∙ ap (λ (x : View). length x.mine) f.1.view)),
    )

    pub paid_by : (calls : ℕ) (after : View) → FollowsSome layout shapes (StoreCall calls None) u after →
        HasPaid v after
    paid_by calls after h = record {
      shown = ap shown h.1.view ∙ ap shown f.1.view;
      owed = ap (λ (x : View). x.owed) h.1.view ∙ ap (λ (x : View). x.owed) f.1.view
          ∙ ap (without_word Registers (index_of_register layout v.who dst)) owing.owed
          ∙ owes_none (index_of_register layout v.who dst) (val_word value);
      duty = ap (λ (x : View). x.duty) h.1.view ∙ ap (λ (x : View). x.duty) f.1.view ∙ owing.duty;
      calls = ap (λ (x : View). x.calls) h.1.view ∙ sym (ap (λ (x : View). length x.mine) h.1.view);
    }

module _ (layout : Layout) (shapes : ShapeLists) (op : Op) (does : Action) (reply : Reply) (v u : View)
    (calling : IsCalling layout v op) where
  -- a call that owes the value of its register, and nothing else
  pub owes_register : (dst : ℕ) (value : Val) →
      HasMade layout shapes op does reply v u (owed_register layout v.who (Some dst) value) Nothing →
      OwesRegister layout u dst value
  owes_register dst value made = record {
    is_mutator = still_mutator layout shapes op does reply v u calling made.made;
    runs = still_runs layout shapes op does reply v u calling made.made;
    owed = made.owed ∙ ap (λ (n : ℕ). owed_register layout n (Some dst) value)
        (sym (ap (λ (k : Kept). k.who) made.made.kept));
    duty = made.duty;
  }

  -- once it is paid the call is done
  pub done_paid : IsMade layout shapes op does reply v (shown u) → (after : View) → HasPaid u after →
      HasDone layout shapes op does reply v after
  done_paid made after paid = record {
    made = subst (λ (s : Shown). IsMade layout shapes op does reply v s) (sym paid.shown) made;
    owed = paid.owed;
    duty = paid.duty;
    calls = paid.calls;
  }
