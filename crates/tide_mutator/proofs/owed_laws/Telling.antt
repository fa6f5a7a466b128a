-- The end of a call: the call word tells it, and what was owed is paid.
use Rattle.std.proofs.Common.{ℕ, ◌≡◌, ◌<◌, ◌+◌, sym, ◌∙◌, ap, subst, true, List, [], ◌∷◌, length, None}
use Rattle.std.specs.Prelude.{◌%◌, ◌^◌}
use Rattle.std.proofs.Common.{length-append}
use Rattle.tide_heap.specs.tide_call.declared.action.Action.{Action}
use Rattle.tide_heap.specs.tide_core.machine.Entries.{call_of}
use Rattle.tide_heap.specs.tide_core.machine.Kind.{StoreCall}
use Rattle.tide_heap.specs.tide_core.declared.machine.view.Duty.TheVariants.{Nothing}
use Rattle.tide_heap.specs.tide_core.declared.machine.view.View.{View}
use Rattle.tide_model.specs.Layout.{Layout}
use Rattle.tide_model.specs.Refused.{ShapeLists}
use Rattle.tide_model.specs.declared.entry.Event.{Event}
use Rattle.tide_model.specs.declared.op.Op.{Op}
use Rattle.tide_model.specs.declared.op.Reply.{Reply}
use Rattle.tide_mutator.specs.owed.Calling.{IsCalling, Kept}
use Rattle.tide_mutator.specs.owed.Made.{HasDone, IsMade, Shown, shown}
use Rattle.tide_heap.specs.steps.Follows.{FollowsSome, MayStep}

module _ (layout : Layout) (shapes : ShapeLists) (op : Op) (does : Action) (reply : Reply) (v u : View)
    (calling : IsCalling layout v op) (made : IsMade layout shapes op does reply v (shown u)) where
  -- it still runs, as a mutator
  pub still_runs : u.runs ≡ true
  still_runs = ap (λ (k : Kept). k.runs) made.kept ∙ calling.runs

  pub still_mutator : u.who < layout.mutators
  still_mutator = subst (λ (n : ℕ). n < layout.mutators) (sym (ap (λ (k : Kept). k.who) made.kept)) calling.is_mutator

  -- one call more is made
  one_more : length u.mine ≡ length v.mine + 1
  one_more = ap (λ (l : List Event). length l) made.mine
      ∙ length-append v.mine (call_of v.who op reply made.took ∷ [])

  -- its call word may tell it
  pub may_tell : (word : ℕ) → word ≡ (length v.mine + 1) % 2 ^ 64 → MayStep layout shapes u (StoreCall word None)
  may_tell word counts w running is = (
    record {
      is_mutator = still_mutator;
      runs = ap (λ (x : View). x.runs) is ∙ still_runs;
    },
    counts ∙ ap (λ (n : ℕ). n % 2 ^ 64) (sym (ap (λ (x : View). length x.mine) is ∙ one_more)),
  )

  pub told_count : (word : ℕ) → word ≡ (length v.mine + 1) % 2 ^ 64 → word ≡ length u.mine % 2 ^ 64
  told_count word counts = counts ∙ ap (λ (n : ℕ). n % 2 ^ 64) (sym one_more)

  -- and then it is done
  pub done_by : (word : ℕ) (after : View) → FollowsSome layout shapes (StoreCall word None) u after → u.owed ≡ [] →
      u.duty ≡ Nothing → HasDone layout shapes op does reply v after
  done_by word after f owed duty = record {
    made = subst (λ (s : Shown). IsMade layout shapes op does reply v s) (sym (ap shown f.1.view)) made;
    owed = ap (λ (x : View). x.owed) f.1.view ∙ owed;
    duty = ap (λ (x : View). x.duty) f.1.view ∙ duty;
    calls = ap (λ (x : View). x.calls) f.1.view ∙ sym (ap (λ (x : View). length x.mine) f.1.view);
  }
