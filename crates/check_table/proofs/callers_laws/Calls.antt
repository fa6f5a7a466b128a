-- That a mutator may make its calls, whatever the machine is then.
use Rattle.std.proofs.Common.{ℕ, ◌≡◌, ◌%◌, ◌^◌, refl, sym, ◌∙◌, ap, subst, true, false, List, [], length, ◌<◌, None}
use Rattle.std.proofs.lemmas.Bool.{eq-eqb}
use Rattle.std.specs.Prelude.{Bool, if◌then◌else◌}
use Rattle.check_table.specs.callers.Working.{IsReady, set_calls}
use Rattle.tide_heap.proofs.tide_core.machine_laws.steps.OwnState.{own_state}
use Rattle.tide_heap.specs.tide_core.machine.Kind.{StoreCall}
use Rattle.tide_heap.specs.tide_core.machine.May.{RunsAsMutator, MayCall, IsBetweenCalls}
use Rattle.tide_heap.specs.tide_core.machine.Own.{Own, own_of}
use Rattle.tide_heap.specs.tide_core.machine.RunningWave.{RunningWave}
use Rattle.tide_heap.specs.tide_core.machine.World.{World}
use Rattle.tide_heap.specs.tide_core.declared.machine.view.View.{View}
use Rattle.tide_model.specs.Answer.{IsAnswer}
use Rattle.tide_model.specs.History.{state_after}
use Rattle.tide_model.specs.Lawful.{FitsLayout}
use Rattle.tide_model.specs.Layout.{Layout}
use Rattle.tide_model.specs.Numbers.{put_at}
use Rattle.tide_model.specs.Refused.{ShapeLists}
use Rattle.tide_model.specs.State.{State}
use Rattle.tide_model.specs.declared.entry.Event.{Event}
use Rattle.tide_model.specs.declared.op.Op.{Op}
use Rattle.tide_model.specs.declared.op.Reply.TheVariants.{Done}
use Rattle.tide_model.specs.declared.val.Val.TheVariants.{Empty, Int}
use Rattle.tide_heap.specs.steps.Follows.{FollowsSome, MayStep}

-- what is its own follows from its calls
pub own_now : (layout : Layout) (shapes : ShapeLists) (v : View) (mine : List Event) → v.mine ≡ mine → (w : World) →
    RunningWave layout shapes w → w.part v.who ≡ v →
    own_of v.who (state_after layout w.log) ≡ own_of v.who (state_after layout mine)
own_now layout shapes v mine made w running is =
    own_state layout v.who w.log
    ∙ ap (λ (l : List Event). own_of v.who (state_after layout l))
    (running.known.own v.who ∙ ap (λ (u : View). u.mine) is ∙ made)

pub runner : (layout : Layout) (v : View) → v.who < layout.mutators → v.runs ≡ true → (w : World) →
    w.part v.who ≡ v → RunsAsMutator layout w v.who
runner layout v mutator runs w is = record { is_mutator = mutator; runs = ap (λ (u : View). u.runs) is ∙ runs }

-- a call that is done and changes nothing of others may be made, where its mutator is active and it is granted
pub may_call : (layout : Layout) (shapes : ShapeLists) (v : View) (mine : List Event) (op : Op) →
    IsReady layout v mine false → (state_after layout mine).active v.who ≡ true → FitsLayout layout op →
    ((s : State) → own_of v.who s ≡ own_of v.who (state_after layout mine) → IsAnswer layout shapes s v.who op Done None) →
    (w : World) → RunningWave layout shapes w → w.part v.who ≡ v → MayCall layout shapes w v.who op Done None
may_call layout shapes v mine op ready active fits granted w running is = record {
  runner = runner layout v ready.is_mutator ready.runs w is;
  between = subst IsBetweenCalls (sym is) ready.rests.between;
  stands = record {
    is_mutator = ready.is_mutator;
    is_active = ap (λ (o : Own). o.active) own ∙ active;
    fits = fits;
    answers = granted (state_after layout w.log) own;
    room = λ class full. absurd (cc);
  };
}
  where
    own : own_of v.who (state_after layout w.log) ≡ own_of v.who (state_after layout mine)
    own = own_now layout shapes v mine ready.made w running is

-- the register that was set holds its number
pub seven : (layout : Layout) (who : ℕ) → (state_after layout (set_calls who)).registers who 0 ≡ Int 7
seven layout who =
    ap (λ (b : Bool). (if b then put_at (λ (r : ℕ). Empty) 0 (Int 7) else (λ (r : ℕ). Empty)) 0) (eq-eqb who who refl)

-- a view without what a call and its call word change
abbrev pub between_calls : View → View
between_calls v = record v { seen = []; mine = []; calls = 0; found = 0; owed = []; known = []; full = []; left = false }

-- what the store of its call word leaves, after a step that made a call and owes no other word
pub told_ready : (layout : Layout) (shapes : ShapeLists) (v u t : View) (before mine : List Event) (left : Bool) (word : ℕ) →
    IsReady layout v before false → between_calls u ≡ between_calls v → u.owed ≡ [] → u.mine ≡ mine → u.left ≡ left →
    FollowsSome layout shapes (StoreCall word None) u t → IsReady layout t mine left
told_ready layout shapes v u t before mine left word ready same owed made leaves f =
    let told = f.1.view in
    let all : between_calls t ≡ between_calls v = ap between_calls told ∙ same in record {
      runs = ap (λ (x : View). x.runs) all ∙ ready.runs;
      is_mutator = subst (λ (n : ℕ). n < layout.mutators) (sym (ap (λ (x : View). x.who) all)) ready.is_mutator;
      rests = record {
        held = ap (λ (x : View). x.held) all ∙ ready.rests.held;
        scan = ap (λ (x : View). x.scan) all ∙ ready.rests.scan;
        between = record {
          owed = ap (λ (x : View). x.owed) told ∙ owed;
          duty = ap (λ (x : View). x.duty) all ∙ ready.rests.between.duty;
          growth = ap (λ (x : View). x.growth) all ∙ ready.rests.between.growth;
          sweeping = ap (λ (x : View). x.sweeping) all ∙ ready.rests.between.sweeping;
          calls = ap (λ (x : View). x.calls) told ∙ sym (ap (λ (x : View). length x.mine) told);
        };
      };
      made = ap (λ (x : View). x.mine) told ∙ made;
      is_left = ap (λ (x : View). x.left) told ∙ leaves;
    }

-- and the call word may be stored, with how many calls there are
pub may_tell : (layout : Layout) (shapes : ShapeLists) (v u : View) (before mine : List Event) (word : ℕ) →
    IsReady layout v before false → between_calls u ≡ between_calls v → u.mine ≡ mine → word ≡ length mine % 2 ^ 64 →
    MayStep layout shapes u (StoreCall word None)
may_tell layout shapes v u before mine word ready same made counts w running is = (
  runner layout u (subst (λ (n : ℕ). n < layout.mutators) (sym (ap (λ (x : View). x.who) same)) ready.is_mutator)
      (ap (λ (x : View). x.runs) same ∙ ready.runs) w is,
  counts ∙ ap (λ (l : List Event). length l % 2 ^ 64) (sym (ap (λ (x : View). x.mine) is ∙ made)),
)
