-- Strong handles are emptied one after another.
use Rattle.std.proofs.Common.{ℕ, ◌≡◌, ◌≢◌, arith, refl, sym, ◌∙◌, ap, List, [], length}
use Rattle.std.proofs.lemmas.Bool.{ne_eqb}
use Rattle.tide_heap.specs.tide_core.declared.machine.view.View.{View}
use Rattle.tide_model.specs.Caller.{MakesCall}
use Rattle.tide_model.specs.History.{state_after}
use Rattle.tide_model.specs.Layout.{Layout}
use Rattle.tide_model.specs.Refused.{ShapeLists}
use Rattle.tide_model.specs.declared.op.Op.TheVariants.{StrongSet}
use Rattle.tide_model.specs.declared.op.Reply.{Reply}
use Rattle.tide_model.specs.declared.val.Val.{Val}
use Rattle.tide_model.specs.declared.val.Val.TheVariants.{Empty}
use Rattle.tide_weakref.proofs.CallLaws.{strong_same}
use Rattle.tide_weakref.proofs.OperationLaws.{strong_put}
use Rattle.tide_weakref.proofs.StandingLaws.{holds_nothing}
use Rattle.tide_weakref.proofs.StepLaws.{adv, held_kept, kept_now, scratch_kept, step_holds, step_set}
use Rattle.tide_weakref.specs.Handles.{IsIn}
use Rattle.tide_weakref.specs.Jobs.{HasKeptJobs, Jobs, OthersSpare}
use Rattle.tide_weakref.specs.Stepping.{held_in}

module _ (layout : Layout) (shapes : ShapeLists) (v u : View) (reply : Reply) (same : u.who ≡ v.who) (handle src : ℕ)
    (makes : MakesCall layout shapes v.who (StrongSet handle src) reply v.seen u.seen v.mine u.mine) where
  -- a strong handle that is set to an empty register is empty
  pub emptied_here : held_in layout v src ≡ Empty → (state_after layout u.seen).strong handle ≡ Empty
  emptied_here bare = strong_put layout shapes v.who reply v.seen u.seen v.mine handle src
      (adv layout shapes v u (StrongSet handle src) reply same makes) makes.were_own ∙ bare

  -- and another one of the realm stays so
  pub emptied_still : (jobs : Jobs) (other : ℕ) → other ≢ handle → IsIn jobs.strong other → OthersSpare v.who jobs u.seen →
      (state_after layout v.seen).strong other ≡ Empty → (state_after layout u.seen).strong other ≡ Empty
  emptied_still jobs other apart within spare is = strong_same layout shapes v.who (StrongSet handle src) reply v.seen u.seen v.mine
      (adv layout shapes v u (StrongSet handle src) reply same makes) jobs.strong jobs.weak other spare within
      (ne_eqb handle other (λ e. apart (sym e))) ∙ is

  -- a realm that keeps no cell keeps its jobs
  pub kept_still : (jobs : Jobs) → jobs.cells ≡ [] → HasKeptJobs layout v jobs → HasKeptJobs layout u jobs
  kept_still jobs none kept = kept_now layout u jobs (record {
    holds = step_holds layout shapes v u (StrongSet handle src) reply same makes jobs (held_kept layout v jobs kept)
        (record {
          uses = λ k d below. refl;
          cells = λ place below. absurd (let few = ap (λ (l : List ℕ). length l) none in omega (arith, below, few));
        });
    scratch = ap (λ (f : ℕ → Val). f jobs.scratch)
        (step_set layout shapes v u (StrongSet handle src) reply same makes (λ o r. refl))
        ∙ scratch_kept layout v jobs kept makes.were_own;
  })

-- where its cells aren't kept any more, it kept its jobs
pub kept_nothing : (layout : Layout) (v : View) (jobs : Jobs) → HasKeptJobs layout v jobs →
    HasKeptJobs layout v (record jobs { cells = [] })
kept_nothing layout v jobs kept = record {
  at = kept.at;
  earlier = kept.earlier;
  keeps = record {
    holds = holds_nothing layout v.who jobs kept.at v.mine kept.keeps.holds;
    scratch = kept.keeps.scratch;
  };
}
