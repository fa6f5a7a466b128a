-- A realm that has nothing kept its jobs before the first call.
use Rattle.std.proofs.Common.{◌≡◌, ◌∙◌, refl, sym, subst, arith}
use Rattle.tide.specs.tide_core.declared.machine.view.View.{View}
use Rattle.tide.specs.tide_model.Caller.{IsOwn}
use Rattle.tide.specs.tide_model.declared.val.Val.TheVariants.{Empty}
use Rattle.tide.specs.tide_weakref.Jobs.{IsOfLayout, registers_of}
use Rattle.embed_weakref.proofs.parts.new_realm.Goals as goal

pub returns-clause-view : goal.returns-clause-view
returns-clause-view c = c.in_ok-realm.ensures.same.2 ∙ c.new.ensures.view ∙ c.requires.newcomer

pub returns-clause-kept : goal.returns-clause-kept
returns-clause-kept c = λ layout own.
    let is = returns-clause-view c in
    let kept = c.requires.few.0 in
    let refs = c.requires.few.1 in
    let registers = own.0 in
    let strong = own.1 in
    let weak = own.2 in
    c.in_ok-realm.ensures.kept_jobs layout
    (subst (IsOfLayout layout) (sym c.in_ok-realm.ensures.jobs) (record {
      scratch = omega (arith, registers);
      strong = omega (arith, kept, strong);
      weak = omega (arith, refs, weak);
    }))
    (subst (λ (v : View). IsOwn v.who v.seen v.mine) (sym is) refl)
    (subst (λ (v : View). registers_of layout v.who v.seen 3 ≡ Empty) (sym is) refl)
