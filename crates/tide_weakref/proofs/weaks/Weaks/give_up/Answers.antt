-- What is meant is taken out, and counted.
use Rattle.std.proofs.lemmas.List.Edits.{length-remove}
use Rattle.std.proofs.Common.{◌<◌, ◌+◌, ◌∙◌, arith, refl, subst, sym, ap, length, List}
use Rattle.tide_weakref.proofs.WeakLaws.{Passed, got_index, passed_all, passed_by, passed_few, passed_none, passed_out}
use Rattle.tide_weakref.specs.Roles.{is_chosen}
use Rattle.tide_weakref.specs.declared.weak.Weak.{Weak}
use Rattle.tide_weakref.proofs.weaks.Weaks.give_up.Goals as goal

pub passing-init : goal.passing-init
passing-init c = record { passed = passed_none (is_chosen c.args.chosen) c.args.self.now.uses.items; handles = refl }

pub overflow_add-count : goal.overflow_add-count
overflow_add-count c =
    let few = passed_few (is_chosen c.args.chosen) c.args.self.now.uses.items c.passing.self.uses.items c.passing.place c.passing.count
    c.passing.invariant.passed in
    let all = c.args.self.now.all in
    omega (arith, few, all)

-- the one at the place is taken out, where it is meant
pub passing-preserved-then-is_chosen : goal.passing-preserved-then-is_chosen
passing-preserved-then-is_chosen c =
    let test = is_chosen c.args.chosen in
    let old = c.args.self.now.uses.items in
    let now = c.passing.self.uses.items in
    let place = c.passing.place in
    let below : place < length now = (let within = c.passing-test.true in let long = c.len.ensures in omega (arith, within, long)) in
    let got = got_index now place c.index.result.now below c.index.ensures in
    record {
      passed = subst (λ (l : List Weak). Passed test old l place (c.passing.count + 1)) (sym c.remove.ensures.uses)
          (passed_out test old now place c.passing.count c.passing.invariant.passed c.index.result.now got
          (sym c.is_chosen.ensures ∙ c.if-is_chosen.true));
      handles = c.remove.ensures.handles ∙ c.passing.invariant.handles;
    }

pub passing-smaller-then-is_chosen : goal.passing-smaller-then-is_chosen
passing-smaller-then-is_chosen c =
    let now = c.passing.self.uses.items in
    let below : c.passing.place < length now = (let within = c.passing-test.true in let long = c.len.ensures in omega (arith, within, long)) in
    let less = length-remove now c.passing.place below in
    let same = ap (λ (l : List Weak). length l) c.remove.ensures.uses in
    omega (arith, below, less, same)

-- and is left where it isn't
pub passing-preserved : goal.passing-preserved
passing-preserved c =
    let test = is_chosen c.args.chosen in
    let old = c.args.self.now.uses.items in
    let now = c.passing.self.uses.items in
    let place = c.passing.place in
    let below : place < length now = (let within = c.passing-test.true in let long = c.len.ensures in omega (arith, within, long)) in
    record {
      passed = passed_by test old now place c.passing.count c.passing.invariant.passed c.index.result.now
          (got_index now place c.index.result.now below c.index.ensures) (sym c.is_chosen.ensures ∙ c.if-is_chosen.false);
      handles = c.passing.invariant.handles;
    }

pub returns-clause-uses : goal.returns-clause-uses
returns-clause-uses c =
    let test = c.passing-test.false in
    let long = c.len.ensures in
    (passed_all (is_chosen c.args.chosen) c.args.self.now.uses.items c.passing.self.uses.items c.passing.place c.passing.count
    c.passing.invariant.passed (omega (arith, test, long))).0

pub returns-clause-count : goal.returns-clause-count
returns-clause-count c =
    let test = c.passing-test.false in
    let long = c.len.ensures in
    (passed_all (is_chosen c.args.chosen) c.args.self.now.uses.items c.passing.self.uses.items c.passing.place c.passing.count
    c.passing.invariant.passed (omega (arith, test, long))).1
