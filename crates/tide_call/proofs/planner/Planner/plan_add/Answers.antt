use Rattle.std.proofs.Common.{ℕ, ◌≡◌, ◌+◌, ◌<◌, arith, sym, ◌∙◌, ap, subst, false, None, Some, inl, inr}
use Rattle.tide_model.specs.declared.val.Val.{Val}
use Rattle.tide_model.specs.Applied.{is_array_full}
use Rattle.tide_model.specs.Layout.{array_class_for}
use Rattle.tide_shape.proofs.CapacityLaws.{has_room-at, is_array_full-at}
use Rattle.tide_model.specs.declared.op.Op.TheVariants.{Add}
use Rattle.tide_call.specs.declared.action.Action.{Action}
use Rattle.tide_call.specs.declared.action.Action.TheVariants.{Append, Grow}
use Rattle.tide_call.specs.Actions.{IsAction}
use Rattle.tide_call.proofs.action_laws.AdditionRoom.{full-none}
use Rattle.tide_call.proofs.action_laws.OwnLaws.{claimed_is_live}
use Rattle.tide_call.proofs.reading_laws.ArrayRoom.{HasElement-next}
use Rattle.tide_call.proofs.planner.Planner.plan_add.Goals as goal

-- a number that is below a bound is so by another name
subst_below : {n m : ℕ} → n ≡ m → n < 64 → m < 64
subst_below {n} {m} same below = omega (arith, same, below)

pub returns-in-Err : goal.returns-in-Err
returns-in-Err g c = record {
  action = λ heap state calls. c.in-Err.ensures.refused heap state calls c.args.val;
  owns = c.find_addition.ensures.owns;
}

pub returns : goal.returns
returns g c = record {
  action = λ heap state last.
      let caller = c.args.self.now in
      let addition = c.in-Ok.addition in
      let calls_then = c.array_of.ensures.owns.1 heap state last in
      let calls = c.value_in-value.ensures.owns.1 heap state calls_then in
      let is = c.in-Ok.ensures.addition heap state calls in
      let live = claimed_is_live _ caller heap state calls addition.cell c.in-Ok.ensures.claimed in
      let counted = c.from-count.ensures ∙ is.is_count in
      let few = c.in-Ok.ensures.few in
      let own = c.in-Some.ensures.array heap state last in
      let room : is_array_full (state.cells addition.cell) ≡ false = has_room-at (state.cells addition.cell) c.from-count.result counted
      (subst_below (sym c.from-count.ensures) few) (λ full. c.if-count-capacity.false (full ∙ sym c.capacity.ensures)) in (
        c.in-Ok.ensures.granted heap state calls c.args.val,
        (
          addition,
          c.in-Ok.ensures.cell heap state calls,
          is,
          inl (
            c.in-Some.array,
            record {
              is_its = own;
              has = HasElement-next caller.layout heap (state.cells addition.cell) c.in-Some.array own
                  ((calls.reads.parts.cells addition.cell c.in-Ok.ensures.within).properties live) room;
              not_full = room;
            },
            ap (λ (value : Val). Append addition c.in-Some.array value) (sym (c.value_in-value.ensures.value heap state calls_then)),
          ),
        ),
      );
  owns = (
    c.array_of.ensures.owns.0,
    (λ heap state last. c.find_addition.ensures.owns.1 heap state
        (c.value_in-value.ensures.owns.1 heap state (c.array_of.ensures.owns.1 heap state last))),
    c.array_of.ensures.owns.2 ∙ c.value_in-value.ensures.owns.2 ∙ c.find_addition.ensures.owns.2,
  );
}

pub returns-then-count-capacity : goal.returns-then-count-capacity
returns-then-count-capacity g c = record {
  action = λ heap state last.
      let caller = c.args.self.now in
      let addition = c.in-Ok.addition in
      let calls_then = c.array_of.ensures.owns.1 heap state last in
      let calls = c.value_in-value.ensures.owns.1 heap state calls_then in
      let is = c.in-Ok.ensures.addition heap state calls in
      let counted = c.from-count.ensures ∙ is.is_count in
      subst (λ (action : Action). IsAction caller heap state (Add c.args.src c.args.key c.args.val) action) (sym c.growth-then-count-capacity.ensures) (
        c.in-Ok.ensures.granted heap state calls c.args.val,
        (
          addition,
          c.in-Ok.ensures.cell heap state calls,
          is,
          inr (
            array_class_for (addition.count + 1),
            Some c.in-Some.array,
            record {
              is_its = c.in-Some.ensures.array heap state last;
              full = is_array_full-at (state.cells addition.cell) c.from-count.result counted (subst_below (sym c.from-count.ensures) c.in-Ok.ensures.few)
                  (c.if-count-capacity.true ∙ c.capacity.ensures);
              is_class = ap (λ (count : ℕ). array_class_for (count + 1)) is.is_count;
            },
            ap (λ (value : Val). Grow addition (Some c.in-Some.array) (array_class_for (addition.count + 1)) value)
                (sym (c.value_in-value.ensures.value heap state calls_then)),
          ),
        ),
      );
  owns = (
    c.array_of.ensures.owns.0,
    (λ heap state last. c.find_addition.ensures.owns.1 heap state
        (c.value_in-value.ensures.owns.1 heap state (c.array_of.ensures.owns.1 heap state last))),
    c.array_of.ensures.owns.2 ∙ c.value_in-value.ensures.owns.2 ∙ c.find_addition.ensures.owns.2,
  );
}

pub returns-in_default : goal.returns-in_default
returns-in_default g c = record {
  action = λ heap state last.
      let caller = c.args.self.now in
      let addition = c.in-Ok.addition in
      let calls_then = c.array_of.ensures.owns.1 heap state last in
      let calls = c.value_in-value.ensures.owns.1 heap state calls_then in
      let is = c.in-Ok.ensures.addition heap state calls in
      let own = c.in_default.ensures.array heap state last in
      let live = claimed_is_live _ caller heap state calls addition.cell c.in-Ok.ensures.claimed in
      subst (λ (action : Action). IsAction caller heap state (Add c.args.src c.args.key c.args.val) action) (sym c.growth.ensures) (
        c.in-Ok.ensures.granted heap state calls c.args.val,
        (
          addition,
          c.in-Ok.ensures.cell heap state calls,
          is,
          inr (
            array_class_for (addition.count + 1),
            None,
            record {
              is_its = own;
              full = full-none caller.layout heap (state.cells addition.cell) own
                  ((calls.reads.parts.cells addition.cell c.in-Ok.ensures.within).properties live);
              is_class = ap (λ (count : ℕ). array_class_for (count + 1)) is.is_count;
            },
            ap (λ (value : Val). Grow addition None (array_class_for (addition.count + 1)) value)
                (sym (c.value_in-value.ensures.value heap state calls_then)),
          ),
        ),
      );
  owns = (
    c.array_of.ensures.owns.0,
    (λ heap state last. c.find_addition.ensures.owns.1 heap state
        (c.value_in-value.ensures.owns.1 heap state (c.array_of.ensures.owns.1 heap state last))),
    c.array_of.ensures.owns.2 ∙ c.value_in-value.ensures.owns.2 ∙ c.find_addition.ensures.owns.2,
  );
}
