use Rattle.std.proofs.Common.{ℕ, sym, ◌∙◌, subst}
use Rattle.tide_call.specs.declared.action.Action.TheVariants.{StoreElement}
use Rattle.tide_words.specs.tide_layout.Slots.{HasElement}
use Rattle.tide_call.proofs.planner.Planner.plan_set_property.Goals as goal

pub returns-in-Err : goal.returns-in-Err
returns-in-Err g c = record {
  action = c.in-Err.ensures.refused;
  owns = c.find_property.ensures.owns;
}

pub returns-in-Ok : goal.returns-in-Ok
returns-in-Ok g c = record {
  action = λ heap state last.
      let found = c.in-Ok.found in
      let is = c.in-Ok.ensures.property heap state (c.value_in.ensures.owns.1 heap state last) in (
        is.granted,
        (
          found.cell,
          found.array,
          is.holder,
          is.is_array,
          subst (λ (place : ℕ). HasElement c.args.self.now.layout found.array place) is.is_place is.has,
          (λ i. StoreElement found.cell found.array (is.is_place i) (sym (c.value_in.ensures.value heap state last) i)),
        ),
      );
  owns = (
    c.value_in.ensures.owns.0,
    (λ heap state last. c.find_property.ensures.owns.1 heap state (c.value_in.ensures.owns.1 heap state last)),
    c.value_in.ensures.owns.2 ∙ c.find_property.ensures.owns.2,
  );
}
