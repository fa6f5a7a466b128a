use Rattle.std.proofs.Common.{sym, ◌∙◌, ap, true, false}
use Rattle.std.specs.Prelude.{◌&&◌, nat_le, not}
use Rattle.tide_model.specs.declared.val.Val.{Val}
use Rattle.tide_model.specs.declared.op.Refusal.TheVariants.{PairsFull}
use Rattle.tide_model.specs.Refused.{has_pair, pair_count, pairs_most, refuse_if}
use Rattle.tide_call.specs.declared.action.Action.TheVariants.{StorePair}
use Rattle.tide_call.proofs.action_laws.PairPlaces.{place-for, place-granted, place-refused, place-slot}
use Rattle.tide_call.proofs.action_laws.RefusalLaws.{last_refusal}
use Rattle.tide_call.proofs.planner.Planner.plan_pair_set.Goals as goal

pub returns-in-Err : goal.returns-in-Err
returns-in-Err g c = record {
  action = λ heap state calls. c.in-Err.ensures.refused heap state calls (λ table key. refuse_if (not (has_pair state table key) && nat_le pairs_most (pair_count c.args.self.now.layout state table)) PairsFull);
  owns = c.pair_cells.ensures.owns;
}

pub returns-in_default : goal.returns-in_default
returns-in_default g c = record {
  action = λ heap state calls_then.
      let caller = c.args.self.now in
      let cells = c.in-Ok.cells in
      let found = c.in-Ok.ensures in
      let calls = c.pairs_of-words.ensures.owns.1 heap state calls_then in
      let words = c.pairs_of-words.result in
      found.granted heap state calls (λ table key. refuse_if (not (has_pair state table key) && nat_le pairs_most (pair_count caller.layout state table)) PairsFull)
      ∙ last_refusal (not (has_pair state cells.table cells.key) && nat_le pairs_most (pair_count caller.layout state cells.table)) true PairsFull
      (place-refused _ caller heap state calls cells.table words found.within found.is_table found.claimed
      (c.pairs_of-words.ensures.words heap state calls_then) cells.key c.in_default.ensures.absent c.in_default.ensures.full);
  owns = (
    c.pairs_of-words.ensures.owns.0,
    (λ heap state last. c.pair_cells.ensures.owns.1 heap state (c.pairs_of-words.ensures.owns.1 heap state last)),
    c.pairs_of-words.ensures.owns.2 ∙ c.pair_cells.ensures.owns.2,
  );
}

pub returns : goal.returns
returns g c = record {
  action = λ heap state last.
      let caller = c.args.self.now in
      let cells = c.in-Ok.cells in
      let found = c.in-Ok.ensures in
      let calls_then = c.value_in.ensures.owns.1 heap state last in
      let calls = c.pairs_of-words.ensures.owns.1 heap state calls_then in
      let words = c.pairs_of-words.result in
      let same = c.pairs_of-words.ensures.words heap state calls_then in
      let place = c.in-Some.place in
      let is = c.in-Some.ensures.place in (
        found.granted heap state calls (λ table key. refuse_if (not (has_pair state table key) && nat_le pairs_most (pair_count caller.layout state table)) PairsFull)
            ∙ last_refusal (not (has_pair state cells.table cells.key) && nat_le pairs_most (pair_count caller.layout state cells.table)) false PairsFull
            (place-granted _ caller heap state calls cells.table words found.within found.is_table found.claimed same cells.key place is),
        (
          cells.table,
          cells.key,
          place,
          found.table heap state calls,
          found.key heap state calls,
          place-slot _ caller heap state calls cells.table words found.within found.is_table found.claimed same cells.key place is,
          place-for _ caller heap state calls cells.table words found.within found.is_table found.claimed same cells.key place is,
          ap (λ (value : Val). StorePair cells.table place cells.key value) (sym (c.value_in.ensures.value heap state last)),
        ),
      );
  owns = (
    c.value_in.ensures.owns.0,
    (λ heap state last. c.pair_cells.ensures.owns.1 heap state
        (c.pairs_of-words.ensures.owns.1 heap state (c.value_in.ensures.owns.1 heap state last))),
    c.value_in.ensures.owns.2 ∙ c.pairs_of-words.ensures.owns.2 ∙ c.pair_cells.ensures.owns.2,
  );
}
