use Rattle.std.proofs.Common.{refl, ◌∙◌, ap, true, false}
use Rattle.std.specs.Prelude.{is_some, not}
use Rattle.tide_model.specs.declared.op.Refusal.TheVariants.{Absent}
use Rattle.tide_model.specs.Refused.{has_pair, refuse_if}
use Rattle.tide_call.proofs.action_laws.PairPlaces.{lacks-none, pair_slot, stands-here, stands-said}
use Rattle.tide_call.proofs.action_laws.RefusalLaws.{last_refusal}
use Rattle.tide_call.proofs.planner.Planner.plan_pair_delete.Goals as goal

pub returns-in-Err : goal.returns-in-Err
returns-in-Err g c = record {
  action = λ heap state calls. c.in-Err.ensures.refused heap state calls (λ table key. refuse_if (not (has_pair state table key)) Absent);
  owns = c.pair_cells.ensures.owns;
}

pub returns-in-Some : goal.returns-in-Some
returns-in-Some g c = record {
  action = λ heap state calls_then.
      let caller = c.args.self.now in
      let cells = c.in-Ok.cells in
      let found = c.in-Ok.ensures in
      let calls = c.pairs_of-words.ensures.owns.1 heap state calls_then in
      let same = c.pairs_of-words.ensures.words heap state calls_then in
      let said = stands-said _ caller heap state calls cells.table c.pairs_of-words.result found.within found.is_table found.claimed
      (c.pairs_of-words.ensures.words heap state calls_then) cells.key c.in-Some.pair.value c.in-Some.pair.place c.in-Some.ensures.stands in (
        found.granted heap state calls (λ table key. refuse_if (not (has_pair state table key)) Absent)
            ∙ last_refusal (not (has_pair state cells.table cells.key)) false Absent (ap not (ap is_some said)),
        (
          cells.table,
          cells.key,
          c.in-Some.pair.place,
          found.table heap state calls,
          found.key heap state calls,
          pair_slot _ caller heap state calls cells.table c.pairs_of-words.result found.within found.is_table found.claimed same
              c.in-Some.pair.place c.in-Some.ensures.stands.within,
          (
            c.in-Some.pair.value,
            stands-here _ caller heap state calls cells.table c.pairs_of-words.result found.within found.is_table found.claimed same cells.key
                c.in-Some.pair.value c.in-Some.pair.place c.in-Some.ensures.stands,
          ),
          refl,
        ),
      );
  owns = (
    c.pairs_of-words.ensures.owns.0,
    (λ heap state last. c.pair_cells.ensures.owns.1 heap state (c.pairs_of-words.ensures.owns.1 heap state last)),
    c.pairs_of-words.ensures.owns.2 ∙ c.pair_cells.ensures.owns.2,
  );
}

pub returns-in-None : goal.returns-in-None
returns-in-None g c = record {
  action = λ heap state calls_then.
      let caller = c.args.self.now in
      let cells = c.in-Ok.cells in
      let found = c.in-Ok.ensures in
      let calls = c.pairs_of-words.ensures.owns.1 heap state calls_then in
      let none = lacks-none _ caller heap state calls cells.table c.pairs_of-words.result found.within found.is_table found.claimed
      (c.pairs_of-words.ensures.words heap state calls_then) cells.key c.in-None.ensures.none in
      found.granted heap state calls (λ table key. refuse_if (not (has_pair state table key)) Absent)
      ∙ last_refusal (not (has_pair state cells.table cells.key)) true Absent (ap not (ap is_some none));
  owns = (
    c.pairs_of-words.ensures.owns.0,
    (λ heap state last. c.pair_cells.ensures.owns.1 heap state (c.pairs_of-words.ensures.owns.1 heap state last)),
    c.pairs_of-words.ensures.owns.2 ∙ c.pair_cells.ensures.owns.2,
  );
}
