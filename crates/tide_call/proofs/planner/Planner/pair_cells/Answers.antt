use Rattle.std.proofs.Common.{ℕ, sym, ◌∙◌, ap, List, [], ◌∷◌}
use Rattle.std.proofs.lemmas.Bool.{eq-eqb, ne_eqb}
use Rattle.std.proofs.lemmas.Result.{err_from_is_err_and}
use Rattle.std.specs.Prelude.{not}
use Rattle.tide_model.specs.Layout.{Layout, class_of}
use Rattle.tide_model.specs.Numbers.{is_among}
use Rattle.tide_model.specs.Refused.{first_of, holds, is_table, refusal_at, refuse_if}
use Rattle.tide_model.specs.declared.op.Refusal.TheVariants.{NotHeld, NotTable}
use Rattle.tide_call.proofs.action_laws.OwnLaws.{holds-claims}
use Rattle.tide_call.proofs.action_laws.RefusalLaws.{pair_refusal-key, pair_refusal-table, pair_refusal-held, pair_refusal-further}
use Rattle.tide_call.proofs.planner.Planner.pair_cells.Goals as goal

pub returns-in_err-table : goal.returns-in_err-table
returns-in_err-table g c =
    let failed = err_from_is_err_and c.from_residual.result c.from_residual.ensures.1 in
    rw (failed.1, failed.2) (record {
      refused = λ heap state calls further. c.in_err-table.ensures.refused heap state calls (λ t.
          refusal_at (state.registers c.args.self.now.who c.args.key) c.args.key (λ k. first_of (
          refuse_if (not (is_table c.args.self.now.layout t)) NotTable
          ∷ refuse_if (not (holds state c.args.self.now.who t)) NotHeld ∷ further t k ∷ [])));
      granted = tt;
      table = tt;
      key = tt;
      within = tt;
      is_table = tt;
      claimed = tt;
      owns = c.cell_in.ensures.owns;
    })

pub returns-in_err-key : goal.returns-in_err-key
returns-in_err-key g c =
    let failed = err_from_is_err_and c.from_residual-in_err-key.result c.from_residual-in_err-key.ensures.1 in
    rw (failed.1, failed.2) (record {
      refused = λ heap state calls further.
          pair_refusal-key c.args.self.now.layout state c.args.self.now.who c.args.src c.args.key c.in_ok-table.table further
          c.in_err-key.field-0.0 (c.in_ok-table.ensures.cell heap state (c.cell_in-2.ensures.owns.1 heap state calls))
          (c.in_err-key.ensures.refused heap state calls);
      granted = tt;
      table = tt;
      key = tt;
      within = tt;
      is_table = tt;
      claimed = tt;
      owns = (
        c.cell_in-2.ensures.owns.0,
        (λ heap state calls. c.cell_in.ensures.owns.1 heap state (c.cell_in-2.ensures.owns.1 heap state calls)),
        c.cell_in-2.ensures.owns.2 ∙ c.cell_in.ensures.owns.2,
      );
    })

pub returns-then-class_of-ne-TABLE : goal.returns-then-class_of-ne-TABLE
returns-then-class_of-ne-TABLE g c = record {
  refused = λ heap state calls further.
      let layout = c.args.self.now.layout in
      let table = c.in_ok-table.table in
      let class = c.class_of.ensures.class ∙ ap (λ (l : Layout). class_of l table) c.layout.ensures in
      pair_refusal-table layout state c.args.self.now.who c.args.src c.args.key table c.in_ok-key.key further
      (c.in_ok-table.ensures.cell heap state (c.cell_in-2.ensures.owns.1 heap state calls))
      (c.in_ok-key.ensures.cell heap state calls)
      (ne_eqb (class_of layout table) 4 (λ is. c.if-class_of-ne-TABLE.true (class ∙ is)));
  granted = tt;
  table = tt;
  key = tt;
  within = tt;
  is_table = tt;
  claimed = tt;
  owns = (
    c.cell_in-2.ensures.owns.0,
    (λ heap state calls. c.cell_in.ensures.owns.1 heap state (c.cell_in-2.ensures.owns.1 heap state calls)),
    c.cell_in-2.ensures.owns.2 ∙ c.cell_in.ensures.owns.2,
  );
}

pub returns-then-not-contains : goal.returns-then-not-contains
returns-then-not-contains g c = record {
  refused = λ heap state calls further.
      let layout = c.args.self.now.layout in
      let table = c.in_ok-table.table in
      let class = c.class_of.ensures.class ∙ ap (λ (l : Layout). class_of l table) c.layout.ensures in
      pair_refusal-held layout state c.args.self.now.who c.args.src c.args.key table c.in_ok-key.key further
      (c.in_ok-table.ensures.cell heap state (c.cell_in-2.ensures.owns.1 heap state calls))
      (c.in_ok-key.ensures.cell heap state calls)
      (eq-eqb (class_of layout table) 4 (sym class ∙ c.if-class_of-ne-TABLE.false))
      (holds-claims _ c.args.self.now heap state calls table
      ∙ ap (λ (l : List ℕ). is_among l table) (sym c.claims.ensures) ∙ sym c.contains.ensures ∙ c.if-not-contains.true);
  granted = tt;
  table = tt;
  key = tt;
  within = tt;
  is_table = tt;
  claimed = tt;
  owns = (
    c.cell_in-2.ensures.owns.0,
    (λ heap state calls. c.cell_in.ensures.owns.1 heap state (c.cell_in-2.ensures.owns.1 heap state calls)),
    c.cell_in-2.ensures.owns.2 ∙ c.cell_in.ensures.owns.2,
  );
}

pub returns : goal.returns
returns g c = record {
  refused = tt;
  granted = λ heap state calls further.
      let layout = c.args.self.now.layout in
      let table = c.in_ok-table.table in
      let class = c.class_of.ensures.class ∙ ap (λ (l : Layout). class_of l table) c.layout.ensures in
      pair_refusal-further layout state c.args.self.now.who c.args.src c.args.key table c.in_ok-key.key further
      (c.in_ok-table.ensures.cell heap state (c.cell_in-2.ensures.owns.1 heap state calls))
      (c.in_ok-key.ensures.cell heap state calls)
      (eq-eqb (class_of layout table) 4 (sym class ∙ c.if-class_of-ne-TABLE.false))
      (holds-claims _ c.args.self.now heap state calls table
      ∙ ap (λ (l : List ℕ). is_among l table) (sym c.claims.ensures) ∙ sym c.contains.ensures ∙ c.if-not-contains.false);
  table = λ heap state calls.
      c.in_ok-table.ensures.cell heap state (c.cell_in-2.ensures.owns.1 heap state calls);
  key = c.in_ok-key.ensures.cell;
  within = c.in_ok-table.ensures.within;
  is_table =
      let layout = c.args.self.now.layout in
      eq-eqb (class_of layout c.in_ok-table.table) 4
      (sym (c.class_of.ensures.class ∙ ap (λ (l : Layout). class_of l c.in_ok-table.table) c.layout.ensures) ∙ c.if-class_of-ne-TABLE.false);
  claimed = ap (λ (l : List ℕ). is_among l c.in_ok-table.table) (sym c.claims.ensures) ∙ sym c.contains.ensures ∙ c.if-not-contains.false;
  owns = (
    c.cell_in-2.ensures.owns.0,
    (λ heap state calls. c.cell_in.ensures.owns.1 heap state (c.cell_in-2.ensures.owns.1 heap state calls)),
    c.cell_in-2.ensures.owns.2 ∙ c.cell_in.ensures.owns.2,
  );
}
