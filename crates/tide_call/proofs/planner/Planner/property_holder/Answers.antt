-- What refuses an operation on properties of the cell of a register, by the tests of that cell.
use Rattle.std.proofs.Common.{ℕ, sym, ◌∙◌, ap, List}
use Rattle.std.proofs.lemmas.Bool.{eq-eqb, ne_eqb}
use Rattle.tide_model.specs.Layout.{Layout, class_of}
use Rattle.tide_model.specs.Numbers.{is_among}
use Rattle.tide_call.proofs.action_laws.OwnLaws.{holds-claims}
use Rattle.tide_call.proofs.action_laws.RefusalLaws.{holder_refusal-table, holder_refusal-held, holder_refusal-further}
use Rattle.tide_call.proofs.planner.Planner.property_holder.Goals as goal

pub returns-then-class_of-eq-TABLE : goal.returns-then-class_of-eq-TABLE
returns-then-class_of-eq-TABLE g c = record {
  refused = λ heap state calls further.
      let layout = c.args.self.now.layout in
      let cell = c.in_ok-cell.cell in
      let class = c.class_of.ensures.class ∙ ap (λ (l : Layout). class_of l cell) c.layout.ensures in
      holder_refusal-table layout state c.args.self.now.who c.args.src cell further
      (c.in_ok-cell.ensures.cell heap state calls)
      (eq-eqb (class_of layout cell) 4 (sym class ∙ c.if-class_of-eq-TABLE.true));
  granted = tt;
  cell = tt;
  within = tt;
  claimed = tt;
  owns = c.cell_in.ensures.owns;
}

pub returns-then-not-contains : goal.returns-then-not-contains
returns-then-not-contains g c = record {
  refused = λ heap state calls further.
      let layout = c.args.self.now.layout in
      let cell = c.in_ok-cell.cell in
      let class = c.class_of.ensures.class ∙ ap (λ (l : Layout). class_of l cell) c.layout.ensures in
      holder_refusal-held layout state c.args.self.now.who c.args.src cell further
      (c.in_ok-cell.ensures.cell heap state calls)
      (ne_eqb (class_of layout cell) 4 (λ is. c.if-class_of-eq-TABLE.false (class ∙ is)))
      (holds-claims _ c.args.self.now heap state calls cell
      ∙ ap (λ (l : List ℕ). is_among l cell) (sym c.claims.ensures) ∙ sym c.contains.ensures ∙ c.if-not-contains.true);
  granted = tt;
  cell = tt;
  within = tt;
  claimed = tt;
  owns = c.cell_in.ensures.owns;
}

pub returns : goal.returns
returns g c = record {
  refused = tt;
  granted = λ heap state calls further.
      let layout = c.args.self.now.layout in
      let cell = c.in_ok-cell.cell in
      let class = c.class_of.ensures.class ∙ ap (λ (l : Layout). class_of l cell) c.layout.ensures in
      holder_refusal-further layout state c.args.self.now.who c.args.src cell further
      (c.in_ok-cell.ensures.cell heap state calls)
      (ne_eqb (class_of layout cell) 4 (λ is. c.if-class_of-eq-TABLE.false (class ∙ is)))
      (holds-claims _ c.args.self.now heap state calls cell
      ∙ ap (λ (l : List ℕ). is_among l cell) (sym c.claims.ensures) ∙ sym c.contains.ensures ∙ c.if-not-contains.false);
  cell = c.in_ok-cell.ensures.cell;
  within = c.in_ok-cell.ensures.within;
  claimed = ap (λ (l : List ℕ). is_among l c.in_ok-cell.cell) (sym c.claims.ensures) ∙ sym c.contains.ensures ∙ c.if-not-contains.false;
  owns = c.cell_in.ensures.owns;
}
