use Rattle.std.proofs.Common.{rules, ℕ, ◌≡◌, ◌^◌, ◌<◌, refl, sym, ◌∙◌, ap, arith, true, false, List, [], ◌∷◌, ◌++◌, length, Option}
use Rattle.std.proofs.lemmas.Result.{err_from_is_err_and}
use Rattle.std.specs.Prelude.{not}
use Rattle.tide_model.specs.declared.op.Refusal.{Refusal}
use Rattle.tide_model.specs.declared.op.Refusal.TheVariants.{NoShape, Present}
use Rattle.tide_model.specs.Refused.{ShapeLists, has_key, may_add, refuse_if}
use Rattle.tide_model.specs.State.{State}
use Rattle.tide_shape.proofs.KeyLaws.{fewer_keys, may_add-absent, may_add-there}
use Rattle.tide_call.proofs.action_laws.KeyReading.{key-found, keys_of-cell, next-found, next-missing, next-word}
use Rattle.tide_call.proofs.action_laws.OwnLaws.{somewhere}
use Rattle.tide_call.proofs.action_laws.RefusalLaws.{addition_refusals}
use Rattle.tide_call.proofs.planner.Planner.find_addition.Goals as goal

-- the refusals that are an addition's own
abbrev own_refusals : ShapeLists → State → ℕ → ℕ → List (Option Refusal)
own_refusals shapes state key cell = refuse_if (has_key state cell key) Present ∷ refuse_if (not (may_add shapes state cell key)) NoShape ∷ []

pub returns-in_err-cell : goal.returns-in_err-cell
returns-in_err-cell g c =
    let failed = err_from_is_err_and c.from_residual.result c.from_residual.ensures.1 in
    rw (failed.1, failed.2) (record {
      refused = λ heap state calls val. c.in_err-cell.ensures.refused heap state calls (own_refusals c.args.self.now.shapes state c.args.key);
      granted = tt;
      cell = tt;
      addition = tt;
      few = tt;
      within = tt;
      claimed = tt;
      owns = c.property_holder.ensures.owns;
    })

pub returns-then-is_some : goal.returns-then-is_some
returns-then-is_some g c = record {
  refused = λ heap state calls_then val.
      let shapes = c.args.self.now.shapes in
      let cell = c.in_ok-cell.cell in
      let calls = c.shape_of-shape.ensures.owns.1 heap state calls_then in
      let known : has_key state cell c.args.key ≡ true =
      key-found (g.S.ShapeTable.lists c.shapes.result.now) shapes c.shapes.ensures.lists c.shape_of-shape.result (state.cells cell).keys
      (c.shape_of-shape.ensures.shape heap state calls_then) c.args.key c.place.result c.place.ensures.there c.place.ensures.none
      ∙ sym c.if-is_some.ensures in
      c.in_ok-cell.ensures.granted heap state calls (own_refusals shapes state c.args.key)
      ∙ addition_refusals (has_key state cell c.args.key) (may_add shapes state cell c.args.key) true (may_add shapes state cell c.args.key) known refl;
  granted = tt;
  cell = tt;
  addition = tt;
  few = tt;
  within = tt;
  claimed = tt;
  owns = (
    c.shape_of-shape.ensures.owns.0,
    (λ heap state calls. c.property_holder.ensures.owns.1 heap state (c.shape_of-shape.ensures.owns.1 heap state calls)),
    c.shape_of-shape.ensures.owns.2 ∙ c.property_holder.ensures.owns.2,
  );
}

pub returns-in_default : goal.returns-in_default
returns-in_default g c = record {
  refused = λ heap state calls_then val.
      let shapes = c.args.self.now.shapes in
      let cell = c.in_ok-cell.cell in
      let calls = c.shape_of-shape.ensures.owns.1 heap state calls_then in
      let is_shape = c.shape_of-shape.ensures.shape heap state calls_then in
      let known : has_key state cell c.args.key ≡ false =
      key-found (g.S.ShapeTable.lists c.shapes.result.now) shapes c.shapes.ensures.lists c.shape_of-shape.result (state.cells cell).keys
      is_shape c.args.key c.place.result c.place.ensures.there c.place.ensures.none ∙ sym c.if-is_some.ensures in
      let missing : may_add shapes state cell c.args.key ≡ false = may_add-absent shapes ((state.cells cell).keys ++ c.args.key ∷ [])
      (next-missing (g.S.ShapeTable.lists c.shapes-2.result.now) shapes c.shapes-2.ensures.lists c.shape_of-shape.result (state.cells cell).keys is_shape
      c.args.key c.in_default.ensures.none) in
      c.in_ok-cell.ensures.granted heap state calls (own_refusals shapes state c.args.key)
      ∙ addition_refusals (has_key state cell c.args.key) (may_add shapes state cell c.args.key) false false known missing;
  granted = tt;
  cell = tt;
  addition = tt;
  few = tt;
  within = tt;
  claimed = tt;
  owns = (
    c.shape_of-shape.ensures.owns.0,
    (λ heap state calls. c.property_holder.ensures.owns.1 heap state (c.shape_of-shape.ensures.owns.1 heap state calls)),
    c.shape_of-shape.ensures.owns.2 ∙ c.property_holder.ensures.owns.2,
  );
}

pub returns : goal.returns
returns g c =
    let shapes = c.args.self.now.shapes in
    let cell = c.in_ok-cell.cell in
    let owns = c.shape_of-shape.ensures.owns in record {
      refused = tt;
      granted = λ heap state calls_then val.
          let is_shape = c.shape_of-shape.ensures.shape heap state calls_then in
          let known : has_key state cell c.args.key ≡ false =
          key-found (g.S.ShapeTable.lists c.shapes.result.now) shapes c.shapes.ensures.lists c.shape_of-shape.result (state.cells cell).keys
          is_shape c.args.key c.place.result c.place.ensures.there c.place.ensures.none ∙ sym c.if-is_some.ensures in
          let may : may_add shapes state cell c.args.key ≡ true = may_add-there shapes ((state.cells cell).keys ++ c.args.key ∷ []) c.in-Some.next
          (next-found (g.S.ShapeTable.lists c.shapes-2.result.now) shapes c.shapes-2.ensures.lists c.shape_of-shape.result (state.cells cell).keys is_shape
          c.args.key c.in-Some.next c.in-Some.ensures.added) in
          c.in_ok-cell.ensures.granted heap state (owns.1 heap state calls_then) (own_refusals shapes state c.args.key)
          ∙ addition_refusals (has_key state cell c.args.key) (may_add shapes state cell c.args.key) false true known may;
      cell = λ heap state calls_then. c.in_ok-cell.ensures.cell heap state (owns.1 heap state calls_then);
      addition = λ heap state calls_then.
          let is_shape = c.shape_of-shape.ensures.shape heap state calls_then in
          let few : c.in-Some.next < 2 ^ 32 = search rules in
          record {
            before = is_shape;
            after = next-word (g.S.ShapeTable.lists c.shapes-2.result.now) shapes c.shapes-2.ensures.lists c.shape_of-shape.result (state.cells cell).keys is_shape
                c.args.key c.in-Some.next c.shapes-2.ensures.table few c.in-Some.ensures.added;
            is_count = c.count.ensures
                ∙ ap (λ (ks : List ℕ). length ks) (keys_of-cell (g.S.ShapeTable.lists c.shapes-3.result.now) shapes c.shapes-3.ensures.lists c.shape_of-shape.result (state.cells cell).keys is_shape);
          };
      few =
          let (heap, state, calls_then) = somewhere _ c.args.self.now owns.0 in
          let is_shape = c.shape_of-shape.ensures.shape heap state calls_then in
          let counted = c.count.ensures
          ∙ ap (λ (ks : List ℕ). length ks) (keys_of-cell (g.S.ShapeTable.lists c.shapes-3.result.now) shapes c.shapes-3.ensures.lists c.shape_of-shape.result (state.cells cell).keys is_shape) in
          let fewer = fewer_keys shapes c.in-Some.next c.args.key (state.cells cell).keys c.shapes-2.ensures.table
          (next-found (g.S.ShapeTable.lists c.shapes-2.result.now) shapes c.shapes-2.ensures.lists c.shape_of-shape.result (state.cells cell).keys is_shape
          c.args.key c.in-Some.next c.in-Some.ensures.added) in
          omega (arith, counted, fewer);
      within = c.in_ok-cell.ensures.within;
      claimed = c.in_ok-cell.ensures.claimed;
      owns = (
        owns.0,
        (λ heap state calls. c.property_holder.ensures.owns.1 heap state (owns.1 heap state calls)),
        owns.2 ∙ c.property_holder.ensures.owns.2,
      );
    }
