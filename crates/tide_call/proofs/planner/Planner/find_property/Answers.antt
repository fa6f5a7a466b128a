use Rattle.std.proofs.Common.{ℕ, ◌≡◌, sym, ◌∙◌, ap, subst, true, false, List, [], ◌∷◌, None, Some}
use Rattle.std.proofs.lemmas.Option.{none-some, same_Some, slice_get_within}
use Rattle.std.proofs.lemmas.Result.{err_from_is_err_and}
use Rattle.std.specs.Prelude.{not, slice_get}
use Rattle.tide_words.specs.tide_layout.Slots.{HasElement}
use Rattle.tide_model.specs.declared.op.Refusal.TheVariants.{Absent}
use Rattle.tide_model.specs.Applied.{place_of}
use Rattle.tide_model.specs.Refused.{has_key, refuse_if}
use Rattle.tide_shape.specs.ShapeTable.{keys_of}
use Rattle.tide_shape.proofs.KeyLaws.{place_of-position}
use Rattle.tide_call.proofs.action_laws.KeyReading.{key-found, keys_of-cell}
use Rattle.tide_call.proofs.action_laws.OwnLaws.{claimed_is_live}
use Rattle.tide_call.proofs.action_laws.RefusalLaws.{last_refusal}
use Rattle.tide_call.proofs.planner.Planner.find_property.Goals as goal

pub returns-in_err-cell : goal.returns-in_err-cell
returns-in_err-cell g c =
    let failed = err_from_is_err_and c.from_residual.result c.from_residual.ensures.1 in
    rw (failed.1, failed.2) (record {
      refused = λ heap state calls.
          c.in_err-cell.ensures.refused heap state calls (λ cell. refuse_if (not (has_key state cell c.args.key)) Absent ∷ []);
      property = tt;
      owns = c.property_holder.ensures.owns;
    })

pub returns-in_default : goal.returns-in_default
returns-in_default g c = record {
  refused = λ heap state calls_then.
      let lists = g.S.ShapeTable.lists c.shapes.result.now in
      let cell = c.in_ok-cell.cell in
      let key = c.args.key in
      let calls = c.shape_of-shape.ensures.owns.1 heap state calls_then in
      let is_shape = c.shape_of-shape.ensures.shape heap state calls_then in
      let known : has_key state cell key ≡ false = key-found lists c.args.self.now.shapes c.shapes.ensures.lists c.shape_of-shape.result (state.cells cell).keys is_shape
      key None tt c.in_default.ensures.none in
      c.in_ok-cell.ensures.granted heap state calls (λ at. refuse_if (not (has_key state at key)) Absent ∷ [])
      ∙ last_refusal (not (has_key state cell key)) true Absent (ap not known);
  property = tt;
  owns = (
    c.shape_of-shape.ensures.owns.0,
    (λ heap state calls. c.property_holder.ensures.owns.1 heap state (c.shape_of-shape.ensures.owns.1 heap state calls)),
    c.shape_of-shape.ensures.owns.2 ∙ c.property_holder.ensures.owns.2,
  );
}

pub returns-in_default-array_of : goal.returns-in_default-array_of
returns-in_default-array_of g c = record {
  refused = λ heap state last.
      let lists = g.S.ShapeTable.lists c.shapes.result.now in
      let cell = c.in_ok-cell.cell in
      let calls_then = c.array_of.ensures.owns.1 heap state last in
      let calls = c.shape_of-shape.ensures.owns.1 heap state calls_then in
      let same = keys_of-cell lists c.args.self.now.shapes c.shapes.ensures.lists c.shape_of-shape.result (state.cells cell).keys
      (c.shape_of-shape.ensures.shape heap state calls_then) in
      let there = subst (λ (ks : List ℕ). slice_get ks c.in-Some.place ≡ Some c.args.key) same c.in-Some.ensures.there in
      let below = slice_get_within (state.cells cell).keys c.in-Some.place c.args.key there in
      let live = claimed_is_live _ c.args.self.now heap state calls cell c.in_ok-cell.ensures.claimed in
      let (array, is, has, value) = (calls.reads.parts.cells cell c.in_ok-cell.ensures.within).properties live c.in-Some.place below in
      absurd (none-some array (sym (c.in_default-array_of.ensures.array heap state last) ∙ is));
  property = tt;
  owns = (
    c.array_of.ensures.owns.0,
    (λ heap state last. c.property_holder.ensures.owns.1 heap state
        (c.shape_of-shape.ensures.owns.1 heap state (c.array_of.ensures.owns.1 heap state last))),
    c.array_of.ensures.owns.2 ∙ c.shape_of-shape.ensures.owns.2 ∙ c.property_holder.ensures.owns.2,
  );
}

pub returns : goal.returns
returns g c = record {
  refused = tt;
  property = λ heap state last.
      let lists = g.S.ShapeTable.lists c.shapes.result.now in
      let cell = c.in_ok-cell.cell in
      let key = c.args.key in
      let calls_then = c.array_of.ensures.owns.1 heap state last in
      let calls = c.shape_of-shape.ensures.owns.1 heap state calls_then in
      let is_shape = c.shape_of-shape.ensures.shape heap state calls_then in
      let same = keys_of-cell lists c.args.self.now.shapes c.shapes.ensures.lists c.shape_of-shape.result (state.cells cell).keys is_shape in
      let there = subst (λ (ks : List ℕ). slice_get ks c.in-Some.place ≡ Some key) same c.in-Some.ensures.there in
      let below = slice_get_within (state.cells cell).keys c.in-Some.place key there in
      let live = claimed_is_live _ c.args.self.now heap state calls cell c.in_ok-cell.ensures.claimed in
      let (array, is, has, value) = (calls.reads.parts.cells cell c.in_ok-cell.ensures.within).properties live c.in-Some.place below in
      let own = c.in-Some-array_of.ensures.array heap state last in
      let known : has_key state cell key ≡ true = key-found lists c.args.self.now.shapes c.shapes.ensures.lists c.shape_of-shape.result (state.cells cell).keys is_shape
      key (Some c.in-Some.place) c.in-Some.ensures.there tt in
      record {
        granted = c.in_ok-cell.ensures.granted heap state calls (λ at. refuse_if (not (has_key state at key)) Absent ∷ [])
            ∙ last_refusal (not (has_key state cell key)) false Absent (ap not known);
        holder = c.in_ok-cell.ensures.cell heap state calls;
        is_array = own;
        is_place = subst (λ (ks : List ℕ). c.in-Some.place ≡ place_of ks key) same
            (place_of-position (keys_of lists c.shape_of-shape.result) key c.in-Some.place c.in-Some.ensures.first);
        has = subst (λ (a : ℕ). HasElement c.args.self.now.layout a c.in-Some.place)
            (same_Some array c.in-Some-array_of.array (sym is ∙ own)) has;
      };
  owns = (
    c.array_of.ensures.owns.0,
    (λ heap state last. c.property_holder.ensures.owns.1 heap state
        (c.shape_of-shape.ensures.owns.1 heap state (c.array_of.ensures.owns.1 heap state last))),
    c.array_of.ensures.owns.2 ∙ c.shape_of-shape.ensures.owns.2 ∙ c.property_holder.ensures.owns.2,
  );
}
