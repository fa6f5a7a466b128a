-- The new shape stands at the end, and its parent names it as its newest child.
use Rattle.std.proofs.Common.{rules, ℕ, ◌≡◌, ◌<◌, ◌++◌, ◌∷◌, [], List, None, Some, length, set, refl, sym, ◌∙◌, subst, ap}
use Rattle.std.proofs.lemmas.List.{length-map}
use Rattle.std.specs.Prelude.{slice_get, Contains}
use Rattle.tide_model.specs.Refused.{ShapeLists}
use Rattle.tide_shape.specs.ShapeTable.{keys_of}
use Rattle.tide_shape.specs.declared.tree.Shape.{Shape}
use Rattle.tide_shape.specs.Tree.{key_lists, IsTree}
use Rattle.tide_shape.proofs.GrowthLaws.{IsTree-push, key_lists-push, read_before, slice_get_push}
use Rattle.tide_shape.proofs.WalkLaws.{shape_there}
use Rattle.tide_shape.proofs.tree.Tree.add_child.Goals as goal

pub invariant_of-self-2 : goal.invariant_of-self-2
invariant_of-self-2 c =
    let shapes = c.self.inside.shapes.items in
    let before = c.index-parent.result.now in
    let parent = c.index_mut.result.now in
    let added = c.len-added.result in
    let keys = c.in_ok-with_key.field-0 in
    let new : Shape = record { keys = keys; key = c.args.key; newest_child = None; older_sibling = before.newest_child } in
    let after : Shape = record { keys = parent.keys; key = parent.key; newest_child = Some added; older_sibling = parent.older_sibling } in
    let there : c.args.shape < length shapes = shape_there shapes c.args.self.now c.args.shape c.self.view_is c.requires.there in
    let grown : c.push.new.self.items ≡ shapes ++ new ∷ [] = c.in_ok-push.ensures.items in
    let same : parent ≡ before = read_before shapes c.push.new.self.items new before parent c.args.shape there grown c.index-parent.ensures c.index_mut.ensures.value in
    let longer : keys.items ≡ before.keys.items ++ c.args.key ∷ [] = c.in_ok-with_key.ensures ∙ ap (λ (xs : List ℕ). xs ++ c.args.key ∷ []) c.as_slice.ensures.value in
    let count : added ≡ length shapes = search rules in
    let fresh = subst (λ (lists : ShapeLists). ¬ (Contains lists (keys_of lists c.args.shape ++ c.args.key ∷ []))) (sym c.self.view_is) c.requires.fresh in
    subst (λ (xs : List Shape). IsTree (set xs c.args.shape after)) (sym grown)
    (IsTree-push shapes c.args.shape c.args.key before new after there c.index-parent.ensures
    (ap (λ (s : Shape). s.keys.items) same) (ap (λ (s : Shape). s.key) same) (ap (λ (n : ℕ). Some n) count) (ap (λ (s : Shape). s.older_sibling) same)
    longer refl refl refl fresh c.self.invariant)

pub returns-clause-shapes : goal.returns-clause-shapes
returns-clause-shapes c =
    let shapes = c.self.inside.shapes.items in
    let before = c.index-parent.result.now in
    let parent = c.index_mut.result.now in
    let added = c.len-added.result in
    let keys = c.in_ok-with_key.field-0 in
    let new : Shape = record { keys = keys; key = c.args.key; newest_child = None; older_sibling = before.newest_child } in
    let after : Shape = record { keys = parent.keys; key = parent.key; newest_child = Some added; older_sibling = parent.older_sibling } in
    let there : c.args.shape < length shapes = shape_there shapes c.args.self.now c.args.shape c.self.view_is c.requires.there in
    let grown : c.push.new.self.items ≡ shapes ++ new ∷ [] = c.in_ok-push.ensures.items in
    let same : parent ≡ before = read_before shapes c.push.new.self.items new before parent c.args.shape there grown c.index-parent.ensures c.index_mut.ensures.value in
    let longer : keys.items ≡ before.keys.items ++ c.args.key ∷ [] = c.in_ok-with_key.ensures ∙ ap (λ (xs : List ℕ). xs ++ c.args.key ∷ []) c.as_slice.ensures.value in
    subst (λ (lists : ShapeLists). key_lists (set c.push.new.self.items c.args.shape after) ≡ lists ++ (keys_of lists c.args.shape ++ c.args.key ∷ []) ∷ []) c.self.view_is
    (ap (λ (xs : List Shape). key_lists (set xs c.args.shape after)) grown
    ∙ key_lists-push shapes c.args.shape c.args.key before new after there c.index-parent.ensures (ap (λ (s : Shape). s.keys.items) same) longer)

pub returns-clause-child : goal.returns-clause-child
returns-clause-child c =
    let lists = c.args.self.now in
    let keys = keys_of lists c.args.shape ++ c.args.key ∷ [] in
    let shapes = c.self.inside.shapes.items in
    let added : c.len-added.result ≡ length shapes = search rules in
    let count : length lists ≡ c.len-added.result =
    ap (λ (xs : ShapeLists). length xs) (sym c.self.view_is) ∙ length-map shapes (λ (s : Shape). s.keys.items) ∙ sym added in
    subst (λ (xs : ShapeLists). slice_get xs c.len-added.result ≡ Some keys) (sym (returns-clause-shapes c))
    (subst (λ (n : ℕ). slice_get (lists ++ keys ∷ []) n ≡ Some keys) count (slice_get_push lists keys))
