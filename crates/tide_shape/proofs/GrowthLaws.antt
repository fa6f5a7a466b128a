-- How the list of shapes grows by one shape, which its parent names.
use Rattle.std.proofs.Common.{ℕ, ◌≡◌, ◌≢◌, ◌<◌, refl, sym, ◌∙◌, ap, subst, arith, List, [], ◌∷◌, ◌++◌, length, length-set, get_or, set, inl, inr, None, Some}
use Rattle.std.proofs.lemmas.Bool.{cases_eq}
use Rattle.std.proofs.lemmas.List.{length-map, map-set, map_push, length_push, set-append_left, set-get_or, get_or_push, get_or_append_left, get_or-set_same, get_or-set_other, get_or_default, get_or-map}
use Rattle.std.proofs.lemmas.List.Elements.{Contains-get_or}
use Rattle.std.proofs.lemmas.Option.{slice_get-get_or}
use Rattle.std.specs.Prelude.{map, slice_get, Contains}
use Rattle.tide_shape.specs.ShapeTable.{keys_of}
use Rattle.tide_shape.specs.declared.tree.Shape.{Shape}
use Rattle.tide_shape.specs.Tree.{AreLinked, key_lists, links_of, IsTree}
use Rattle.tide_shape.proofs.LinkLaws.{Grows, AreLinked-grown}

-- a list with one more at its end, of which one is changed, as a function sees it
module _ {X Y : Type 0} (f : X → Y) (xs : List X) (i : ℕ) (there : i < length xs) (new changed : X) where
  seen : map f (set (xs ++ new ∷ []) i changed) ≡ set (map f xs) i (f changed) ++ f new ∷ []
  seen =
      map-set f (xs ++ new ∷ []) i changed
      ∙ ap (λ (ys : List Y). set ys i (f changed)) (map_push f xs new)
      ∙ set-append_left (map f xs) (f new ∷ []) i (f changed) (omega (arith, there, length-map xs f))

  within : (n : ℕ) → n < length xs → n < length (set (map f xs) i (f changed))
  within n below = omega (arith, below, length-set (map f xs) i (f changed), length-map xs f)

  at_new : (d : Y) → get_or (map f (set (xs ++ new ∷ []) i changed)) (length xs) d ≡ f new
  at_new d =
      ap (λ (ys : List Y). get_or ys (length xs) d) seen
      ∙ get_or_push (set (map f xs) i (f changed)) (f new) d (length xs) (length-set (map f xs) i (f changed) ∙ length-map xs f)

  at_changed : (d : Y) → get_or (map f (set (xs ++ new ∷ []) i changed)) i d ≡ f changed
  at_changed d =
      ap (λ (ys : List Y). get_or ys i d) seen
      ∙ get_or_append_left (set (map f xs) i (f changed)) (f new ∷ []) d i (within i there)
      ∙ get_or-set_same (map f xs) i (f changed) d (omega (arith, there, length-map xs f))

  at_other : (d : Y) (n : ℕ) → n < length xs → n ≢ i → get_or (map f (set (xs ++ new ∷ []) i changed)) n d ≡ get_or (map f xs) n d
  at_other d n below apart =
      ap (λ (ys : List Y). get_or ys n d) seen
      ∙ get_or_append_left (set (map f xs) i (f changed)) (f new ∷ []) d n (within n below)
      ∙ get_or-set_other (map f xs) i n (f changed) d apart

  at_kept : (d : Y) → f changed ≡ get_or (map f xs) i d → (n : ℕ) → n < length xs →
      get_or (map f (set (xs ++ new ∷ []) i changed)) n d ≡ get_or (map f xs) n d
  at_kept d is n below =
      elim (cases_eq n i) [
        | inl same ↦ subst (λ m. get_or (map f (set (xs ++ new ∷ []) i changed)) m d ≡ get_or (map f xs) m d) (sym same) (at_changed d ∙ is)
        | inr apart ↦ at_other d n below apart
      ]

  seen_kept : (d : Y) → f changed ≡ get_or (map f xs) i d → map f (set (xs ++ new ∷ []) i changed) ≡ map f xs ++ f new ∷ []
  seen_kept d is =
      seen ∙ ap (λ (ys : List Y). ys ++ f new ∷ []) (ap (λ (y : Y). set (map f xs) i y) is ∙ set-get_or (map f xs) i d)

-- one shape more, which `before` is the parent of: it was read of the list, and `changed` stands in its place
module _ (shapes : List Shape) (i key : ℕ) (before new changed : Shape) (there : i < length shapes) (read : before ≡ get_or shapes i before) where
  seen_before : {Y : Type 0} (f : Shape → Y) (d : Y) → get_or (map f shapes) i d ≡ f before
  seen_before f d = get_or-map f shapes i before d there ∙ ap f (sym read)

  pub key_lists-push : changed.keys.items ≡ before.keys.items → new.keys.items ≡ before.keys.items ++ key ∷ [] →
      key_lists (set (shapes ++ new ∷ []) i changed) ≡ key_lists shapes ++ (keys_of (key_lists shapes) i ++ key ∷ []) ∷ []
  key_lists-push same longer =
      seen_kept (λ (s : Shape). s.keys.items) shapes i there new changed [] (same ∙ sym (seen_before (λ s. s.keys.items) []))
      ∙ ap (λ (keys : List ℕ). key_lists shapes ++ keys ∷ [])
      (longer ∙ ap (λ (keys : List ℕ). keys ++ key ∷ []) (sym (seen_before (λ s. s.keys.items) [])))

  pub IsTree-push : changed.keys.items ≡ before.keys.items → changed.key ≡ before.key → changed.newest_child ≡ Some (length shapes) →
      changed.older_sibling ≡ before.older_sibling → new.keys.items ≡ before.keys.items ++ key ∷ [] → new.key ≡ key →
      new.newest_child ≡ None → new.older_sibling ≡ before.newest_child →
      ¬ (Contains (key_lists shapes) (keys_of (key_lists shapes) i ++ key ∷ [])) → IsTree shapes → IsTree (set (shapes ++ new ∷ []) i changed)
  IsTree-push same_keys same_key is_newest same_older longer is_key no_child is_older fresh tree =
      subst (λ n. AreLinked n (links_of grown)) (sym (length-set (shapes ++ new ∷ []) i changed ∙ length_push shapes new))
      (AreLinked-grown (length shapes) i key (links_of shapes) (links_of grown) grows tree)
    where
      grown : List Shape
      grown = set (shapes ++ new ∷ []) i changed

      grows : Grows (length shapes) i key (links_of shapes) (links_of (set (shapes ++ new ∷ []) i changed))
      grows = record {
        there = there;
        fresh = λ n below same. fresh (subst (λ (keys : List ℕ). Contains (key_lists shapes) keys) same
            (Contains-get_or (key_lists shapes) n [] (omega (arith, below, length-map shapes (λ (s : Shape). s.keys.items)))));
        new_keys = at_new (λ (s : Shape). s.keys.items) shapes i there new changed [] ∙ longer
            ∙ ap (λ (keys : List ℕ). keys ++ key ∷ []) (sym (seen_before (λ s. s.keys.items) []));
        new_last = at_new (λ (s : Shape). s.key) shapes i there new changed 0 ∙ is_key;
        new_newest = at_new (λ (s : Shape). s.newest_child) shapes i there new changed None ∙ no_child;
        new_older = at_new (λ (s : Shape). s.older_sibling) shapes i there new changed None ∙ is_older ∙ sym (seen_before (λ s. s.newest_child) None);
        parent_newest = at_changed (λ (s : Shape). s.newest_child) shapes i there new changed None ∙ is_newest;
        old_keys = at_kept (λ (s : Shape). s.keys.items) shapes i there new changed [] (same_keys ∙ sym (seen_before (λ s. s.keys.items) []));
        old_last = at_kept (λ (s : Shape). s.key) shapes i there new changed 0 (same_key ∙ sym (seen_before (λ s. s.key) 0));
        old_newest = at_other (λ (s : Shape). s.newest_child) shapes i there new changed None;
        old_older = at_kept (λ (s : Shape). s.older_sibling) shapes i there new changed None (same_older ∙ sym (seen_before (λ s. s.older_sibling) None));
      }

-- a place of a longer list that stood before
pub read_before : {X : Type 0} (xs grown : List X) (new x y : X) (i : ℕ) → i < length xs → grown ≡ xs ++ new ∷ [] → x ≡ get_or xs i x → y ≡ get_or grown i y → y ≡ x
read_before {X} xs grown new x y i there is at_x at_y =
    at_y ∙ ap (λ (zs : List X). get_or zs i y) is ∙ get_or_append_left xs (new ∷ []) y i there ∙ get_or_default xs i y x there ∙ sym at_x

-- the last of a longer list
pub slice_get_push : {X : Type 0} (xs : List X) (x : X) → slice_get (xs ++ x ∷ []) (length xs) ≡ Some x
slice_get_push xs x =
    slice_get-get_or (xs ++ x ∷ []) (length xs) x (omega (arith, length_push xs x)) ∙ ap (λ (y : _). Some y) (get_or_push xs x x (length xs) refl)
