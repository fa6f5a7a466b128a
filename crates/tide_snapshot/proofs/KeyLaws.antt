-- The keys of properties are those of shapes, and so have names where a workload's paths made the shapes.
use Rattle.std.proofs.Common.{ℕ, ◌<◌, Bool, List, [], ◌∷◌, ◌++◌, map, fold, sym, ap, subst, inl, inr, get_or, if◌then◌else◌}
use Rattle.std.specs.Prelude.{All, Contains}
use Rattle.std.specs.List.{flat_map}
use Rattle.std.proofs.lemmas.Bool.{cases_Bool}
use Rattle.std.proofs.lemmas.List.{get_or_default}
use Rattle.std.proofs.lemmas.List.Elements.{Contains-push_cases}
use Rattle.tide_model.specs.Refused.{ShapeLists, is_shape, no_shapes}
use Rattle.tide_shape.specs.Shapes.{add_if_new, beginnings, shapes_of_paths}
use Rattle.tide_retained.specs.declared.contents.Contents.{Contents}
use Rattle.tide_retained.specs.Contents.{HasKeysOf, held_at, properties_in}
use Rattle.tide_snapshot.specs.Written.{HasNamedKeys}
use Rattle.tide_retained.proofs.ListLaws.{nowhere, contains_cases, contains_first, contains_later, from_flat_map, from_map}

-- all numbers of all lists are below a bound
AreBelow : ℕ → List (List ℕ) → Type 0
AreBelow n lists = (list : List ℕ) (key : ℕ) → Contains lists list → Contains list key → key < n

below_beginnings : (n : ℕ) (path : List ℕ) → ((key : ℕ) → Contains path key → key < n) → AreBelow n (beginnings path)
unfolding AreBelow
below_beginnings n [] below list key at among = absurd (nowhere list at)
below_beginnings n (first ∷ rest) below list key at among = elim (contains_cases (first ∷ []) (map (λ beginning. first ∷ beginning) (beginnings rest)) list at) [
  | inl same ↦ elim (contains_cases first [] key (subst (λ (l : List ℕ). Contains l key) (sym same) among)) [
    | inl is ↦ subst (λ (k : ℕ). k < n) is (below first (contains_first first rest))
    | inr none ↦ absurd (nowhere key none)
  ]
  | inr later ↦
      let (beginning, in_rest, same) = from_map (λ (b : List ℕ). first ∷ b) (beginnings rest) list later in
      elim (contains_cases first beginning key (subst (λ (l : List ℕ). Contains l key) (sym same) among)) [
        | inl is ↦ subst (λ (k : ℕ). k < n) is (below first (contains_first first rest))
        | inr on ↦ below_beginnings n rest (λ k there. below k (contains_later first rest k there)) beginning key in_rest on
      ]
]

below_added : (n : ℕ) (shapes : ShapeLists) (keys : List ℕ) → AreBelow n shapes → ((key : ℕ) → Contains keys key → key < n) → AreBelow n (add_if_new shapes keys)
unfolding AreBelow
below_added n shapes keys so_far below = elim (cases_Bool (is_shape shapes keys)) [
  | inl old ↦ subst (AreBelow n) (sym (ap (λ (b : Bool). if b then shapes else shapes ++ keys ∷ []) old)) so_far
  | inr new ↦ subst (AreBelow n) (sym (ap (λ (b : Bool). if b then shapes else shapes ++ keys ∷ []) new)) (λ list key at among. elim (Contains-push_cases shapes keys list at) [
    | inl early ↦ so_far list key early among
    | inr same ↦ below key (subst (λ (l : List ℕ). Contains l key) (sym same) among)
  ])
]

below_all : (n : ℕ) (shapes lists : ShapeLists) → AreBelow n shapes → AreBelow n lists → AreBelow n (fold add_if_new shapes lists)
unfolding AreBelow
below_all n shapes [] so_far below = so_far
below_all n shapes (list ∷ lists) so_far below =
    below_all n (add_if_new shapes list) lists (below_added n shapes list so_far (λ key at. below list key (contains_first list lists) at))
    (λ other key at. below other key (contains_later list lists other at))

-- the shapes of paths have no keys but theirs
below_shapes : (n : ℕ) (paths : List (List ℕ)) → All (λ path. All (λ key. key < n) path) paths → AreBelow n (shapes_of_paths paths)
unfolding AreBelow
below_shapes n paths named = below_all n no_shapes (flat_map beginnings paths)
    (λ list key at among. elim (contains_cases [] [] list at) [
      | inl same ↦ absurd (nowhere key (subst (λ (l : List ℕ). Contains l key) (sym same) among))
      | inr none ↦ absurd (nowhere list none)
    ])
    (λ list key at among.
    let (path, (i, within, is), given) = from_flat_map beginnings paths list at in
    let own = subst (All (λ (k : ℕ). k < n)) is (named i path within) in
    below_beginnings n path (λ k (j, inside, that). subst (λ (m : ℕ). m < n) that (own j k inside)) list key given among)

-- so each property of a cell has a key with a name
pub keys_are_named : (n : ℕ) (paths : List (List ℕ)) (contents : Contents) → All (λ path. All (λ key. key < n) path) paths → HasKeysOf (shapes_of_paths paths) contents → HasNamedKeys n contents
unfolding AreBelow
keys_are_named n paths contents named of cell i d within =
    let properties = properties_in (held_at contents cell) in
    let property = get_or properties i d in
    let (keys, among, has) = of cell property (i, within, get_or_default properties i property d within) in
    below_shapes n paths named keys property.key among has
