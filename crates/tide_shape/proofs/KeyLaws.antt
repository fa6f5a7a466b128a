-- What a look-up of a key tells.
use Rattle.std.proofs.Common.{ℕ, ◌≡◌, ◌+◌, ◌<◌, ◌≤◌, sym, ap, arith, List, [], ◌∷◌, ◌++◌, length, get_or, length-append, true, false, Option, None, Some}
use Rattle.std.proofs.lemmas.Bool.{false_from_ne_true}
use Rattle.std.proofs.lemmas.Option.{cond_some, slice_get_within, get_or_from_slice_get}
use Rattle.std.specs.List.{position_or_len}
use Rattle.std.specs.Prelude.{◌==◌, is_some, nat_lt, position, slice_get, Contains, IfNone, IfSome}
use Rattle.tide_model.specs.Applied.{place_of}
use Rattle.tide_model.specs.Numbers.{is_among}
use Rattle.tide_model.specs.Refused.{ShapeLists, is_shape}
use Rattle.tide_model.proofs.NumberLaws.{among_from_contains, contains_from_among}
use Rattle.tide_shape.specs.ShapeTable.{IsShapeTable}
use Rattle.tide_shape.proofs.ShapesLaws.{is_shape-Decides, Contains-slice_get}

-- where a key stands, and that it stands nowhere
pub place_of-position : (keys : List ℕ) (key place : ℕ) → Some place ≡ position (λ other. other == key) keys → place ≡ place_of keys key
place_of-position keys key place first = sym (cond_some (nat_lt (position_or_len (λ other. other == key) keys) (length keys)) (position_or_len (λ other. other == key) keys) place (sym first)).1

pub has_key-there : (keys : List ℕ) (key place : ℕ) → slice_get keys place ≡ Some key → is_among keys key ≡ true
has_key-there keys key place there =
    among_from_contains keys key (place, slice_get_within keys place key there, get_or_from_slice_get keys place key key there)

pub has_key-absent : (keys : List ℕ) (key : ℕ) → (Contains keys key → ⊥) → is_among keys key ≡ false
has_key-absent keys key absent = false_from_ne_true (is_among keys key) (λ among. absent (contains_from_among keys key among))

-- a look-up of a key tells whether the cell has it
pub has_key-found : (keys : List ℕ) (key : ℕ) (found : Option ℕ) → IfSome found (λ place. slice_get keys place ≡ Some key) → IfNone found (Contains keys key → ⊥) → is_among keys key ≡ is_some found
has_key-found keys key (Some place) there none = has_key-there keys key place there
has_key-found keys key None there none = has_key-absent keys key none

-- a look-up of the next shape tells whether the key may be added
pub may_add-there : (shapes : ShapeLists) (keys : List ℕ) (next : ℕ) → slice_get shapes next ≡ Some keys → is_shape shapes keys ≡ true
may_add-there shapes keys next there = (is_shape-Decides shapes keys).1 (Contains-slice_get shapes next keys there)

pub may_add-absent : (shapes : ShapeLists) (keys : List ℕ) → (Contains shapes keys → ⊥) → is_shape shapes keys ≡ false
may_add-absent shapes keys absent = false_from_ne_true (is_shape shapes keys) (λ is. absent ((is_shape-Decides shapes keys).0 is))

-- where a look-up finds a key is its place
pub place_of-found : (keys : List ℕ) (key : ℕ) (found : Option ℕ) → found ≡ position (λ other. other == key) keys → IfSome found (λ place. place ≡ place_of keys key)
place_of-found keys key None first = tt
place_of-found keys key (Some place) first = place_of-position keys key place first

-- a look-up of the next shape tells whether the key may be added
pub may_add-found : (shapes : ShapeLists) (keys : List ℕ) (found : Option ℕ) → IfSome found (λ next. slice_get shapes next ≡ Some keys) → IfNone found (Contains shapes keys → ⊥) →
    is_some found ≡ is_shape shapes keys
may_add-found shapes keys (Some next) there none = sym (may_add-there shapes keys next there)
may_add-found shapes keys None there none = sym (may_add-absent shapes keys none)

-- keys to which another can be added are fewer than 64
pub fewer_keys : (shapes : ShapeLists) (shape key : ℕ) (keys : List ℕ) → IsShapeTable shapes →
    slice_get shapes shape ≡ Some (keys ++ key ∷ []) → length keys < 64
fewer_keys shapes shape key keys table is =
    let short : length (get_or shapes shape []) ≤ 64 = table.short shape [] (slice_get_within shapes shape (keys ++ key ∷ []) is) in
    let same = ap length (get_or_from_slice_get shapes shape (keys ++ key ∷ []) [] is) in
    omega (arith, short, same, length-append keys (key ∷ []))
