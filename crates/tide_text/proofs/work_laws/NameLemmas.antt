-- A text is a name where it has the name's length and its byte at each place.
use Rattle.std.proofs.Common.{◌≡◌, ℕ, suc, Bool, true, false, ◌&&◌, ◌==◌, List, [], ◌∷◌, length, get_or, refl, ap, arith}
use Rattle.std.proofs.lemmas.Bool.Decides.{nat_tests}
use Rattle.std.specs.Str.{bytes_eq}

-- from a place on, the text has the bytes of the name
abbrev pub has_bytes : List ℕ → ℕ → List ℕ → Bool
has_bytes text at [] = true
has_bytes text at (c ∷ name) = (get_or text at 0 == c) && has_bytes text (suc at) name

has_bytes-shift : (x : ℕ) (text : List ℕ) (at : ℕ) (name : List ℕ) → has_bytes (x ∷ text) (suc at) name ≡ has_bytes text at name
has_bytes-shift x text at [] = refl
has_bytes-shift x text at (c ∷ name) = ap (λ rest. (get_or text at 0 == c) && rest) (has_bytes-shift x text (suc at) name)

and-swap : (a b c : Bool) → (a && (b && c)) ≡ (b && (a && c))
and-swap true b c = refl
and-swap false true c = refl
and-swap false false c = refl

pub name_read : (text name : List ℕ) → bytes_eq text name ≡ ((length text == length name) && has_bytes text 0 name)
name_read [] [] = refl
name_read [] (c ∷ name) = grind (arith, nat_tests)
name_read (x ∷ text) [] = grind (arith, nat_tests)
name_read (x ∷ text) (c ∷ name) =
    let sizes : (suc (length text) == suc (length name)) ≡ (length text == length name) = grind (arith, nat_tests) in
    rw (sizes, name_read text name, has_bytes-shift x text 0 name) (and-swap (x == c) (length text == length name) (has_bytes text 0 name))
