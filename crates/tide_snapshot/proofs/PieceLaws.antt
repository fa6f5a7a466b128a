-- Pieces that are written one after another.
use Rattle.std.proofs.Common.{◌≡◌, ℕ, ◌+◌, ◌<◌, List, [], ◌∷◌, ◌++◌, length, take, drop, get_or, subst, sym, ap, ◌∙◌, append-nil, take-append-drop, arith}
use Rattle.std.specs.Prelude.{Option, Result, Ok, Err, OnErr, OnOk}
use Rattle.std.specs.List.{flat_map}
use Rattle.std.proofs.lemmas.List.{take_all, take_more}
use Rattle.std.proofs.lemmas.List.Concat.{flat_map-append}
use Rattle.std.specs.Io.KnownBytes.{Appends}
use Rattle.tide_io.specs.Faults.{AppendsPart}
use Rattle.tide_io.proofs.ChainLaws.{Appends-then, AppendsPart-then, AppendsPart-grown}

-- the pieces of one more
one_more : {A : Type 0} (f : A → List ℕ) (xs : List A) (i : ℕ) (d : A) → i < length xs → flat_map f (take i xs) ++ f (get_or xs i d) ≡ flat_map f (take (i + 1) xs)
one_more f xs i d within =
    ap (λ (l : List ℕ). flat_map f (take i xs) ++ l) (sym (append-nil (f (get_or xs i d))))
    ∙ sym (flat_map-append f (take i xs) (get_or xs i d ∷ []))
    ∙ sym (ap (flat_map f) (take_more xs i d within))

-- one more piece was written
pub piece_written : {A : Type 0} (f : A → List ℕ) (xs : List A) (i : ℕ) (d : A) (a b c : Option (List ℕ)) → i < length xs →
    Appends a b (flat_map f (take i xs)) → Appends b c (f (get_or xs i d)) → Appends a c (flat_map f (take (i + 1) xs))
piece_written f xs i d a b c within before here = subst (Appends a c) (one_more f xs i d within) (Appends-then a b c (flat_map f (take i xs)) (f (get_or xs i d)) before here)

-- a part of one more piece is a part of them all
pub piece_failed : {A : Type 0} (f : A → List ℕ) (xs : List A) (i : ℕ) (d : A) (a b c : Option (List ℕ)) → i < length xs →
    Appends a b (flat_map f (take i xs)) → AppendsPart b c (f (get_or xs i d)) → AppendsPart a c (flat_map f xs)
piece_failed f xs i d a b c within before here =
    let part = subst (AppendsPart a c) (one_more f xs i d within) (AppendsPart-then a b c (flat_map f (take i xs)) (f (get_or xs i d)) before here) in
    let all : flat_map f (take (i + 1) xs) ++ flat_map f (drop (i + 1) xs) ≡ flat_map f xs =
    sym (flat_map-append f (take (i + 1) xs) (drop (i + 1) xs)) ∙ ap (flat_map f) (take-append-drop (i + 1) xs) in
    subst (AppendsPart a c) all (AppendsPart-grown a c (flat_map f (take (i + 1) xs)) (flat_map f (drop (i + 1) xs)) part)

-- the last piece, and with it all
pub last_written : {A T E : Type 0} (f : A → List ℕ) (xs : List A) (i : ℕ) (d x : A) (a b c : Option (List ℕ)) (result : Result T E) → length xs ≡ i + 1 → x ≡ get_or xs i d →
    Appends a b (flat_map f (take i xs)) → OnOk result (Appends b c (f x)) → OnOk result (Appends a c (flat_map f xs))
last_written f xs i d x a b c (Ok value) counted is before here =
    subst (λ l. Appends a c (flat_map f l)) (take_all (i + 1) xs (omega (arith, counted)))
    (piece_written f xs i d a b c (omega (arith, counted)) before (subst (λ y. Appends b c (f y)) is here))
last_written f xs i d x a b c (Err error) counted is before here = tt

-- or a part of it, and so of them all
pub last_failed : {A T E : Type 0} (f : A → List ℕ) (xs : List A) (i : ℕ) (d x : A) (a b c : Option (List ℕ)) (result : Result T E) → length xs ≡ i + 1 → x ≡ get_or xs i d →
    Appends a b (flat_map f (take i xs)) → OnErr result (AppendsPart b c (f x)) → OnErr result (AppendsPart a c (flat_map f xs))
last_failed f xs i d x a b c (Ok value) counted is before here = tt
last_failed f xs i d x a b c (Err error) counted is before here = piece_failed f xs i d a b c (omega (arith, counted)) before (subst (λ y. AppendsPart b c (f y)) is here)
