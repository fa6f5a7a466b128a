-- How writes to a sink make one, when one follows another.
use Rattle.std.specs.Prelude.{ℕ, ◌+◌, min, List, ◌++◌, length, take, Option, Result, Ok, Err, OnOk, OnErr}
use Rattle.std.specs.Io.KnownBytes.{Appends}
use Rattle.std.proofs.Common.{◌≡◌, arith, subst, sym}
use Rattle.std.proofs.Math.Seq.{take-append-add}
use Rattle.std.proofs.KnownBytes.{Appends-trans}
use Rattle.std.proofs.lemmas.Grind.{common_steps}
use Rattle.tide_io.specs.Faults.{AppendsPart}

-- bytes, and then more bytes
pub Appends-then : (a b c : Option (List ℕ)) (xs ys : List ℕ) → Appends a b xs → Appends b c ys → Appends a c (xs ++ ys)
Appends-then a b c xs ys first second = Appends-trans a b c xs ys first second

-- bytes, and then some first part of more bytes
pub AppendsPart-then : (a b c : Option (List ℕ)) (xs ys : List ℕ) → Appends a b xs → AppendsPart b c ys → AppendsPart a c (xs ++ ys)
AppendsPart-then a b c xs ys first (count, second) =
    (length xs + count, subst (Appends a c) (sym (take-append-add xs ys count)) (Appends-trans a b c xs (take count ys) first second))

take_of_front : (count : ℕ) (xs ys : List ℕ) → take count xs ≡ take (min count (length xs)) (xs ++ ys)
take_of_front count xs ys = grind (arith, common_steps)

-- a part of the first bytes is a part of all
pub AppendsPart-grown : (a b : Option (List ℕ)) (xs ys : List ℕ) → AppendsPart a b xs → AppendsPart a b (xs ++ ys)
AppendsPart-grown a b xs ys (count, part) = (min count (length xs), subst (Appends a b) (take_of_front count xs ys) part)

-- what holds anyway holds at an `Err`
pub OnErr-from : {T E P : Type 0} (result : Result T E) → P → OnErr result P
OnErr-from (Ok value) holds = tt
OnErr-from (Err error) holds = holds

-- bytes, and then a write that adds more where it succeeds
pub OnOk-then : {T E : Type 0} (a b c : Option (List ℕ)) (xs ys : List ℕ) (result : Result T E)
    → Appends a b xs → OnOk result (Appends b c ys) → OnOk result (Appends a c (xs ++ ys))
OnOk-then a b c xs ys (Ok value) first second = Appends-then a b c xs ys first second
OnOk-then a b c xs ys (Err error) first second = tt

-- bytes, and then a write that adds some first part of more where it fails
pub OnErr-then : {T E : Type 0} (a b c : Option (List ℕ)) (xs ys : List ℕ) (result : Result T E)
    → Appends a b xs → OnErr result (AppendsPart b c ys) → OnErr result (AppendsPart a c (xs ++ ys))
OnErr-then a b c xs ys (Ok value) first second = tt
OnErr-then a b c xs ys (Err error) first second = AppendsPart-then a b c xs ys first second
