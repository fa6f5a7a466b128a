-- Operations are the same where a test of their variants and fields says so.
use Rattle.std.proofs.Common.{ℕ, ◌≡◌, ◌&&◌, Bool, true, false, true≢false, List, [], ◌∷◌, refl, sym, ap}
use Rattle.std.proofs.lemmas.Bool.{eqb-true}
use Rattle.std.proofs.Math.Dec.{eqb}
use Rattle.tide.specs.tide_model.contracts.op.Op.{enum}
use Rattle.tide.specs.tide_model.declared.op.Op.{Op}
use denote.Enum.Compared.{Each, by}
use denote.Enum.Declared.{Choice, Record, values_one}
use denote.Struct.Field.{Field}
use denote.Struct.Values.{Values}
use mathlib.Core.Logic.{inl, inr}

-- of each variant, a test of the fields that is met tells that they are the same
abbrev Tells : (Fss : List (List Field)) → Each Bool Fss → Type 0
Tells [] tests = Unit {0}
Tells (Fs ∷ Fss) tests = ((x y : Values Fs) → tests.0 x y ≡ true → x ≡ y) × Tells Fss tests.1

-- so is what they are of
choices_same : (Fss : List (List Field)) (tests : Each Bool Fss) → Tells Fss tests → (c d : Choice Fss) →
    by false false Fss tests c d ≡ true → c ≡ d
choices_same [] tests tell c d met = absurd c
choices_same (Fs ∷ Fss) tests tell (inl x) (inl y) met = ap inl (tell.0 x y met)
choices_same (Fs ∷ Fss) tests tell (inl x) (inr y) met = absurd (true≢false (sym met))
choices_same (Fs ∷ Fss) tests tell (inr x) (inl y) met = absurd (true≢false (sym met))
choices_same (Fs ∷ Fss) tests tell (inr x) (inr y) met = ap inr (choices_same Fss tests.1 tell.1 x y met)

same : (N : Record) (tests : Each Bool N.parts) → Tells N.parts tests → (a b : N.D) →
    by false false N.parts tests (N.as_values a) (N.as_values b) ≡ true → a ≡ b
same N tests tell a b met = values_one N a b (choices_same N.parts tests tell (N.as_values a) (N.as_values b) met)

-- the tests of no field, and of one, two and three numbers
abbrev none : Unit {0} → Unit {0} → Bool
none x y = true

abbrev one : ℕ × Unit {0} → ℕ × Unit {0} → Bool
one x y = eqb x.0 y.0

abbrev two : ℕ × (ℕ × Unit {0}) → ℕ × (ℕ × Unit {0}) → Bool
two x y = eqb x.0 y.0 && eqb x.1.0 y.1.0

abbrev three : ℕ × (ℕ × (ℕ × Unit {0})) → ℕ × (ℕ × (ℕ × Unit {0})) → Bool
three x y = eqb x.0 y.0 && (eqb x.1.0 y.1.0 && eqb x.1.1.0 y.1.1.0)

both : (s t : Bool) → (s && t) ≡ true → (s ≡ true) × (t ≡ true)
both true t is = (refl, is)
both false t is = absurd (true≢false (sym is))

none_tells : (x y : Unit {0}) → none x y ≡ true → x ≡ y
none_tells x y met = refl

one_tells : (x y : ℕ × Unit {0}) → one x y ≡ true → x ≡ y
one_tells x y met = λ j. (eqb-true x.0 y.0 met j, tt)

two_tells : (x y : ℕ × (ℕ × Unit {0})) → two x y ≡ true → x ≡ y
two_tells x y met =
    let it = both (eqb x.0 y.0) (eqb x.1.0 y.1.0) met in
    λ j. (eqb-true x.0 y.0 it.0 j, (eqb-true x.1.0 y.1.0 it.1 j, tt))

three_tells : (x y : ℕ × (ℕ × (ℕ × Unit {0}))) → three x y ≡ true → x ≡ y
three_tells x y met =
    let it = both (eqb x.0 y.0) (eqb x.1.0 y.1.0 && eqb x.1.1.0 y.1.1.0) met in
    let others = both (eqb x.1.0 y.1.0) (eqb x.1.1.0 y.1.1.0) it.1 in
    λ j. (eqb-true x.0 y.0 it.0 j, (eqb-true x.1.0 y.1.0 others.0 j, (eqb-true x.1.1.0 y.1.1.0 others.1 j, tt)))

-- those of the variants, in their order
abbrev tests : Each Bool enum.parts
tests = (two, (one, (three, (three, (two, (two, (one, (one, (one, (none, (three, (three, (three, (two, (two, (two, (two, (three, (three, (two, (two, (none, (none, tt)))))))))))))))))))))))

-- the test of two operations
abbrev pub is_same : Op → Op → Bool
is_same a b = by false false enum.parts tests (enum.as_values a) (enum.as_values b)

pub operations_same : (a b : Op) → is_same a b ≡ true → a ≡ b
operations_same = same enum tests (two_tells, (one_tells, (three_tells, (three_tells, (two_tells, (two_tells, (one_tells, (one_tells, (one_tells, (none_tells, (three_tells, (three_tells, (three_tells, (two_tells, (two_tells, (two_tells, (two_tells, (three_tells, (three_tells, (two_tells, (two_tells, (none_tells, (none_tells, tt)))))))))))))))))))))))
