-- Lists of copies of one value.
use Rattle.std.proofs.Common.{ℕ, zero, suc, ◌≡◌, refl, get_or}
use Rattle.std.specs.Prelude.{replicate}

-- copies of a value, and that value past their end
pub get_or-copies : {X : Type 0} (n place : ℕ) (value : X) → get_or (replicate n value) place value ≡ value
get_or-copies zero place value = refl
get_or-copies (suc n) zero value = refl
get_or-copies (suc n) (suc place) value = get_or-copies n place value
