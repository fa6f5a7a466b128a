-- Where an operand is that names no register.
use Rattle.std.proofs.Common.{ℕ, ◌≡◌, refl}
use Rattle.std.specs.Prelude.{Err, Ok}
use Rattle.tide.specs.Threads.{Calling, HasBrought, HasDone, op_of, scratch_of}
use Rattle.tide.specs.declared.stop.Src.{Src}
use Rattle.tide.specs.declared.stop.Src.TheVariants as src
use Rattle.tide.specs.declared.stop.Stop.{Stop}

module _ (old new : Calling) (base : ℕ) where
  -- it was put into the register for operands
  pub brings : (val : Src) (at : ℕ) → ((register : ℕ) → val ≡ src.Reg register → ⊥) → at ≡ scratch_of base →
      HasDone old new (op_of at val) (Ok tt) → HasBrought old new base val (Ok at)
  brings (src.Reg register) at other is done = absurd (other register refl)
  brings (src.Int n) at other is done = (is, done)
  brings src.Empty at other is done = (is, done)

  -- or it couldn't be
  pub brings_nothing : (val : Src) (why : Stop) → ((register : ℕ) → val ≡ src.Reg register → ⊥) →
      HasDone old new (op_of (scratch_of base) val) (Err why) → HasBrought old new base val (Err why)
  brings_nothing (src.Reg register) why other done = absurd (other register refl)
  brings_nothing (src.Int n) why other done = done
  brings_nothing src.Empty why other done = done
