-- The table has the width of each class.
use Rattle.std.proofs.Common.{ℕ, zero, suc, ◌≡◌, ◌≤◌, ◌<◌, ◌∙◌, refl, ap, arith, List, ◌∷◌, []}
use Rattle.std.specs.Prelude.{slice_index}
use Rattle.tide_layout.specs.Slots.{width_of_class}
use Rattle.tide_layout.proofs.sizes.width.Goals as goal

abbrev widths : List ℕ
widths = 2 ∷ 4 ∷ 8 ∷ 16 ∷ 8 ∷ 4 ∷ 8 ∷ 16 ∷ 32 ∷ 64 ∷ []

widths-are : (class : ℕ) → class < 10 → slice_index widths class ≡ width_of_class class
widths-are zero few = refl
widths-are (suc zero) few = refl
widths-are (suc (suc zero)) few = refl
widths-are (suc (suc (suc zero))) few = refl
widths-are (suc (suc (suc (suc zero)))) few = refl
widths-are (suc (suc (suc (suc (suc zero))))) few = refl
widths-are (suc (suc (suc (suc (suc (suc zero)))))) few = refl
widths-are (suc (suc (suc (suc (suc (suc (suc zero))))))) few = refl
widths-are (suc (suc (suc (suc (suc (suc (suc (suc zero)))))))) few = refl
widths-are (suc (suc (suc (suc (suc (suc (suc (suc (suc zero))))))))) few = refl
widths-are (suc (suc (suc (suc (suc (suc (suc (suc (suc (suc class)))))))))) few = absurd (omega (arith, few))

pub returns-clause-width : goal.returns-clause-width
returns-clause-width c = ap (slice_index widths) c.from.ensures ∙ widths-are c.args.class c.requires
