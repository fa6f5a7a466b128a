-- Small histories that the definitions refuse, each next to one that they accept.
use Rattle.std.specs.Prelude.{ℕ, ◌≡◌, ◌≤◌, ◌==◌, ◌⊎◌, refl, Bool, true, false, List, [], ◌∷◌, take, if◌then◌else◌}
use Rattle.std.proofs.Common.{arith, inl, inr, subst, lit<}
use Rattle.tide_model.specs.declared.val.Val.{Val}
use Rattle.tide_model.specs.declared.val.Val.TheVariants.{Empty, Cell}
use Rattle.tide_model.specs.declared.op.Op.TheVariants.{Alloc, Set, Group}
use Rattle.tide_model.specs.declared.op.Reply.TheVariants.{Done}
use Rattle.tide_model.specs.declared.entry.Entry.TheVariants.{Call}
use Rattle.tide_model.specs.declared.entry.Event.{Event}
use Rattle.tide_model.specs.Graph.{IsRoot, in_register, claimed, in_handle, IsClosed, retained_in_closed}
use Rattle.tide_model.specs.History.{plain, state_at}
use Rattle.tide_model.specs.Cycle.{StandsEnd, cycle_span}
use Rattle.tide_model.specs.Lawful.{FitsLayout, IsLawful}
use Rattle.tide_model.specs.Old.{IsSpared}
use Rattle.tide_model.specs.Refused.{no_shapes}
use Rattle.tide_model.specs.Rows.{small, kept_then_freed}

-- the history up to the second end: the mutator has retired, and nothing keeps cell 0
abbrev before_second_end : List Event
before_second_end = take 8 kept_then_freed

-- after the second beginning nothing is a root
no_root : (moment cell : ℕ) → (moment ≡ 7) ⊎ (moment ≡ 8) → IsRoot (state_at small before_second_end moment) cell → ⊥
no_root moment cell (inl at) root = let P : ℕ → Type 0 = λ m. IsRoot (state_at small before_second_end m) cell in none (subst P at root)
  where
    none : IsRoot (state_at small before_second_end 7) cell → ⊥
    none (in_register who register active is) = retired_register (who == 0) register active is
      where
        retired_register : (a : Bool) (r : ℕ) → (if a then false else true) ≡ true → if◌then◌else◌ {A = ℕ → Val} a (λ n. if n == 0 then Cell 0 else Empty) (λ _. Empty) r ≡ Cell cell → ⊥
        retired_register true r e h = absurd (cc)
        retired_register false r e h = absurd (cc)
    none (claimed who has) = absurd (omega (arith, has.1))
    none (in_handle handle is) = absurd (cc)
no_root moment cell (inr at) root = let P : ℕ → Type 0 = λ m. IsRoot (state_at small before_second_end m) cell in none (subst P at root)
  where
    none : IsRoot (state_at small before_second_end 8) cell → ⊥
    none (in_register who register active is) = retired_register (who == 0) register active is
      where
        retired_register : (a : Bool) (r : ℕ) → (if a then false else true) ≡ true → if◌then◌else◌ {A = ℕ → Val} a (λ n. if n == 0 then Cell 0 else Empty) (λ _. Empty) r ≡ Cell cell → ⊥
        retired_register true r e h = absurd (cc)
        retired_register false r e h = absurd (cc)
    none (claimed who has) = absurd (omega (arith, has.1))
    none (in_handle handle is) = absurd (cc)

-- an end that keeps the cell of a retired mutator's register is refused
pub garbage_is_not_kept : StandsEnd small before_second_end 2 [] → ⊥
garbage_is_not_kept stands =
    retained_in_closed (cycle_span small before_second_end) (IsSpared small before_second_end) (λ cell. ⊥) closed 0 (stands.keeps 0 refl (λ is. absurd (cc)))
  where
    seven_or_eight : (moment : ℕ) → 7 ≤ moment → moment ≤ 8 → (moment ≡ 7) ⊎ (moment ≡ 8)
    seven_or_eight moment low high = step (moment == 7) moment low high refl
      where
        step : (b : Bool) (m : ℕ) → 7 ≤ m → m ≤ 8 → (m == 7) ≡ b → (m ≡ 7) ⊎ (m ≡ 8)
        step b m l h e = grind (arith)

    closed : IsClosed (cycle_span small before_second_end) (IsSpared small before_second_end) (λ cell. ⊥)
    closed = record {
      roots = λ cell root. no_root root.0 cell (seven_or_eight root.0 root.1 root.2) root.3;
      further_cells = λ cell spared. (let eden : false ≡ true = spared in cc);
      links = λ source cell kept link. kept;
      pairs = λ table key cell kept_table kept_key triple. kept_table;
      group_mates = λ one other kept group_mate. kept;
    }

-- a fifth register, and a class without slots
pub register_is_there : FitsLayout small (Alloc 4 0) → ⊥
register_is_there fits = omega (arith, fits.0)

pub class_has_slots : FitsLayout small (Alloc 3 4) → ⊥
class_has_slots fits = omega (arith, fits.1)

pub last_register_fits : FitsLayout small (Alloc 3 3)
last_register_fits = (lit< tt, lit< tt)

-- the largest number of 32 bits may be set and name a group, and larger ones may not
pub last_number_fits : FitsLayout small (Set 3 4294967295) × FitsLayout small (Group 3 4294967295)
last_number_fits = ((lit< tt, lit< tt), (lit< tt, lit< tt))

pub next_number_does_not_fit : FitsLayout small (Set 3 4294967296) → ⊥
next_number_does_not_fit fits = omega (arith, fits.1)

pub large_group_does_not_fit : FitsLayout small (Group 3 4294967296) → ⊥
large_group_does_not_fit fits = omega (arith, fits.1)

pub large_number_is_not_set : IsLawful small no_shapes (plain (Call 0 (Set 0 1099511627776) Done) ∷ []) → ⊥
large_number_is_not_set lawful = let below = (lawful 0 (plain (Call 0 (Set 0 1099511627776) Done)) refl).fits.1 in omega (arith, below)
