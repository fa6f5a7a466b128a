-- Sizes that aren't refused are those within their limits.
use Rattle.std.proofs.Common.{ℕ, ◌≡◌, ◌+◌, ◌≤◌, ◌∙◌, refl, sym, arith, Bool, true, false, List, [], ◌∷◌}
use Rattle.std.proofs.lemmas.Bool.{le-ltb, ltb-false, or_parts}
use Rattle.std.proofs.lemmas.Option.{none-some}
use Rattle.std.specs.Prelude.{◌↔◌, ◌||◌, All, None, Option, Some, length, position, slice_index_or}
use Rattle.tide.specs.Sizes.{AreWithin, first_of, is_no_path, is_outside, is_too_large, refusal_of_numbers, refusal_of_sizes, refused_at, refused_if}
use Rattle.tide.specs.declared.sizes.Refused.{Refused}
use Rattle.tide.specs.declared.sizes.Refused.TheVariants.{Blocks, Calls, Headroom, Helpers, Members, Registers, Trigger, Visits}
use Rattle.tide.specs.declared.sizes.Sizes.{Sizes}
use Rattle.tide_server.proofs.tide_model.PositionLaws.{All-position, position_nowhere}
use Rattle.tide_server.specs.tide_shape.Shapes.{IsPath}

-- where none of some reasons holds, the first doesn't, and none of the others does
none_of : (reason : Option Refused) (others : List (Option Refused)) → first_of (reason ∷ others) ≡ None →
    (reason ≡ None) × (first_of others ≡ None)
none_of None others is = (refl, is)
none_of (Some refused) others is = absurd (none-some refused (sym is))

none_if : (holds : Bool) (refused : Refused) → refused_if holds refused ≡ None → holds ≡ false
none_if true refused is = absurd (none-some refused (sym is))
none_if false refused is = refl

none_at : (of : ℕ → Refused) (place : Option ℕ) → refused_at of place ≡ None → place ≡ None
none_at of None is = refl
none_at of (Some place) is = absurd (none-some (of place) (sym is))

-- a number that isn't outside is between the two
inside : (least most number : ℕ) (refused : Refused) → refused_if (is_outside least most number) refused ≡ None →
    (least ≤ number) × (number ≤ most)
inside least most number refused is =
    let both = or_parts _ _ (none_if (is_outside least most number) refused is) in
    (ltb-false number least both.0, ltb-false most number both.1)

between : (least most number : ℕ) → least ≤ number → number ≤ most → is_outside least most number ≡ false
between least most number low high = λ i. le-ltb number least low i || le-ltb most number high i

-- no class is too large where each is small enough
all_small : (classes : List ℕ) → position is_too_large classes ≡ None → All (λ blocks. blocks ≤ 262144) classes
all_small classes none = λ k d within.
    ltb-false 262144 (slice_index_or classes k d) (All-position is_too_large classes none k d within)

none_large : (classes : List ℕ) → All (λ blocks. blocks ≤ 262144) classes → position is_too_large classes ≡ None
none_large classes all = position_nowhere is_too_large classes 0
    (λ k within. le-ltb 262144 (slice_index_or classes k 0) (all k 0 within))

module _ (sizes : Sizes) where
  within_limits : refusal_of_sizes sizes ≡ None → AreWithin sizes
  within_limits is =
      let cells = none_of _ _ is in
      let arrays = none_of _ _ cells.1 in
      let numbers = none_of _ _ arrays.1 in
      let registers = none_of _ _ numbers.0 in
      let members = none_of _ _ registers.1 in
      let helpers = none_of _ _ members.1 in
      let calls = none_of _ _ helpers.1 in
      let visits = none_of _ _ calls.1 in
      let headroom = none_of _ _ visits.1 in
      let trigger = none_of _ _ headroom.1 in
      let some = inside 1 16 sizes.members Members members.0 in
      let paced = inside 4 65536 sizes.calls Calls calls.0 in
      let marks = inside 4 65536 sizes.visits Visits visits.0 in
      let room = inside 1 1000000 sizes.headroom Headroom headroom.0 in
      record {
        cells = all_small sizes.cells (none_at (λ class. Blocks class) (position is_too_large sizes.cells) cells.0);
        arrays = all_small sizes.arrays
            (none_at (λ class. Blocks (5 + class)) (position is_too_large sizes.arrays) arrays.0);
        registers = (inside 0 249 (sizes.registers + sizes.stack) Registers registers.0).1;
        some = some.0;
        members = some.1;
        helpers = (inside 0 8 sizes.helpers Helpers helpers.0).1;
        some_calls = paced.0;
        calls = paced.1;
        some_visits = marks.0;
        visits = marks.1;
        some_headroom = room.0;
        headroom = room.1;
        trigger = (inside 0 1000000 sizes.trigger Trigger trigger.0).1;
      }

  no_number_refused : AreWithin sizes → refusal_of_numbers sizes ≡ None
  no_number_refused are = λ i. first_of (
      refused_if (between 0 249 (sizes.registers + sizes.stack) (omega arith) are.registers i) Registers
      ∷ refused_if (between 1 16 sizes.members are.some are.members i) Members
      ∷ refused_if (between 0 8 sizes.helpers (omega arith) are.helpers i) Helpers
      ∷ refused_if (between 4 65536 sizes.calls are.some_calls are.calls i) Calls
      ∷ refused_if (between 4 65536 sizes.visits are.some_visits are.visits i) Visits
      ∷ refused_if (between 1 1000000 sizes.headroom are.some_headroom are.headroom i) Headroom
      ∷ refused_if (between 0 1000000 sizes.trigger (omega arith) are.trigger i) Trigger
      ∷ [])

  not_refused : AreWithin sizes → refusal_of_sizes sizes ≡ None
  not_refused are = λ i. first_of (
      refused_at (λ class. Blocks class) (none_large sizes.cells are.cells i)
      ∷ refused_at (λ class. Blocks (5 + class)) (none_large sizes.arrays are.arrays i)
      ∷ no_number_refused are i
      ∷ [])

  -- so where the reason is told, just those within their limits have none
  pub none_where_within : (reason : Option Refused) → reason ≡ refusal_of_sizes sizes → (reason ≡ None) ↔ AreWithin sizes
  none_where_within reason is = (λ none. within_limits (sym is ∙ none), λ are. is ∙ not_refused are)

-- paths of which none is odd are paths as they may be declared
pub all_are_paths : (paths : List (List ℕ)) → position is_no_path paths ≡ None → All IsPath paths
all_are_paths paths none k d within =
    let both = or_parts _ _ (All-position is_no_path paths none k d within) in
    record {
      some = ltb-false (length (slice_index_or paths k d)) 1 both.0;
      short = ltb-false 64 (length (slice_index_or paths k d)) both.1;
    }
