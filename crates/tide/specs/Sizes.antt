-- How large a heap of some sizes is, and why sizes and paths are refused.
use Rattle.std.specs.Prelude.{ℕ, ◌+◌, ◌≤◌, ◌<◌, ◌||◌, Bool, All, List, [], ◌∷◌, Option, None, Some, if◌then◌else◌, length, nat_lt, position}
use Rattle.tide.specs.declared.sizes.Refused.{Refused}
use Rattle.tide.specs.declared.sizes.Refused.TheVariants.{Blocks, Calls, DoubleKey, Headroom, Helpers, Members, Path, Registers, Trigger, Visits}
use Rattle.tide.specs.declared.sizes.Sizes.{Sizes}
use Rattle.tide_server.specs.tide_model.Layout.{Layout}
use Rattle.tide_server.specs.tide_model.Pace.{Pace}
use Rattle.tide_server.specs.tide_shape.Shapes.{first_double}

-- the layout of a heap of these sizes: each mutator has one register more, for operands
abbrev pub layout_of : Sizes → Layout
layout_of sizes = record {
  cell_blocks = sizes.cells;
  array_blocks = sizes.arrays;
  registers = sizes.registers + 1 + sizes.stack;
  strong = sizes.strong;
  weak = sizes.weak;
  mutators = sizes.members;
  visitors = sizes.helpers;
}

-- the numbers of its schedule
abbrev pub pace_of_sizes : Sizes → Pace
pace_of_sizes sizes = record {
  calls = sizes.calls;
  visits = sizes.visits;
  headroom = sizes.headroom;
  trigger = sizes.trigger;
}

-- each number is in its limit
pub record AreWithin (sizes : Sizes) : Type 0 where
  pub cells : All (λ blocks. blocks ≤ 262144) sizes.cells
  pub arrays : All (λ blocks. blocks ≤ 262144) sizes.arrays
  pub registers : sizes.registers + sizes.stack ≤ 249
  pub some : 0 < sizes.members
  pub members : sizes.members ≤ 16
  pub helpers : sizes.helpers ≤ 8
  pub some_calls : 4 ≤ sizes.calls
  pub calls : sizes.calls ≤ 65536
  pub some_visits : 4 ≤ sizes.visits
  pub visits : sizes.visits ≤ 65536
  pub some_headroom : 1 ≤ sizes.headroom
  pub headroom : sizes.headroom ≤ 1000000
  pub trigger : sizes.trigger ≤ 1000000

-- a class may not have so many blocks
abbrev pub is_too_large : ℕ → Bool
is_too_large blocks = nat_lt 262144 blocks

-- the number is less than the first of these, or more than the second
abbrev pub is_outside : ℕ → ℕ → ℕ → Bool
is_outside least most number = nat_lt number least || nat_lt most number

-- the reason, where it holds
abbrev pub refused_if : Bool → Refused → Option Refused
refused_if holds refused = if holds then Some refused else None

-- the reason of what is wrong with the one that is at a place, if one is
abbrev pub refused_at : (ℕ → Refused) → Option ℕ → Option Refused
refused_at of None = None
refused_at of (Some place) = Some (of place)

-- the first of some reasons that holds
abbrev pub first_of : List (Option Refused) → Option Refused
first_of [] = None
first_of (None ∷ others) = first_of others
first_of (Some refused ∷ others) = Some refused

-- why the numbers beside the blocks are refused, where they are
abbrev pub refusal_of_numbers : Sizes → Option Refused
refusal_of_numbers sizes = first_of (
    refused_if (is_outside 0 249 (sizes.registers + sizes.stack)) Registers
    ∷ refused_if (is_outside 1 16 sizes.members) Members
    ∷ refused_if (is_outside 0 8 sizes.helpers) Helpers
    ∷ refused_if (is_outside 4 65536 sizes.calls) Calls
    ∷ refused_if (is_outside 4 65536 sizes.visits) Visits
    ∷ refused_if (is_outside 1 1000000 sizes.headroom) Headroom
    ∷ refused_if (is_outside 0 1000000 sizes.trigger) Trigger
    ∷ [])

-- why these sizes are refused, where they are
abbrev pub refusal_of_sizes : Sizes → Option Refused
refusal_of_sizes sizes = first_of (
    refused_at (λ class. Blocks class) (position is_too_large sizes.cells)
    ∷ refused_at (λ class. Blocks (5 + class)) (position is_too_large sizes.arrays)
    ∷ refusal_of_numbers sizes
    ∷ [])

-- a path has no key, or more than 64
abbrev pub is_no_path : List ℕ → Bool
is_no_path path = is_outside 1 64 (length path)

-- why these paths are refused, where they are
abbrev pub refusal_of_paths : List (List ℕ) → Option Refused
refusal_of_paths paths = first_of (
    refused_at (λ path. Path path) (position is_no_path paths)
    ∷ refused_at (λ path. DoubleKey path) (first_double paths)
    ∷ [])

-- why no heap of these sizes is opened with these paths, where none is: want of memory apart
abbrev pub refusal_of : Sizes → List (List ℕ) → Option Refused
refusal_of sizes paths = first_of (refusal_of_sizes sizes ∷ refusal_of_paths paths ∷ [])
