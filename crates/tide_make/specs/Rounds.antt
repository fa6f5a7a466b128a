-- One round of a mutator of the generated workload: it allocates a cell, links it to the one before and to one that is
-- drawn, and puts it into r0.
use Rattle.std.specs.Prelude.{ℕ, zero, suc, ◌+◌, ◌-◌, ◌*◌, ◌/◌, ◌%◌, ◌^◌, ◌==◌, min, if◌then◌else◌, List, [], ◌∷◌}
use Rattle.tide_model.specs.declared.op.Op.{Op}
use Rattle.tide_model.specs.declared.op.Op.TheVariants.{Alloc, Get, Put, Move, StrongSet}

-- what is drawn after a seed: a linear congruence over 64 bits
unfoldable pub next_seed : ℕ → ℕ
next_seed seed = (seed * 6364136223846793005 + 1442695040888963407) % 2 ^ 64

-- what a mutator of the workload of a number has drawn after so many rounds; it starts at the sum of the two numbers
unfoldable pub seed_after : ℕ → ℕ → ℕ → ℕ
seed_after number mutator zero = (number + mutator) % 2 ^ 64
seed_after number mutator (suc rounds) = next_seed (seed_after number mutator rounds)

-- the place of a round's cell in its chain: fifty rounds make a chain of fifty cells
abbrev pub place_in_chain : ℕ → ℕ
place_in_chain round = round % 50

-- the register of a round's cell: those from r1 to r7 take turns
abbrev pub own_register : ℕ → ℕ
own_register round = 1 + round % 7

-- how many cells back the drawn one is, which is among those of the chain that r1 to r7 still hold
abbrev pub back : ℕ → ℕ → ℕ
back seed round = seed / 2 ^ 33 % (min (place_in_chain round) 6 + 1)

-- the register of the drawn cell
abbrev pub linked_register : ℕ → ℕ → ℕ
linked_register seed round = own_register (round - back seed round)

-- the strong handle of the chain that a round ends: each mutator has 64, which its chains take in turn
abbrev pub handle_of : ℕ → ℕ → ℕ
handle_of mutator round = 64 * mutator + round / 50 % 64

-- the last operation of a round: a chain that is whole gets its handle, and else the cell before is read
abbrev pub last_op : ℕ → ℕ → Op
last_op mutator round = if place_in_chain round == 49 then StrongSet (handle_of mutator round) 0 else Get 8 0 0

-- the operations of a round; the first cell of a chain links to what r9 holds, which is nothing, and each other one to
-- the cell before
abbrev pub round_ops : ℕ → ℕ → ℕ → List Op
round_ops mutator round seed =
    Alloc (own_register round) mutator
    ∷ Put (own_register round) 0 (if place_in_chain round == 0 then 9 else 0)
    ∷ Move 0 (own_register round)
    ∷ Put 0 1 (linked_register seed round)
    ∷ last_op mutator round ∷ []
