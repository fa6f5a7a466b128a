-- Which cells the words of a small heap name, and a word that names none.
use Rattle.std.proofs.Common.{ℕ, ◌≡◌, ◌+◌, ◌*◌, ◌-◌, ◌^◌, ◌==◌, refl, ap, arith, Bool, true, false}
use Rattle.std.specs.Prelude.{if◌then◌else◌}
use Rattle.tide_layout.specs.declared.region.Region.TheVariants.{Claim, Free, Group, Registers}
use Rattle.tide_model.specs.Layout.{block_of_cell}
use Rattle.tide_layout.specs.Region.{index_of_register}
use Rattle.tide_words.specs.heap.EmptyHeap.{empty_heap}
use Rattle.tide_words.specs.heap.Heap.{Heap, write}
use Rattle.tide_words.specs.marking.Named.{AreGroupMatesOfWords, IsNamedByMutator, of_register, of_claim}
use Rattle.tide_words.proofs.marking_laws.ReadingRows.{small}

-- a register with the word of cell 1 names it
register_names : IsNamedByMutator small (write empty_heap Registers 0 6) 1
register_names = of_register 0 0 (omega arith) (omega arith) refl refl

-- one with the word 3 names none, since 3 is no value's word
three_names_none : (cell : ℕ) → IsNamedByMutator small (write empty_heap Registers 0 3) cell → ⊥
three_names_none cell (of_register who register in_mutators in_registers active is) = by_place (index_of_register small who register == 0) is
  where
    by_place : (here : Bool) → (if here then 3 else 0) ≡ 4 * cell + 2 → ⊥
    by_place true word = omega (arith, word)
    by_place false word = omega (arith, word)
three_names_none cell (of_claim who in_mutators within occupied is) = omega (arith, is)

-- the claim of cell 0 names it, where the block isn't all free
claim_names : IsNamedByMutator small (write (write empty_heap Free 0 (2 ^ 64 - 2)) Claim 0 1) 0
claim_names = of_claim 0 (omega arith) (omega arith) (λ vacant. absurd (omega (arith, vacant))) refl

-- in one that is all free it names none
free_claim_names_none : (cell : ℕ) → IsNamedByMutator small (write empty_heap Claim 0 1) cell → ⊥
free_claim_names_none cell (of_register who register in_mutators in_registers active is) = omega (arith, is)
free_claim_names_none cell (of_claim who in_mutators within occupied is) =
    let block : block_of_cell cell ≡ 0 = omega (arith, within) in
    occupied (ap (write empty_heap Claim 0 1 Free) block)

-- cells 0 and 1 are live, and both have this group word
abbrev of_group : ℕ → Heap
of_group word = write (write (write empty_heap Free 0 (2 ^ 64 - 2 ^ 2)) Group 0 word) Group 1 word

-- with the word of a group they are group mates
group_has_group_mates : AreGroupMatesOfWords small (of_group 7) 0 1
group_has_group_mates = record {
  one_within = omega arith;
  other_within = omega arith;
  one_is_live = refl;
  other_is_live = refl;
  same_group = refl;
  in_a_group = λ none. absurd (omega (arith, none));
  number = omega arith;
}

-- with a word that is none of a group they aren't
large_group_has_none : AreGroupMatesOfWords small (of_group (2 ^ 32)) 0 1 → ⊥
large_group_has_none group_mates = let number = group_mates.number in omega (arith, number)
