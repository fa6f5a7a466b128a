-- What a mutator with another value in a register, or with other claims, leaves.
use Rattle.std.proofs.Common.{ℕ, ◌≡◌, ◌<◌, false, refl, sym, ◌∙◌, ap, List, length, get_or}
use Rattle.std.specs.Prelude.{slice_set}
use Rattle.tide_model.specs.declared.val.Val.{Val}
use Rattle.tide_model.specs.declared.val.Val.TheVariants.{Empty}
use Rattle.tide_model.specs.Numbers.{put_at}
use Rattle.tide_model.specs.Applied.{put_claims, put_register}
use Rattle.tide_plain.specs.stored.Stored.{Stored}
use Rattle.tide_plain.specs.declared.parts.mutators.StoredMutator.{StoredMutator}
use Rattle.tide_plain.specs.parts.Changes.{filled, with_claims}
use Rattle.tide_plain.specs.parts.PartLists.{blank_mutator, mutator_at}
use Rattle.tide_plain.specs.stored.Contents.{state_of, IsStored}
use Rattle.tide_plain.proofs.parts_laws.ListsAsFunctions.{get_or-kept, get_or-put, put_at-map, reads-put, reads-same}

-- what the registers of a mutator hold
abbrev held : StoredMutator → ℕ → Val
held mutator register = get_or mutator.registers register Empty

pub state_of-register : (contents : Stored) (who register : ℕ) (value : Val) (mutator : StoredMutator) →
    mutator_at contents.mutators who ≡ mutator → who < length contents.mutators → register < length mutator.registers →
    state_of (record contents { mutators = slice_set contents.mutators who (filled mutator register value) }) ≡ put_register (state_of contents) who register value
state_of-register contents who register value mutator is_mutator within there = λ i. record (state_of contents) {
  active = reads-same (λ m. m.is_active) contents.mutators who (filled mutator register value) blank_mutator within (ap (λ m. m.is_active) (sym is_mutator)) i;
  registers = registers i;
  claims = reads-same (λ m. m.claims.items) contents.mutators who (filled mutator register value) blank_mutator within (ap (λ m. m.claims.items) (sym is_mutator)) i;
}
  where
    registers : (λ (n : ℕ). held (mutator_at (slice_set contents.mutators who (filled mutator register value)) n)) ≡ (put_register (state_of contents) who register value).registers
    registers =
        reads-put held contents.mutators who (filled mutator register value) blank_mutator within
        ∙ ap (put_at (λ (n : ℕ). held (mutator_at contents.mutators n)) who) (reads-put (λ v. v) mutator.registers register value Empty there)
        ∙ ap (λ (m : StoredMutator). put_at (λ (n : ℕ). held (mutator_at contents.mutators n)) who (put_at (held m) register value)) (sym is_mutator)

-- a mutator with other claims
pub state_of-claims : (contents : Stored) (who : ℕ) (claims : List ℕ) → who < length contents.mutators →
    state_of (record contents { mutators = slice_set contents.mutators who (with_claims (mutator_at contents.mutators who) claims) }) ≡ put_claims (state_of contents) who claims
state_of-claims contents who claims within = λ i. record (state_of contents) {
  active = λ n. get_or-kept (λ (m : StoredMutator). m.is_active) contents.mutators who changed blank_mutator within refl n i;
  registers = λ n register. get_or (get_or-kept (λ (m : StoredMutator). m.registers) contents.mutators who changed blank_mutator within refl n i) register Empty;
  claims = λ n. (ap (λ (m : StoredMutator). m.claims.items) (get_or-put contents.mutators who changed blank_mutator within n)
      ∙ put_at-map (λ (m : StoredMutator). m.claims.items) (λ k. mutator_at contents.mutators k) who changed n) i;
}
  where
    changed : StoredMutator
    changed = with_claims (mutator_at contents.mutators who) claims

-- a mutator that is active no more
pub state_of-retired : (contents : Stored) (who : ℕ) → who < length contents.mutators →
    state_of (record contents { mutators = slice_set contents.mutators who (record (mutator_at contents.mutators who) { is_active = false }) })
    ≡ record (state_of contents) { active = put_at (state_of contents).active who false }
state_of-retired contents who within = λ i. record (state_of contents) {
  active = reads-put (λ (m : StoredMutator). m.is_active) contents.mutators who changed blank_mutator within i;
  registers = λ n register. get_or (get_or-kept (λ (m : StoredMutator). m.registers) contents.mutators who changed blank_mutator within refl n i) register Empty;
  claims = reads-same (λ (m : StoredMutator). m.claims.items) contents.mutators who changed blank_mutator within refl i;
}
  where
    changed : StoredMutator
    changed = record (mutator_at contents.mutators who) { is_active = false }

-- the mutators, the strong handles or the weak ones are others, as many
pub IsStored-mutators : (contents : Stored) (mutators : List StoredMutator) → length mutators ≡ length contents.mutators → IsStored contents → IsStored (record contents { mutators = mutators })
IsStored-mutators contents mutators as_many old = record {
  limits = old.limits;
  table = old.table;
  all_mutators = as_many ∙ old.all_mutators;
  all_strong = old.all_strong;
  all_weak = old.all_weak;
  all_flags = old.all_flags;
  all_cells = old.all_cells;
  all_statuses = old.all_statuses;
  all_elements = old.all_elements;
  shapes = old.shapes;
  arrays = old.arrays;
  pairs = old.pairs;
}
