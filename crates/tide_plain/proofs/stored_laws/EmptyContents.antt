-- The contents in which all is free and empty.
use Rattle.std.proofs.Common.{ℕ, ◌≡◌, sym, ◌∙◌, ap, Bool, false, List, length, get_or}
use Rattle.std.specs.Prelude.{replicate, if◌then◌else◌}
use Rattle.std.proofs.lemmas.List.{length-replicate}
use Rattle.tide_model.specs.declared.val.Val.{Val}
use Rattle.tide_model.specs.declared.val.Val.TheVariants.{Empty}
use Rattle.tide_model.specs.Layout.{cell_count, array_count}
use Rattle.tide_model.specs.State.{State, blank_cell, free, live, empty_state}
use Rattle.tide_layout.specs.Limits.{IsWithinLimits}
use Rattle.tide_shape.specs.ShapeTable.{IsShapeTable}
use Rattle.tide_plain.specs.stored.Stored.{Stored}
use Rattle.tide_plain.specs.declared.parts.mutators.StoredMutator.{StoredMutator}
use Rattle.tide_plain.specs.declared.statuses.ArrayStatus.{ArrayStatus}
use Rattle.tide_plain.specs.declared.statuses.ArrayStatus.TheVariants.{Free}
use Rattle.tide_plain.specs.statuses.Statuses.{status_of}
use Rattle.tide_plain.specs.parts.PartLists.{blank_mutator, blank_stored, no_elements, mutator_at}
use Rattle.tide_plain.specs.stored.Stored.{live_cell}
use Rattle.tide_plain.specs.stored.Contents.{state_of, IsStored}
use Rattle.tide_plain.proofs.parts_laws.Copies.{get_or-copies}

-- every list is of copies of what is blank, as many as the layout says
pub record IsBlank (contents : Stored) : Type 0 where
  pub mutators : contents.mutators ≡ replicate contents.layout.mutators blank_mutator
  pub strong : contents.strong ≡ replicate contents.layout.strong Empty
  pub weak : contents.weak ≡ replicate contents.layout.weak Empty
  pub are_live : contents.are_live ≡ replicate (cell_count contents.layout) false
  pub cells : contents.cells ≡ replicate (cell_count contents.layout) blank_stored
  pub statuses : contents.statuses ≡ replicate (array_count contents.layout) Free
  pub elements : contents.elements ≡ replicate (array_count contents.layout) no_elements

-- the mutators are blank
mutator_at-blank : (contents : Stored) → IsBlank contents → (who : ℕ) → mutator_at contents.mutators who ≡ blank_mutator
mutator_at-blank contents blank who =
    ap (λ (mutators : List StoredMutator). mutator_at mutators who) blank.mutators ∙ get_or-copies contents.layout.mutators who blank_mutator

-- no cell is live
none_live : (contents : Stored) → IsBlank contents → (cell : ℕ) → get_or contents.are_live cell false ≡ false
none_live contents blank cell =
    ap (λ (flags : List Bool). get_or flags cell false) blank.are_live ∙ get_or-copies (cell_count contents.layout) cell false

-- the state of blank contents is the empty one
pub state_of-blank : (contents : Stored) → IsBlank contents → state_of contents ≡ empty_state
state_of-blank contents blank = λ i. record empty_state {
  active = λ who. ap (λ (m : StoredMutator). m.is_active) (mutator_at-blank contents blank who) i;
  registers = λ who register.
      (ap (λ (m : StoredMutator). get_or m.registers register Empty) (mutator_at-blank contents blank who) ∙ get_or-copies 250 register Empty) i;
  claims = λ who. ap (λ (m : StoredMutator). m.claims.items) (mutator_at-blank contents blank who) i;
  strong = λ handle. (ap (λ (values : List Val). get_or values handle Empty) blank.strong ∙ get_or-copies contents.layout.strong handle Empty) i;
  weak = λ handle. (ap (λ (values : List Val). get_or values handle Empty) blank.weak ∙ get_or-copies contents.layout.weak handle Empty) i;
  cells = λ cell. ap (λ (b : Bool). if b then live_cell contents.shapes contents.elements (get_or contents.cells cell blank_stored) else blank_cell free)
      (none_live contents blank cell) i;
  arrays = λ array. ap status_of (ap (λ (statuses : List ArrayStatus). get_or statuses array Free) blank.statuses ∙ get_or-copies (array_count contents.layout) array Free) i;
}

-- blank contents are stored as they should be
pub IsStored-blank : (contents : Stored) → IsBlank contents → IsWithinLimits contents.layout → IsShapeTable contents.shapes → IsStored contents
IsStored-blank contents blank limits table = record {
  limits = limits;
  table = table;
  all_mutators = ap length blank.mutators ∙ length-replicate contents.layout.mutators blank_mutator;
  all_strong = ap length blank.strong ∙ length-replicate contents.layout.strong Empty;
  all_weak = ap length blank.weak ∙ length-replicate contents.layout.weak Empty;
  all_flags = ap length blank.are_live ∙ length-replicate (cell_count contents.layout) false;
  all_cells = ap length blank.cells ∙ length-replicate (cell_count contents.layout) blank_stored;
  all_statuses = ap length blank.statuses ∙ length-replicate (array_count contents.layout) Free;
  all_elements = ap length blank.elements ∙ length-replicate (array_count contents.layout) no_elements;
  shapes = λ cell alive. absurd (no_live_cell cell alive);
  arrays = λ cell alive. absurd (no_live_cell cell alive);
  pairs = λ cell alive. absurd (no_live_cell cell alive);
}
  where
    no_live_cell : (cell : ℕ) → ((state_of contents).cells cell).status ≡ live → ⊥
    no_live_cell cell alive =
        let is_free : ((state_of contents).cells cell).status ≡ free = ap (λ (s : State). (s.cells cell).status) (state_of-blank contents blank) in
        let clash : free ≡ live = sym is_free ∙ alive in cc
