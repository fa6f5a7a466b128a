use Rattle.std.proofs.Common.{ℕ, ◌≡◌, ◌⊎◌, List, Some, subst, sym}
use Rattle.std.specs.Prelude.{IfSome, OnOk}
use Rattle.tide_grow_shape.specs.transitions.Cells.{Shown}
use Rattle.tide_grow_shape.specs.growers.Grown.{Knowledge, known_keys}
use Rattle.tide_grow_shape.specs.growers.Stands.{Stands}
use Rattle.tide_grow_shape.proofs.growers_laws.GrowingLaws.{own_name}
use Rattle.tide_grow_shape.proofs.growers_laws.TogetherLaws.{stands_by}
use Rattle.tide_grow_shape.proofs.growers.grower.Grower.merge.Goals as goal

pub merge-requires-clause-mine : goal.merge-requires-clause-mine
merge-requires-clause-mine c = stands_by c.self.inside c.args.self.now c.table.inside.cells c.args.table.now c.self.view_is c.table.view_is c.requires.own c.self.invariant.stands

pub merge-requires-clause-theirs : goal.merge-requires-clause-theirs
merge-requires-clause-theirs c = stands_by c.other.inside c.args.other.now c.table.inside.cells c.args.table.now c.other.view_is c.table.view_is c.requires.theirs c.other.invariant.stands

pub invariant_of-self : goal.invariant_of-self
invariant_of-self c =
    let name = own_name c.self.inside c.args.self.now c.table.inside.cells c.args.table.now c.self.view_is c.table.view_is c.requires.own in
    record {
      stands = subst (λ (name : List ℕ). Stands name c.merge.new.self.sights c.merge.new.self.known) (sym name) c.merge.ensures.stands;
      beyond = subst (λ o. IfSome o (Shown c.self.inside.table.numbers)) (sym c.merge.ensures.beyond) c.self.invariant.beyond;
    }

pub returns-clause-kept : goal.returns-clause-kept
returns-clause-kept c = subst (λ (k : Knowledge). (shape : ℕ) (keys : List ℕ) → known_keys k.known shape ≡ Some keys → known_keys c.merge.new.self.known shape ≡ Some keys) c.self.view_is c.merge.ensures.kept

pub returns-clause-merged : goal.returns-clause-merged
returns-clause-merged c = subst (λ (k : Knowledge). OnOk c.merge.result ((shape : ℕ) (keys : List ℕ) → known_keys k.known shape ≡ Some keys → known_keys c.merge.new.self.known shape ≡ Some keys)) c.other.view_is c.merge.ensures.merged

pub returns-clause-only : goal.returns-clause-only
returns-clause-only c = subst (λ (k : Knowledge). (shape : ℕ) (keys : List ℕ) → known_keys c.merge.new.self.known shape ≡ Some keys → (known_keys c.args.self.now.known shape ≡ Some keys) ⊎ (known_keys k.known shape ≡ Some keys)) c.other.view_is
    (subst (λ (k : Knowledge). (shape : ℕ) (keys : List ℕ) → known_keys c.merge.new.self.known shape ≡ Some keys → (known_keys k.known shape ≡ Some keys) ⊎ (known_keys c.other.inside.maker.known shape ≡ Some keys)) c.self.view_is c.merge.ensures.only)
