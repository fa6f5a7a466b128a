use Rattle.std.proofs.Common.{ℕ, ◌≡◌, ◌≢◌, ◌<◌, ◌≤◌, List, [], ◌∷◌, ◌++◌, length, Some, Err, ap, subst, sym, ◌∙◌}
use Rattle.std.specs.Prelude.{◌↔◌, Contains, IfOk, IfSome, OnErr}
use Rattle.tide_grow_shape.specs.declared.growers.refused.GrowRefused.TheVariants.{Present, Deep, Many}
use Rattle.tide_grow_shape.specs.transitions.Cells.{Shown}
use Rattle.tide_grow_shape.specs.growers.Grown.{Knowledge, Table, known_keys}
use Rattle.tide_grow_shape.specs.growers.Stands.{Stands, index_of}
use Rattle.tide_grow_shape.proofs.growers_laws.GrowingLaws.{known_child, own_name}
use Rattle.tide_grow_shape.proofs.growers.grower.Grower.grow_at.Goals as goal

pub grow-requires-clause-stands : goal.grow-requires-clause-stands
grow-requires-clause-stands g c = λ κs lives. subst (λ (name : List ℕ). Stands name c.self.inside.maker.sights c.self.inside.maker.known)
    (own_name c.self.inside c.args.self.now c.table.inside.cells c.args.table.now c.self.view_is c.table.view_is c.requires.own) c.self.invariant.stands

pub grow-requires-clause-beyond : goal.grow-requires-clause-beyond
grow-requires-clause-beyond g c = λ κs lives. subst (λ (name : List ℕ). IfSome c.self.inside.maker.beyond (Shown name))
    (own_name c.self.inside c.args.self.now c.table.inside.cells c.args.table.now c.self.view_is c.table.view_is c.requires.own) c.self.invariant.beyond

pub grow-requires-clause-known : goal.grow-requires-clause-known
grow-requires-clause-known g c = λ κs lives none. c.requires.known (ap (λ (k : Knowledge). known_keys k.known c.args.shape) (sym c.self.view_is) ∙ none)

pub grow-requires-clause-of_table : goal.grow-requires-clause-of_table
grow-requires-clause-of_table g c = λ κs lives. subst (λ (t : Table). c.args.key < t.keys) (sym c.table.view_is) c.requires.of_table

pub invariant_of-self : goal.invariant_of-self
invariant_of-self g c =
    let name = own_name c.self.inside c.args.self.now c.table.inside.cells c.args.table.now c.self.view_is c.table.view_is c.requires.own in
    record {
      stands = subst (λ (name : List ℕ). Stands name c.grow.new.self.sights c.grow.new.self.known) (sym name) c.grow.ensures.stands;
      beyond = subst (λ (name : List ℕ). IfSome c.grow.new.self.beyond (Shown name)) (sym name) c.grow.ensures.beyond;
    }

pub returns-clause-found : goal.returns-clause-found
returns-clause-found g c = subst (λ (k : Knowledge). IfOk c.grow.result (λ child. (keys : List ℕ) → known_keys k.known c.args.shape ≡ Some keys → known_keys c.grow.new.self.known child ≡ Some (keys ++ c.args.key ∷ []))) c.self.view_is c.grow.ensures.found

pub returns-clause-kept : goal.returns-clause-kept
returns-clause-kept g c = subst (λ (k : Knowledge). (other : ℕ) (keys : List ℕ) → known_keys k.known other ≡ Some keys → known_keys c.grow.new.self.known other ≡ Some keys) c.self.view_is c.grow.ensures.kept

pub returns-clause-others : goal.returns-clause-others
returns-clause-others g c = subst (λ (k : Knowledge). IfOk c.grow.result (λ child. (other : ℕ) → other ≢ child → known_keys c.grow.new.self.known other ≡ known_keys k.known other)) c.self.view_is c.grow.ensures.others

pub returns-clause-refused : goal.returns-clause-refused
returns-clause-refused g c = subst (λ (k : Knowledge). OnErr c.grow.result (c.grow.new.self.known ≡ k.known)) c.self.view_is c.grow.ensures.refused

pub returns-clause-present : goal.returns-clause-present
returns-clause-present g c = subst (λ (k : Knowledge). (keys : List ℕ) → known_keys k.known c.args.shape ≡ Some keys → (c.grow.result ≡ Err Present) ↔ Contains keys c.args.key) c.self.view_is c.grow.ensures.present

pub returns-clause-deep : goal.returns-clause-deep
returns-clause-deep g c = subst (λ (k : Knowledge). (keys : List ℕ) → known_keys k.known c.args.shape ≡ Some keys → (c.grow.result ≡ Err Deep) ↔ ((length keys ≡ 64) × (¬ (Contains keys c.args.key)))) c.self.view_is c.grow.ensures.deep

pub returns-clause-child : goal.returns-clause-child
returns-clause-child g c = known_child c.args.self.now.known c.grow.new.self.known c.args.shape c.args.key c.grow.result c.requires.known (returns-clause-found g c)

pub returns-clause-last : goal.returns-clause-last
returns-clause-last g c = subst (λ (t : Table). IfOk c.grow.result (λ child. child ≤ t.last)) c.table.view_is c.grow.ensures.last

pub returns-clause-many : goal.returns-clause-many
returns-clause-many g c = subst (λ (t : Table). (index : ℕ) → c.grow.result ≡ Err (Many index) → (t.last ≤ index) × (index_of c.grow.new.self.beyond ≡ Some index)) c.table.view_is c.grow.ensures.many

pub returns-clause-beyond : goal.returns-clause-beyond
returns-clause-beyond g c = subst (λ (k : Knowledge). ((index : ℕ) → c.grow.result ≢ Err (Many index)) → index_of c.grow.new.self.beyond ≡ k.beyond) c.self.view_is (λ other. ap index_of (c.grow.ensures.alone other))
