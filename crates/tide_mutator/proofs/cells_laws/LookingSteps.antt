-- What a mutator knows of a block whose word of free bits it has seen.
use Rattle.std.proofs.Common.{ℕ, ◌≡◌, ◌<◌, ◌==◌, sym, ◌∙◌, ap, subst, arith, refl, true, false, List, ◌∷◌, length}
use Rattle.std.proofs.lemmas.Bool.{eqb-false}
use Rattle.std.specs.Int.{bit_at}
use Rattle.std.specs.Prelude.{Contains, None, filter}
use Rattle.tide_heap.specs.tide_layout.Region.{block_count}
use Rattle.tide_heap.specs.tide_layout.declared.region.Region.{Region}
use Rattle.tide_heap.specs.tide_layout.declared.region.Region.TheVariants.{Free}
use Rattle.tide_mutator.proofs.cells_laws.Looking.{looked_once}
use Rattle.tide_mutator.specs.cells.Searching.{HasLooked, HasSeen}
use Rattle.tide_heap.specs.tide_core.machine.Kind.{LoadFree}
use Rattle.tide_heap.specs.tide_core.machine.Moment.{Moment}
use Rattle.tide_heap.specs.tide_sweep.declared.port.Cleared.{Cleared}
use Rattle.tide_heap.specs.tide_core.declared.machine.view.FullBlock.{FullBlock}
use Rattle.tide_heap.specs.tide_core.declared.machine.view.View.{View}
use Rattle.tide_model.specs.Caller.{IsOwn}
use Rattle.tide_model.specs.History.{is_call_of}
use Rattle.tide_model.specs.Layout.{Layout}
use Rattle.tide_model.specs.Refused.{ShapeLists}
use Rattle.tide_model.specs.declared.entry.Event.{Event}
use Rattle.tide_heap.specs.steps.Follows.{Follows, MayStep}

-- a bit that isn't 1 is 0
pub clear_by : (word k : ℕ) → (bit_at word k == 1) ≡ false → bit_at word k ≡ 0
clear_by word k clear =
    let not_one = eqb-false (bit_at word k) 1 clear in
    omega (arith, not_one)

-- it has seen the word now: each block that it knows to be cleared was so before
pub seen_once : (layout : Layout) (shapes : ShapeLists) (v u : View) (log : List Event) (at : Region) (index found : ℕ) →
    Moment layout shapes v log at index found → (block read : ℕ) →
    u ≡ record v { full = record { block = block; moment = length log; word = read } ∷ v.full; found = read } →
    HasSeen u block read
seen_once layout shapes v u log at index found m block read view = record {
  moment = length log;
  saw = subst (λ (l : List FullBlock). Contains l (record { block = block; moment = length log; word = read }))
      (sym (ap (λ (x : View). x.full) view)) (0, omega arith, refl);
  late = λ one has. (m.cleared one
      (subst (λ (l : List Cleared). Contains l one) (ap (λ (x : View). x.cleared) view) has)).within;
}

module _ (layout : Layout) (shapes : ShapeLists) (v : View) (block : ℕ) where
  pub may_load : v.who < layout.mutators → v.runs ≡ true → block < block_count layout →
      MayStep layout shapes v (LoadFree block)
  may_load is_mutator runs within w running is = (
    record {
      is_mutator = is_mutator;
      runs = ap (λ (x : View). x.runs) is ∙ runs;
    },
    within,
  )

  module _ (read : ℕ) (u : View) (f : Follows layout shapes (LoadFree block) v read u) where
    pub looked_free : HasLooked v u
    looked_free = looked_once v u (record { block = block; moment = length f.log; word = read }) read f.view

    pub seen_free : HasSeen u block read
    seen_free = seen_once layout shapes v u f.log Free block read f.moment block read f.view

    -- who looks had seen all calls of its own
    pub own_before : IsOwn v.who v.seen v.mine
    own_before = sym (subst (λ (x : View). filter (λ event. is_call_of x.who event.entry) x.seen ≡ x.mine) f.view f.own)
