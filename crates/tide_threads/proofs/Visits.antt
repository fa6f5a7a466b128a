-- What the notes of a part tell of visits, once they are taken in, participant by participant.
use Rattle.std.proofs.Common.{ℕ, suc, ◌≡◌, ◌<◌, ◌≤◌, ◌+◌, ◌-◌, ◌∙◌, refl, sym, ap, subst, arith, Bool, true, false, List, [], ◌∷◌, length, inl, inr}
use Rattle.std.proofs.lemmas.Bool.{eq-eqb}
use Rattle.std.specs.Prelude.{◌⊎◌, ◌==◌, ◌&&◌, Option, None, Some, if◌then◌else◌, slice_get}
use Rattle.crossbeam_utils.specs.Padded.{padded_value}
use Rattle.crossbeam_utils.specs.declared.cache_padded.CachePadded.{CachePadded}
use Rattle.tide_heap.specs.Turns.{visited_of}
use Rattle.tide_heap.specs.tide_core.machine.World.{first_visitor}
use Rattle.tide_heap.specs.tide_core.declared.machine.view.View.{View}
use Rattle.tide_heap.specs.tide_core.declared.machine.view.NotedVisits.{NotedVisits}
use Rattle.tide_table.proofs.VisitsTold.{HasTold, HasTold-mutator, HasTold-nothing, HasTold-visitor}
use Rattle.tide_table.specs.VisitsTold.{HaveTold}
use Rattle.tide_threads.specs.Acting.{before_all, noted_all, notes_in, told_in}
use Rattle.tide_threads.specs.declared.participant.Participant.{Participant}

-- a mutator's note tells no visits, and that it has done its part
pub record MutatorTells (mutators at : ℕ) (u : View) : Type 0 where
  pub is_mutator : at < mutators
  pub who : u.who < first_visitor
  pub none : u.visits ≡ 0
  pub done : u.done ≡ true

-- a visitor's note of the part tells how many cells it made black, no more than this, and that it has done its part
pub record VisitorTells (mutators most period at : ℕ) (u : View) : Type 0 where
  pub visitor : ℕ
  pub place : at ≡ mutators + visitor
  pub who : u.who ≡ first_visitor + visitor
  pub begun : u.begun ≡ period
  pub few : u.visits ≤ most
  pub done : u.done ≡ true

-- what the note of the participant at a place tells, if it is out, where so many mutators come first: each visitor's is
abbrev pub TellsAt : ℕ → ℕ → ℕ → ℕ → Option View → Type 0
TellsAt mutators most period at None = at < mutators
TellsAt mutators most period at (Some u) = MutatorTells mutators at u ⊎ VisitorTells mutators most period at u

-- so many visitors have told, and each note that was taken in says that its participant has done its part
record IsToldUpTo (mutators most at : ℕ) (v : View) : Type 0 where
  told : HasTold most (at - mutators) v.visited
  done : v.done ≡ true

none_by : (visits : ℕ) → visits ≡ 0 → (b : Bool) → (if b then visits else 0) ≡ 0
none_by visits none true = none
none_by visits none false = refl

module _ (mutators most : ℕ) where
  -- one participant more
  ToldUpTo-more : (at : ℕ) (v : View) (o : Option View) → TellsAt mutators most v.period at o →
      IsToldUpTo mutators most at v → IsToldUpTo mutators most (suc at) (noted_all (before_all o []) v)
  ToldUpTo-more at v None below so = record {
    told = subst (λ (n : ℕ). HasTold most n v.visited) (let same : at - mutators ≡ suc at - mutators = omega (arith, below) in same) so.told;
    done = so.done;
  }
  ToldUpTo-more at v (Some u) (inl tells) so =
      let below = tells.is_mutator in record {
        told = subst (λ (n : ℕ). HasTold most n (visited_of v.period u ∷ v.visited))
            (let same : at - mutators ≡ suc at - mutators = omega (arith, below) in same)
            (HasTold-mutator most (at - mutators) (visited_of v.period u) v.visited tells.who
            (none_by u.visits tells.none (u.begun == v.period)) so.told);
        done = ap (λ (b : Bool). b && u.done) so.done ∙ tells.done;
      }
  ToldUpTo-more at v (Some u) (inr tells) so =
      let place = tells.place in
      let count : at - mutators ≡ tells.visitor = omega (arith, place) in
      let next : suc tells.visitor ≡ suc at - mutators = omega (arith, place) in
      let who = tells.who in
      let visits : (if u.begun == v.period then u.visits else 0) ≡ u.visits =
      ap (λ (b : Bool). if b then u.visits else 0) (eq-eqb u.begun v.period tells.begun) in
      let done = tells.done in
      record {
        told = subst (λ (n : ℕ). HasTold most n (visited_of v.period u ∷ v.visited)) next
            (HasTold-visitor most tells.visitor u.visits (visited_of v.period u) v.visited
            (λ i. record { who = who i; visits = visits i; done = done i }) tells.few
            (subst (λ (n : ℕ). HasTold most n v.visited) count so.told));
        done = ap (λ (b : Bool). b && u.done) so.done ∙ done;
      }

  -- all of them
  ToldUpTo-all : (ys : List (CachePadded Participant)) (at : ℕ) (v : View) →
      ((k : ℕ) (y : CachePadded Participant) → slice_get ys k ≡ Some y →
      TellsAt mutators most v.period (at + k) (told_in (padded_value y).note)) →
      IsToldUpTo mutators most at v → IsToldUpTo mutators most (at + length ys) (noted_all (notes_in ys) v)
  ToldUpTo-all [] at v tells so =
      subst (λ (n : ℕ). IsToldUpTo mutators most n v) (let same : at ≡ at + 0 = omega arith in same) so
  ToldUpTo-all (y ∷ ys) at v tells so =
      let o = told_in (padded_value y).note in
      let here = subst (λ (n : ℕ). TellsAt mutators most v.period n o) (let same : at + 0 ≡ at = omega arith in same)
      (tells 0 y refl) in
      subst (λ (n : ℕ). IsToldUpTo mutators most n (noted_all (before_all o (notes_in ys)) v))
      (let same : suc at + length ys ≡ at + length (y ∷ ys) = omega arith in same)
      (split o (ToldUpTo-all ys (suc at) (noted_all (before_all o []) v)
      (λ k z found. subst (λ (p : ℕ). TellsAt mutators most p (suc at + k) (told_in (padded_value z).note)) (sym (same_period o))
      (subst (λ (n : ℕ). TellsAt mutators most v.period n (told_in (padded_value z).note))
      (let same : at + suc k ≡ suc at + k = omega arith in same) (tells (suc k) z found)))
      (ToldUpTo-more at v o here so)))
    where
      same_period : (o : Option View) → (noted_all (before_all o []) v).period ≡ v.period
      same_period None = refl
      same_period (Some u) = refl

      split : (o : Option View) → IsToldUpTo mutators most (suc at + length ys) (noted_all (notes_in ys) (noted_all (before_all o []) v)) →
          IsToldUpTo mutators most (suc at + length ys) (noted_all (before_all o (notes_in ys)) v)
      split None so = so
      split (Some u) so = so

-- once all notes are in, all visitors have told
pub HaveTold-all : (mutators visitors most : ℕ) (ys : List (CachePadded Participant)) (v : View) → v.visited ≡ [] →
    v.done ≡ true → length ys ≡ mutators + visitors →
    ((k : ℕ) (y : CachePadded Participant) → slice_get ys k ≡ Some y →
    TellsAt mutators most v.period k (told_in (padded_value y).note)) →
    HaveTold most visitors (noted_all (notes_in ys) v).visited × ((noted_all (notes_in ys) v).done ≡ true)
HaveTold-all mutators visitors most ys v none done many tells =
    let so = ToldUpTo-all mutators most ys 0 v
    (λ k y found. subst (λ (n : ℕ). TellsAt mutators most v.period n (told_in (padded_value y).note))
    (let same : k ≡ 0 + k = omega arith in same) (tells k y found)) (record {
      told = subst (λ (l : List NotedVisits). HasTold most (0 - mutators) l) (sym none)
          (subst (λ (n : ℕ). HasTold most n []) (let same : 0 ≡ 0 - mutators = omega arith in same) (HasTold-nothing most));
      done = done;
    }) in (
      subst (λ (n : ℕ). HaveTold most n (noted_all (notes_in ys) v).visited)
          (let same : 0 + length ys - mutators ≡ visitors = omega (arith, many) in same) so.told.told,
      so.done,
    )
