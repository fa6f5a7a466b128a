-- The collector takes both notes in, and what they tell of visits may be entered at the freeze.
use Rattle.std.proofs.Common.{ℕ, zero, suc, ◌≡◌, ◌+◌, ◌≤◌, ◌⊎◌, refl, sym, ◌∙◌, ap, subst, arith, inl, inr, Bool, true, false, List, [], ◌∷◌}
use Rattle.std.proofs.lemmas.Bool.{eq-eqb}
use Rattle.std.specs.Prelude.{◌==◌, ◌&&◌, if◌then◌else◌, Some}
use Rattle.tide.specs.Parts.{HasDoneItsPart}
use Rattle.tide.specs.tide_freeze.declared.books.Books.{Books}
use Rattle.tide.specs.tide_heap.Parties.{In, IsParty}
use Rattle.tide.specs.tide_heap.Turns.{noted, visited_of}
use Rattle.tide.specs.tide_core.machine.World.{first_visitor}
use Rattle.tide.specs.tide_core.declared.machine.view.View.{View}
use Rattle.tide.specs.tide_core.declared.machine.view.NotedVisits.{NotedVisits}
use Rattle.tide.specs.tide_model.Layout.{Layout}
use Rattle.tide.proofs.tide_table.Nexts.{RunsWith-noted}
use Rattle.tide.specs.tide_table.Standing.{RunsWith}
use Rattle.tide.specs.tide_table.VisitsTold.{HaveTold, VisitsAreIn, most_visits, told_by, visits_left}

-- what a note told of visits
told_visits : (who period : ℕ) (t u : View) → HasDoneItsPart who t u → t.period ≡ period →
    visited_of period u ≡ record { who = who; visits = u.visits; done = true }
told_visits who period t u has same = λ i. record { who = has.is i; visits = begun i; done = has.done i }
  where
    begun : (if u.begun == period then u.visits else 0) ≡ u.visits
    begun = ap (λ (b : Bool). if b then u.visits else 0) (eq-eqb u.begun period (has.begun ∙ same))

-- Below, both notes of a part were taken in: v is the collector's view before, with the tickets t and s.
module _ (v t s one other w : View) (first : HasDoneItsPart 0 t one) (second : HasDoneItsPart 16 s other)
    (heard : t.period ≡ v.period) (heard_too : s.period ≡ v.period) (took : w ≡ noted (noted v one) other) where
  pub both_runs : (layout : Layout) (books : Books) → RunsWith layout books v → RunsWith layout books w
  both_runs layout books runs =
      subst (RunsWith layout books) (sym took) (RunsWith-noted layout books (noted v one) other (RunsWith-noted layout books v one runs))

  pub both_in : v.notes ≡ [] → w.notes ≡ 16 ∷ 0 ∷ []
  both_in none = ap (λ (x : View). x.notes) took ∙ (λ i. second.is i ∷ first.is i ∷ none i)

  pub both_told : v.visited ≡ [] → one.visits ≡ 0 →
      w.visited ≡ record { who = 16; visits = other.visits; done = true } ∷ record { who = 0; visits = 0; done = true } ∷ []
  both_told none unvisited = ap (λ (x : View). x.visited) took
      ∙ (λ i. told_visits 16 v.period s other second heard_too i
      ∷ (told_visits 0 v.period t one first heard ∙ ap (λ (n : ℕ). record { who = 0; visits = n; done = true }) unvisited) i
      ∷ none i)

  pub both_done : v.done ≡ true → w.done ≡ true
  both_done done = ap (λ (x : View). x.done) took ∙ all_three v.done one.done other.done done first.done second.done
    where
      all_three : (a b c : Bool) → a ≡ true → b ≡ true → c ≡ true → ((a && b) && c) ≡ true
      all_three true true true is so too = refl
      all_three true true false is so too = too
      all_three true false c is so too = absurd (cc)
      all_three false b c is so too = absurd (cc)

-- the notes of the mutator and of the visitor are those of all
pub all_in : (layout : Layout) (notes gone : List ℕ) → layout.mutators ≡ 1 → layout.visitors ≡ 1 → notes ≡ 16 ∷ 0 ∷ [] →
    (i : ℕ) → IsParty layout i → In i notes ⊎ In i gone
all_in layout notes gone one other both i (inl below) =
    inl (subst (In i) (sym both) (inr (inl (omega (arith, below, one)))))
all_in layout notes gone one other both i (inr (least, most)) =
    inl (subst (In i) (sym both) (inl (omega (arith, least, most, other))))

-- what both notes told of visits may be entered at the freeze
pub visits_are_in : (layout : Layout) (v : View) (k : ℕ) → layout.visitors ≡ 1 →
    v.visited ≡ record { who = 16; visits = k; done = true } ∷ record { who = 0; visits = 0; done = true } ∷ [] →
    v.done ≡ true → k ≤ v.run → (v.marks ≡ false → k ≡ 0) → VisitsAreIn layout v
visits_are_in layout v k one told done few none = record {
  told = subst (λ (visited : List NotedVisits). HaveTold (most_visits v) layout.visitors visited) (sym told) (record {
    each = λ visitor below. (k, most v.marks refl, by visitor (omega (arith, below, one)));
    all = subst (λ (n : ℕ). k + (0 + 0) ≡ visits_left both 0 n) (sym one) refl;
  });
  done = λ visitors. done;
}
  where
    both : List NotedVisits
    both = record { who = 16; visits = k; done = true } ∷ record { who = 0; visits = 0; done = true } ∷ []

    most : (marks : Bool) → v.marks ≡ marks → k ≤ (if marks then v.run else 0)
    most true marks = few
    most false idle = (let nothing = none idle in omega (arith, nothing))

    by : (visitor : ℕ) → visitor ≡ 0 → told_by (first_visitor + visitor) both
        ≡ Some (record { who = first_visitor + visitor; visits = k; done = true })
    by zero is = refl
    by (suc n) is = absurd (cc)
