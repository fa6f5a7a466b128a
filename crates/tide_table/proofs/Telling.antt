-- What notes of a part told of visits may be entered once it is frozen.
use Rattle.std.proofs.Common.{ℕ, zero, suc, ◌≡◌, ◌<◌, ◌≤◌, ◌+◌, ◌∙◌, refl, sym, ap, subst, arith, Bool, true, false, List, ◌∷◌, length, get_or}
use Rattle.std.proofs.lemmas.List.Sums.{sum_by-cons}
use Rattle.std.specs.Prelude.{All, Option, if◌then◌else◌, sum}
use Rattle.tide_heap.specs.Turns.{Freezes}
use Rattle.tide_heap.specs.tide_core.machine.World.{first_visitor}
use Rattle.tide_heap.specs.tide_core.declared.machine.view.View.{View}
use Rattle.tide_heap.specs.tide_core.declared.machine.view.NotedVisits.{NotedVisits}
use Rattle.tide_model.specs.Freeze.{marks_after}
use Rattle.tide_model.specs.Layout.{Layout}
use Rattle.tide_model.specs.Refused.{ShapeLists}
use Rattle.tide_table.proofs.Standing.{marks_still}
use Rattle.tide_table.specs.Standing.{MayEnterVisits, StandsStill}
use Rattle.tide_table.specs.VisitsTold.{AreTold, CountsTold, HaveTold, VisitsAreIn, most_visits, told_by, unentered, visits_in, visits_left, visits_told}
use Rattle.tide_heap.specs.tide_words.heap.Heap.{heap_of}
use Rattle.tide_heap.specs.tide_words.marking.Colours.{is_marking}

-- what the numbers told come to
pub length-visits_told : (visited : List NotedVisits) (from count : ℕ) → length (visits_told visited from count) ≡ count
length-visits_told visited from zero = refl
length-visits_told visited from (suc count) = ap suc (length-visits_told visited (from + 1) count)

pub sum-visits_told : (visited : List NotedVisits) (from count : ℕ) → sum (visits_told visited from count) ≡ visits_left visited from count
sum-visits_told visited from zero = refl
sum-visits_told visited from (suc count) =
    sum_by-cons (λ (k : ℕ). k) (visits_in (told_by (first_visitor + from) visited)) (visits_told visited (from + 1) count)
    ∙ ap (λ (n : ℕ). visits_in (told_by (first_visitor + from) visited) + n) (sum-visits_told visited (from + 1) count)

most-visits_told : (visited : List NotedVisits) (most from count : ℕ) →
    ((i : ℕ) → i < count → visits_in (told_by (first_visitor + (from + i)) visited) ≤ most) →
    All (λ k. k ≤ most) (visits_told visited from count)
most-visits_told visited most from zero each = λ k d below. absurd (omega (arith, below))
most-visits_told visited most from (suc count) each = λ k d below. by
    (most-visits_told visited most (from + 1) count
    (λ i within. subst (λ (n : ℕ). visits_in (told_by (first_visitor + n) visited) ≤ most)
    (let same : from + suc i ≡ from + 1 + i = omega arith in same) (each (suc i) (omega (arith, within))))) k below d
  where
    by : All (λ k. k ≤ most) (visits_told visited (from + 1) count) → (k : ℕ) →
        k < suc (length (visits_told visited (from + 1) count)) → (d : ℕ) →
        get_or (visits_in (told_by (first_visitor + from) visited) ∷ visits_told visited (from + 1) count) k d ≤ most
    by rest zero below d = subst (λ (n : ℕ). visits_in (told_by (first_visitor + n) visited) ≤ most)
        (let same : from + 0 ≡ from = omega arith in same) (each 0 (omega arith))
    by rest (suc k) below d = rest k d (omega (arith, below))

none-visits_left : (visited : List NotedVisits) (from count : ℕ) →
    ((i : ℕ) → i < count → visits_in (told_by (first_visitor + (from + i)) visited) ≤ 0) → visits_left visited from count ≡ 0
none-visits_left visited from zero each = refl
none-visits_left visited from (suc count) each =
    let rest = none-visits_left visited (from + 1) count
    (λ i below. subst (λ (n : ℕ). visits_in (told_by (first_visitor + n) visited) ≤ 0)
    (let same : from + suc i ≡ from + 1 + i = omega arith in same) (each (suc i) (omega (arith, below)))) in
    let here = subst (λ (n : ℕ). visits_in (told_by (first_visitor + n) visited) ≤ 0)
    (let same : from + 0 ≡ from = omega arith in same) (each 0 (omega arith)) in
    omega (arith, rest, here)

-- each visitor told no more than this
told_most : (most count : ℕ) (visited : List NotedVisits) → HaveTold most count visited → (i : ℕ) → i < count →
    visits_in (told_by (first_visitor + (0 + i)) visited) ≤ most
told_most most count visited has i below =
    let e = has.each i below in
    let same : i ≡ 0 + i = omega arith in
    subst (λ (n : ℕ). visits_in (told_by (first_visitor + n) visited) ≤ most) same
    (subst (λ (o : Option NotedVisits). visits_in o ≤ most) (sym e.2) e.1)

-- so what was told may be entered, if some cell was made black where there are visitors
pub AreTold-all : (layout : Layout) (run : ℕ) (visited : List NotedVisits) → HaveTold run layout.visitors visited →
    (0 < layout.visitors → 0 < unentered visited) → AreTold layout run visited
AreTold-all layout run visited has some = record {
  each = λ visitor below. let e = has.each visitor below in (e.0, e.2);
  all = has.all;
  are = record {
    one_each = length-visits_told visited 0 layout.visitors;
    at_most = most-visits_told visited run 0 layout.visitors (told_most run layout.visitors visited has);
    some = λ apart.
        let least = some (omega (arith, apart)) in
        let all = has.all in
        let sum_is = sum-visits_told visited 0 layout.visitors in
        omega (arith, least, all, sum_is);
  };
}

-- and nothing is left to enter where none was to make any black
pub unentered-none : (count : ℕ) (visited : List NotedVisits) → HaveTold 0 count visited → unentered visited ≡ 0
unentered-none count visited has = has.all ∙ none-visits_left visited 0 count (told_most 0 count visited has)

-- where there are no visitors nothing has to come in
pub VisitsAreIn-none : (layout : Layout) (v : View) → layout.visitors ≡ 0 → unentered v.visited ≡ 0 → VisitsAreIn layout v
VisitsAreIn-none layout v none is = record {
  told = record {
    each = λ visitor below. absurd (omega (arith, below, none));
    all = is ∙ sym (ap (λ (n : ℕ). visits_left v.visited 0 n) none);
  };
  done = λ visitors. absurd (omega (arith, visitors, none));
}

-- Below, v is the collector's view while a part runs, and w once it is frozen.
module _ (layout : Layout) (shapes : ShapeLists) (v w : View) (froze : Freezes layout shapes v w)
    (still : StandsStill layout shapes w) where
  -- a cycle marks then if one did when the part was opened
  pub marks_froze : marks_after layout w.seen ≡ v.marks
  marks_froze = marks_still layout shapes w still
      ∙ ap (λ (x : View). is_marking (heap_of layout x.words)) froze.view
      ∙ sym froze.marks

  -- what the notes told may be entered
  pub MayEnterVisits-froze : v.frozen ≡ false → CountsTold v → VisitsAreIn layout v → MayEnterVisits layout w
  MayEnterVisits-froze running counts are = record {
    marked = λ marks.
        let told : v.marks ≡ true = sym marks_froze ∙ marks in
        let most : most_visits v ≡ w.run = ap (λ (b : Bool). if b then v.run else 0) told
        ∙ sym (ap (λ (x : View). x.run) froze.view) in
        subst (AreTold layout w.run) (sym visited)
        (AreTold-all layout w.run v.visited (subst (λ (n : ℕ). HaveTold n layout.visitors v.visited) most are.told)
        (λ visitors. subst (λ (n : ℕ). 0 < n) (counts running) (froze.progress told visitors (are.done visitors))));
    rests = λ rests.
        let told : v.marks ≡ false = sym marks_froze ∙ rests in
        let none : most_visits v ≡ 0 = ap (λ (b : Bool). if b then v.run else 0) told in
        ap unentered visited
        ∙ unentered-none layout.visitors v.visited (subst (λ (n : ℕ). HaveTold n layout.visitors v.visited) none are.told);
  }
    where
      visited : w.visited ≡ v.visited
      visited = ap (λ (x : View). x.visited) froze.view
