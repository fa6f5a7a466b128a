-- How what the notes of visitors tell grows, note by note.
use Rattle.std.proofs.Common.{ℕ, zero, suc, ◌≡◌, ◌<◌, ◌≤◌, ◌+◌, ◌∙◌, refl, sym, subst, ap, arith, Bool, true, List, [], ◌∷◌, inl, inr}
use Rattle.std.proofs.lemmas.Bool.{cases_eq, eq-eqb, ne_eqb}
use Rattle.std.proofs.lemmas.List.Elements.{All-head, All-tail}
use Rattle.std.specs.Prelude.{◌*◌, ◌^◌, All, Some, None, if◌then◌else◌, slice_index}
use Rattle.tide_heap.specs.tide_core.machine.World.{first_visitor}
use Rattle.tide_heap.specs.tide_core.declared.machine.view.NotedVisits.{NotedVisits}
use Rattle.tide_model.specs.Layout.{Layout}
use Rattle.tide_table.specs.VisitsTold.{AreNumbersTold, AreTold, HaveTold, told_by, visits_in, visits_left, visits_told}

-- so many visitors told, the first ones, and the others nothing yet
pub record HasTold (most count : ℕ) (visited : List NotedVisits) : Type 0 where
  pub told : HaveTold most count visited
  pub later : (visitor : ℕ) → count ≤ visitor → told_by (first_visitor + visitor) visited ≡ None

told_by-other : (told : NotedVisits) (visited : List NotedVisits) (who : ℕ) → (told.who ≡ who → ⊥) →
    told_by who (told ∷ visited) ≡ told_by who visited
told_by-other told visited who apart =
    ap (λ (b : Bool). if b then Some told else told_by who visited) (ne_eqb told.who who apart)

told_by-same : (told : NotedVisits) (visited : List NotedVisits) (who : ℕ) → told.who ≡ who → told_by who (told ∷ visited) ≡ Some told
told_by-same told visited who same =
    ap (λ (b : Bool). if b then Some told else told_by who visited) (eq-eqb told.who who same)

visits_left-other : (told : NotedVisits) (visited : List NotedVisits) (from count : ℕ) →
    ((visitor : ℕ) → visitor < from + count → told.who ≡ first_visitor + visitor → ⊥) →
    visits_left (told ∷ visited) from count ≡ visits_left visited from count
visits_left-other told visited from zero apart = refl
visits_left-other told visited from (suc count) apart =
    let here = ap visits_in (told_by-other told visited (first_visitor + from) (apart from (omega arith))) in
    let rest = visits_left-other told visited (from + 1) count (λ visitor below. apart visitor (omega (arith, below))) in
    omega (arith, here, rest)

pub visits_left-more : (visited : List NotedVisits) (from count : ℕ) → visits_left visited from (suc count)
    ≡ visits_left visited from count + visits_in (told_by (first_visitor + (from + count)) visited)
visits_left-more visited from zero =
    let same : from + 0 ≡ from = omega arith in
    let here = ap (λ (n : ℕ). visits_in (told_by (first_visitor + n) visited)) same in
    omega (arith, here)
visits_left-more visited from (suc count) =
    let rest = visits_left-more visited (from + 1) count in
    let same : from + 1 + count ≡ from + suc count = omega arith in
    let here = ap (λ (n : ℕ). visits_in (told_by (first_visitor + n) visited)) same in
    omega (arith, rest, here)

-- nobody told anything yet
pub HasTold-nothing : (most : ℕ) → HasTold most 0 []
HasTold-nothing most = record {
  told = record { each = λ visitor below. absurd (omega (arith, below)); all = refl };
  later = λ visitor from. refl;
}

-- a mutator's note tells no visits
pub HasTold-mutator : (most count : ℕ) (told : NotedVisits) (visited : List NotedVisits) → told.who < first_visitor → told.visits ≡ 0 →
    HasTold most count visited → HasTold most count (told ∷ visited)
HasTold-mutator most count told visited is none has = record {
  told = record {
    each = λ visitor below. let e = has.told.each visitor below in
        (e.0, e.1, told_by-other told visited (first_visitor + visitor) (λ same. omega (arith, is, same)) ∙ e.2);
    all = (let all = has.told.all in
        let rest = visits_left-other told visited 0 count (λ visitor below same. omega (arith, is, same)) in
        omega (arith, none, all, rest));
  };
  later = λ visitor from. told_by-other told visited (first_visitor + visitor) (λ same. omega (arith, is, same))
      ∙ has.later visitor from;
}

-- the next visitor's note tells its visits
pub HasTold-visitor : (most count k : ℕ) (told : NotedVisits) (visited : List NotedVisits) →
    told ≡ record { who = first_visitor + count; visits = k; done = true } → k ≤ most →
    HasTold most count visited → HasTold most (suc count) (told ∷ visited)
HasTold-visitor most count k told visited is few has = record {
  told = record {
    each = λ visitor below. elim (cases_eq visitor count) [
      | inl same ↦ (
        k,
        few,
        told_by-same told visited (first_visitor + visitor)
            (let who = ap (λ (t : NotedVisits). t.who) is in omega (arith, same, who))
            ∙ ap (λ (t : NotedVisits). Some t) is
            ∙ ap (λ (n : ℕ). Some (record { who = first_visitor + n; visits = k; done = true })) (sym same),
      )
      | inr apart ↦ let e = has.told.each visitor (omega (arith, below, apart)) in (
        e.0,
        e.1,
        told_by-other told visited (first_visitor + visitor)
            (λ same. apart (let who = ap (λ (t : NotedVisits). t.who) is in omega (arith, same, who))) ∙ e.2,
      )
    ];
    all =
        let all = has.told.all in
        let more = visits_left-more (told ∷ visited) 0 count in
        let rest = visits_left-other told visited 0 count
        (λ visitor below same. let who = ap (λ (t : NotedVisits). t.who) is in omega (arith, below, same, who)) in
        let here = ap visits_in (told_by-same told visited (first_visitor + (0 + count)) (ap (λ (t : NotedVisits). t.who) is ∙ plain)) in
        omega (arith, all, more, rest, here);
  };
  later = λ visitor from. told_by-other told visited (first_visitor + visitor)
      (λ same. let who = ap (λ (t : NotedVisits). t.who) is in omega (arith, from, same, who))
      ∙ has.later visitor (omega (arith, from));
}
  where
    plain : first_visitor + count ≡ first_visitor + (0 + count)
    plain = omega arith

-- each visitor told no more visits than the most that one of them told
each_most : (visited : List NotedVisits) (most from count : ℕ) → All (λ k. k ≤ most) (visits_told visited from count) →
    (i : ℕ) → i < count → visits_in (told_by (first_visitor + (from + i)) visited) ≤ most
each_most visited most from zero all i below = absurd (omega (arith, below))
each_most visited most from (suc count) all zero below =
    let same : from ≡ from + 0 = omega arith in
    subst (λ (n : ℕ). visits_in (told_by (first_visitor + n) visited) ≤ most) same
    (All-head (λ k. k ≤ most) (visits_in (told_by (first_visitor + from) visited)) (visits_told visited (from + 1) count) all)
each_most visited most from (suc count) all (suc i) below =
    let same : from + 1 + i ≡ from + suc i = omega arith in
    subst (λ (n : ℕ). visits_in (told_by (first_visitor + n) visited) ≤ most) same
    (each_most visited most (from + 1) count
    (All-tail (λ k. k ≤ most) (visits_in (told_by (first_visitor + from) visited)) (visits_told visited (from + 1) count) all)
    i (omega (arith, below)))

-- so that the first ones, of at most 2^16 each, told so many together at most
pub visits_left-most : (visited : List NotedVisits) (most count n : ℕ) → most ≤ 2 ^ 16 → n ≤ count →
    All (λ k. k ≤ most) (visits_told visited 0 count) → visits_left visited 0 n ≤ n * 2 ^ 16
visits_left-most visited most count zero few within all = omega arith
visits_left-most visited most count (suc n) few within all =
    let before = visits_left-most visited most count n few (omega (arith, within)) all in
    let more = visits_left-more visited 0 n in
    let here = each_most visited most 0 count all n (omega (arith, within)) in
    omega (arith, before, more, here, few)

-- one more visitor's number is what its note told
pub visits_left-next : (layout : Layout) (run : ℕ) (visited : List NotedVisits) (numbers : List ℕ) (n : ℕ) → AreTold layout run visited →
    AreNumbersTold numbers visited → layout.visitors ≤ 8 → n < layout.visitors →
    visits_left visited 0 (n + 1) ≡ visits_left visited 0 n + slice_index numbers n
visits_left-next layout run visited numbers n are numbered few below =
    let (k, told) = are.each n below in
    let more = visits_left-more visited 0 n in
    let number = numbered n (record { who = first_visitor + n; visits = k; done = true }) (omega (arith, few, below)) told in
    let here = ap visits_in told in
    let count = ap (visits_left visited 0) (one_more n) in
    let same = ap (λ (m : ℕ). visits_in (told_by (first_visitor + m) visited)) (none_more n) in
    omega (arith, more, number, here, count, same)
  where
    one_more : (m : ℕ) → m + 1 ≡ suc m
    one_more m = omega arith

    none_more : (m : ℕ) → 0 + m ≡ m
    none_more m = omega arith
