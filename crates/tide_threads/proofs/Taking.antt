-- What notes that were taken in leave of the collector's view.
use Rattle.std.proofs.Common.{ℕ, zero, suc, ◌≡◌, ◌∙◌, refl, ap, subst, arith, Bool, true, false, List, [], ◌∷◌, ◌++◌, inl, inr}
use Rattle.std.proofs.lemmas.List.Elements.{Contains-append_cases, Contains-append_right}
use Rattle.std.specs.Prelude.{Contains, if◌then◌else◌}
use Rattle.tide_heap.specs.Parties.{In}
use Rattle.tide_heap.specs.Turns.{calls_of, noted}
use Rattle.tide_heap.specs.tide_core.declared.machine.view.NotedCalls.{NotedCalls}
use Rattle.tide_heap.specs.tide_core.declared.machine.view.View.{View}
use Rattle.tide_threads.specs.Acting.{noted_all}

-- Notes were taken in, from the first view of the collector to the second. It knows all that it knew of notes, and who
-- has left.
pub record TookNotes (v w : View) : Type 0 where
  pub frozen : w.frozen ≡ v.frozen
  pub period : w.period ≡ v.period
  pub run : w.run ≡ v.run
  pub marks : w.marks ≡ v.marks
  pub start : w.start ≡ v.start
  pub notes : (i : ℕ) → In i v.notes → In i w.notes
  pub gone : (i : ℕ) → In i v.gone → In i w.gone
  pub noted : (told : NotedCalls) → Contains v.noted_calls told → Contains w.noted_calls told

-- a note that tells this is in
pub record IsTold (collector u : View) : Type 0 where
  pub note : In u.who collector.notes
  pub noted : Contains collector.noted_calls (calls_of u)
  pub gone : u.left ≡ true → In u.who collector.gone

-- the note of the mutator with this view is in
pub record IsNoted (collector : View) (who : ℕ) (v : View) : Type 0 where
  pub note : In who collector.notes
  pub noted : Contains collector.noted_calls (calls_of v)
  pub gone : v.left ≡ true → In who collector.gone

-- notes that were taken in one after another
TookNotes-trans : (u v w : View) → TookNotes u v → TookNotes v w → TookNotes u w
TookNotes-trans u v w one other = record {
  frozen = other.frozen ∙ one.frozen;
  period = other.period ∙ one.period;
  run = other.run ∙ one.run;
  marks = other.marks ∙ one.marks;
  start = other.start ∙ one.start;
  notes = λ i a. other.notes i (one.notes i a);
  gone = λ i a. other.gone i (one.gone i a);
  noted = λ told a. other.noted told (one.noted told a);
}

-- who has left is known still, whoever's note is taken in
gone_more : (left : Bool) (i who : ℕ) (gone : List ℕ) → In i gone → In i (if left then who ∷ gone else gone)
gone_more true i who gone a = inr a
gone_more false i who gone a = a

-- one note
TookNotes-noted : (v u : View) → TookNotes v (noted v u)
TookNotes-noted v u = record {
  frozen = refl;
  period = refl;
  run = refl;
  marks = refl;
  start = refl;
  notes = λ i a. inr a;
  gone = λ i a. gone_more u.left i u.who v.gone a;
  noted = λ told a. Contains-append_right (calls_of u ∷ []) v.noted_calls told a;
}

-- all of them
pub TookNotes-all : (us : List View) (v : View) → TookNotes v (noted_all us v)
TookNotes-all [] v = record {
  frozen = refl;
  period = refl;
  run = refl;
  marks = refl;
  start = refl;
  notes = λ i a. a;
  gone = λ i a. a;
  noted = λ told a. a;
}
TookNotes-all (u ∷ us) v =
    TookNotes-trans v (noted v u) (noted_all us (noted v u)) (TookNotes-noted v u) (TookNotes-all us (noted v u))

-- more notes behind some
pub noted_all-append : (us more : List View) (v : View) → noted_all (us ++ more) v ≡ noted_all more (noted_all us v)
noted_all-append [] more v = refl
noted_all-append (u ∷ us) more v = noted_all-append us more (noted v u)

-- the note that was taken in last is in
IsTold-here : (v u : View) → IsTold (noted v u) u
IsTold-here v u = record {
  note = inl refl;
  noted = (0, omega arith, refl);
  gone = λ left. here u.left left;
}
  where
    here : (b : Bool) → b ≡ true → In u.who (if b then u.who ∷ v.gone else v.gone)
    here true e = inl refl
    here false e = absurd (cc)

-- a note that was in is in still
IsTold-kept : (v w u : View) → TookNotes v w → IsTold v u → IsTold w u
IsTold-kept v w u taken is = record {
  note = taken.notes u.who is.note;
  noted = taken.noted (calls_of u) is.noted;
  gone = λ left. taken.gone u.who (is.gone left);
}

-- each of them is in
pub IsTold-all : (us : List View) (v u : View) → Contains us u → IsTold (noted_all us v) u
IsTold-all [] v u a = absurd (let below = a.1 in omega (arith, below))
IsTold-all (x ∷ us) v u a = elim (Contains-append_cases (x ∷ []) us u a) [
  | inl here ↦ subst (IsTold (noted_all us (noted v x))) (only here)
      (IsTold-kept (noted v x) (noted_all us (noted v x)) x (TookNotes-all us (noted v x)) (IsTold-here v x))
  | inr later ↦ IsTold-all us (noted v x) u later
]
  where
    only : Contains (x ∷ []) u → x ≡ u
    only (zero, below, same) = same
    only (suc k, below, same) = absurd (omega (arith, below))

-- the note of a mutator that told its calls is in
pub IsNoted-told : (w p u : View) (who : ℕ) → p.who ≡ who → calls_of u ≡ calls_of p → IsTold w u → IsNoted w who p
IsNoted-told w p u who is told in_it = record {
  note = subst (λ (n : ℕ). In n w.notes) same in_it.note;
  noted = subst (Contains w.noted_calls) told in_it.noted;
  gone = λ left. subst (λ (n : ℕ). In n w.gone) same (in_it.gone (ap (λ (c : NotedCalls). c.left) told ∙ left));
}
  where
    same : u.who ≡ who
    same = ap (λ (c : NotedCalls). c.who) told ∙ is
