-- What one more note leaves of those that are in.
use Rattle.std.proofs.Common.{ℕ, zero, suc, ◌≡◌, ◌↔◌, ◌+◌, ◌-◌, ◌<◌, ◌≤◌, ◌==◌, ◌∙◌, refl, sym, ap, subst, arith, Bool, true, false, List, [], ◌∷◌, get_or, set, length, inl, inr, eq-eqb, ne_eqb, Some, get_or-set_same, get_or-set_other}
use Rattle.std.proofs.lemmas.Bool.{cases_eq}
use Rattle.std.proofs.lemmas.List.Elements.{Contains-append_right}
use Rattle.std.specs.Prelude.{◌||◌, ◌&&◌, if◌then◌else◌}
use Rattle.tide_model.specs.Layout.{Layout}
use Rattle.tide_model.specs.Numbers.{any_below}
use Rattle.tide_posts.specs.Posts.{MutatorTells}
use Rattle.tide_posts.specs.Shares.{HasMarked}
use Rattle.tide_posts.specs.tide_heap.Parties.{In}
use Rattle.tide_posts.specs.tide_heap.Turns.{calls_of, noted, visited_of}
use Rattle.tide_posts.specs.tide_heap.tide_core.declared.machine.view.NotedVisits.{NotedVisits}
use Rattle.tide_posts.specs.tide_heap.tide_core.declared.machine.view.View.{View}
use Rattle.tide_posts.specs.tide_heap.tide_core.machine.World.{first_visitor}
use Rattle.tide_server.specs.Keepers.{AreLeft, HadLeft, HasToldVisits, MutatorIsIn, NoteIsIn, NotesAreIn}
use Rattle.tide_table.proofs.VisitsTold.{HasTold, HasTold-mutator, HasTold-visitor}
use Rattle.tide_table.specs.VisitsTold.{HaveTold, told_by}

-- two tests that agree on all numbers below a bound
pub any_below-same : (one other : ℕ → Bool) (bound : ℕ) → ((n : ℕ) → n < bound → one n ≡ other n) →
    any_below one bound ≡ any_below other bound
any_below-same one other zero same = refl
any_below-same one other (suc bound) same = λ i.
    (any_below-same one other bound (λ n below. same n (omega (arith, below))) i) || (same bound (omega arith) i)

pub or_false : (b : Bool) → (b || false) ≡ b
or_false true = refl
or_false false = refl

-- a bound on visits may be larger
HaveTold-more : (most more count : ℕ) (visited : List NotedVisits) → most ≤ more → HaveTold most count visited →
    HaveTold more count visited
HaveTold-more most more count visited less told = record {
  each = λ visitor below. let e = told.each visitor below in (e.0, (let few = e.1 in omega (arith, few, less)), e.2);
  all = told.all;
}

told_by-other : (told : NotedVisits) (visited : List NotedVisits) (who : ℕ) → (told.who ≡ who → ⊥) →
    told_by who (told ∷ visited) ≡ told_by who visited
told_by-other told visited who apart =
    ap (λ (b : Bool). if b then Some told else told_by who visited) (ne_eqb told.who who apart)

-- Below, a note with the view `u` is taken in.
module _ (v u : View) where
  gone_more : (i : ℕ) (left : Bool) → In i v.gone → In i (if left then u.who ∷ v.gone else v.gone)
  gone_more i true is = inr is
  gone_more i false is = is

  gone_other : (i : ℕ) (left : Bool) → (i ≡ u.who → ⊥) → In i (if left then u.who ∷ v.gone else v.gone) → In i v.gone
  gone_other i true apart (inl same) = absurd (apart same)
  gone_other i true apart (inr is) = is
  gone_other i false apart is = is

  gone_here : (left : Bool) → (In u.who v.gone → ⊥) → (left ≡ true) ↔ In u.who (if left then u.who ∷ v.gone else v.gone)
  gone_here true isnt = (λ e. inl refl, λ is. refl)
  gone_here false isnt = (λ e. absurd (cc), λ is. absurd (isnt is))

  -- another note stays in
  NoteIsIn-more : (note : View) → (note.who ≡ u.who → ⊥) → NoteIsIn v note → NoteIsIn (noted v u) note
  NoteIsIn-more note apart is = record {
    who = inr is.who;
    calls = Contains-append_right (calls_of u ∷ []) v.noted_calls (calls_of note) is.calls;
    left = (λ e. gone_more note.who u.left (is.left.0 e), λ e. is.left.1 (gone_other note.who u.left apart e));
  }

  -- and this one is
  NoteIsIn-here : (In u.who v.gone → ⊥) → NoteIsIn (noted v u) u
  NoteIsIn-here isnt = record {
    who = inl refl;
    calls = (0, omega arith, refl);
    left = gone_here u.left isnt;
  }

  MutatorIsIn-more : (layout : Layout) (who : ℕ) (ended early : Bool) → (who ≡ u.who → ⊥) →
      MutatorIsIn layout v who ended early → MutatorIsIn layout (noted v u) who ended early
  MutatorIsIn-more layout who ended early apart (inl told) = inl (record {
    note = told.note;
    is = told.is;
    period = told.period;
    tells = told.tells;
    is_in = NoteIsIn-more told.note (λ e. apart (sym told.is ∙ e)) told.is_in;
  })
  MutatorIsIn-more layout who ended early apart (inr had) = inr (
    record { gone = gone_more who u.left had.0.gone; inactive = had.0.inactive },
    had.1,
    had.2,
  )

  HasToldVisits-more : (layout : Layout) (visitor : ℕ) → (first_visitor + visitor ≡ u.who → ⊥) →
      HasToldVisits layout v visitor → HasToldVisits layout (noted v u) visitor
  HasToldVisits-more layout visitor apart told = record {
    note = told.note;
    is = told.is;
    period = told.period;
    marked = told.marked;
    is_in = NoteIsIn-more told.note (λ e. apart (sym told.is ∙ e)) told.is_in;
    told = told_by-other (visited_of v.period u) v.visited (first_visitor + visitor) (λ e. apart (sym e)) ∙ told.told;
  }

  -- who has left, once this note is in
  pub AreLeft-mutator : (layout : Layout) (place : ℕ) (left : List Bool) → place < layout.mutators → place < length left →
      u.who ≡ place → (In u.who v.gone → ⊥) → AreLeft layout v place left →
      AreLeft layout (noted v u) (suc place) (set left place u.left)
  AreLeft-mutator layout place left below within is isnt are = record {
    are = λ who e. elim (cases_eq who place) [
      | inl same ↦ subst (λ (n : ℕ). n < layout.mutators) (sym same) below
      | inr apart ↦ are.are who (gone_other who u.left (λ same. apart (same ∙ is)) e)
    ];
    known = λ who few. elim (cases_eq who place) [
      | inl same ↦ subst (λ (b : Bool). (b ≡ true) ↔ In who (if u.left then u.who ∷ v.gone else v.gone))
          (sym (ap (λ (n : ℕ). get_or (set left place u.left) n false) same ∙ get_or-set_same left place u.left false within))
          (subst (λ (n : ℕ). (u.left ≡ true) ↔ In n (if u.left then u.who ∷ v.gone else v.gone)) (is ∙ sym same)
          (gone_here u.left isnt))
      | inr apart ↦ subst (λ (b : Bool). (b ≡ true) ↔ In who (if u.left then u.who ∷ v.gone else v.gone))
          (sym (get_or-set_other left place who u.left false apart)) (
            λ e. gone_more who u.left ((are.known who few).0 e),
            λ e. (are.known who few).1 (gone_other who u.left (λ same. apart (same ∙ is)) e),
          )
    ];
    early = λ who few past e. are.early who few (omega (arith, past))
        (gone_other who u.left (λ same. omega (arith, past, same, is)) e);
  }

  pub AreLeft-visitor : (layout : Layout) (place : ℕ) (left : List Bool) → layout.mutators ≤ place →
      (u.left ≡ false) → AreLeft layout v place left → AreLeft layout (noted v u) (suc place) left
  AreLeft-visitor layout place left behind stays are = record {
    are = λ who e. are.are who (subst (In who) same e);
    known = λ who few. subst (λ (l : List ℕ). (get_or left who false ≡ true) ↔ In who l) (sym same) (are.known who few);
    early = λ who few past. absurd (omega (arith, few, past, behind));
  }
    where
      same : (if u.left then u.who ∷ v.gone else v.gone) ≡ v.gone
      same = ap (λ (b : Bool). if b then u.who ∷ v.gone else v.gone) stays

-- who had left is known at a later place
pub AreLeft-later : (layout : Layout) (v : View) (place : ℕ) (left : List Bool) → AreLeft layout v place left →
    AreLeft layout v (suc place) left
AreLeft-later layout v place left are = record {
  are = are.are;
  known = are.known;
  early = λ who few past is. are.early who few (omega (arith, past)) is;
}

-- one more place is done with, that of a mutator
NotesAreIn-mutator : (layout : Layout) (v w : View) (place : ℕ) (ended ends : Bool) (early now : List Bool) →
    place < layout.mutators → MutatorIsIn layout w place ends (get_or now place false) →
    ((who : ℕ) (b s : Bool) → who < place → MutatorIsIn layout v who b s → MutatorIsIn layout w who b s) →
    ((who : ℕ) → (who ≡ place → ⊥) → get_or now who false ≡ get_or early who false) →
    (in_it : NotesAreIn layout v place ended early) → HasTold in_it.most (suc place - layout.mutators) w.visited →
    w.done ≡ true → NotesAreIn layout w (suc place) (ended || ends) now
NotesAreIn-mutator layout v w place ended ends early now below here others kept in_it told done = record {
  ended_by = by;
  is_ended = λ i. ((in_it.is_ended ∙ any_below-same in_it.ended_by by place (λ n less. sym (by_other n (λ e. omega (arith, e, less))))) i)
      || (sym by_here i);
  mutators = λ who less few. elim (cases_eq who place) [
    | inl same ↦ subst (λ (n : ℕ). MutatorIsIn layout w n (by n) (get_or now n false)) (sym same)
        (subst (λ (b : Bool). MutatorIsIn layout w place b (get_or now place false)) (sym by_here) here)
    | inr apart ↦ subst (λ (b : Bool). MutatorIsIn layout w who b (get_or now who false)) (sym (by_other who apart))
        (subst (MutatorIsIn layout w who (in_it.ended_by who)) (sym (kept who apart))
        (others who (in_it.ended_by who) (get_or early who false) (omega (arith, less, apart))
        (in_it.mutators who (omega (arith, less, apart)) few)))
  ];
  visitors = λ visitor less. absurd (omega (arith, less, below));
  none_ends = λ n behind. by_other n (λ e. omega (arith, e, behind, below)) ∙ in_it.none_ends n behind;
  none_early = λ who past. kept who (λ e. omega (arith, e, past)) ∙ in_it.none_early who (omega (arith, past));
  most = in_it.most;
  visits = told.told;
  later = told.later;
  done = done;
}
  where
    by : ℕ → Bool
    by n = if n == place then ends else in_it.ended_by n

    by_here : by place ≡ ends
    by_here = ap (λ (b : Bool). if b then ends else in_it.ended_by place) (eq-eqb place place refl)

    by_other : (n : ℕ) → (n ≡ place → ⊥) → by n ≡ in_it.ended_by n
    by_other n apart = ap (λ (b : Bool). if b then ends else in_it.ended_by n) (ne_eqb n place apart)

none_by : (visits : ℕ) → visits ≡ 0 → (b : Bool) → (if b then visits else 0) ≡ 0
none_by visits none true = none
none_by visits none false = refl

-- none of a mutator's places is a visitor's
same_count : (mutators place : ℕ) → place < mutators → place - mutators ≡ suc place - mutators
same_count mutators place below = omega (arith, below)

-- a mutator's note is taken in
pub NotesAreIn-told : (layout : Layout) (v u : View) (place : ℕ) (ended ends : Bool) (early : List Bool) (stops : Bool) →
    place < layout.mutators → place < length early → place < first_visitor → u.who ≡ place → u.period ≡ v.period →
    MutatorTells u ends stops → u.done ≡ true → (In place v.gone → ⊥) → NotesAreIn layout v place ended early →
    NotesAreIn layout (noted v u) (suc place) (ended || ends) (set early place stops)
NotesAreIn-told layout v u place ended ends early stops below within few is now tells done isnt in_it =
    NotesAreIn-mutator layout v (noted v u) place ended ends early (set early place stops) below
    (subst (MutatorIsIn layout (noted v u) place ends) (sym (get_or-set_same early place stops false within)) (inl (record {
      note = u;
      is = is;
      period = now;
      tells = tells;
      is_in = NoteIsIn-here v u (subst (λ (n : ℕ). In n v.gone → ⊥) (sym is) isnt);
    })))
    (λ who b s less. MutatorIsIn-more v u layout who b s (λ e. omega (arith, e, is, less)))
    (λ who apart. get_or-set_other early place who stops false apart) in_it
    (subst (λ (n : ℕ). HasTold in_it.most n (visited_of v.period u ∷ v.visited)) (same_count layout.mutators place below)
    (HasTold-mutator in_it.most (place - layout.mutators) (visited_of v.period u) v.visited (omega (arith, is, few))
    (none_by u.visits tells.still (u.begun == v.period)) (record { told = in_it.visits; later = in_it.later })))
    (ap (λ (b : Bool). b && u.done) in_it.done ∙ done)

-- a mutator had left, so that it hands none in
pub NotesAreIn-left : (layout : Layout) (v : View) (place : ℕ) (ended : Bool) (early : List Bool) → place < layout.mutators →
    HadLeft layout v place → NotesAreIn layout v place ended early → NotesAreIn layout v (suc place) ended early
NotesAreIn-left layout v place ended early below had in_it =
    subst (λ (b : Bool). NotesAreIn layout v (suc place) b early) (or_false ended)
    (NotesAreIn-mutator layout v v place ended false early early below (inr (had, refl, in_it.none_early place (omega arith)))
    (λ who b s less is. is) (λ who apart. refl) in_it
    (subst (λ (n : ℕ). HasTold in_it.most n v.visited) (same_count layout.mutators place below)
    (record { told = in_it.visits; later = in_it.later }))
    in_it.done)

-- a visitor's note is taken in
pub NotesAreIn-visited : (layout : Layout) (v u : View) (place : ℕ) (ended : Bool) (early : List Bool) → layout.mutators ≤ place →
    layout.mutators ≤ first_visitor → u.who ≡ first_visitor + (place - layout.mutators) → u.period ≡ v.period →
    u.begun ≡ v.period → HasMarked layout u.period u.run u.marks u.seen u.visits → u.done ≡ true →
    (In u.who v.gone → ⊥) → NotesAreIn layout v place ended early → NotesAreIn layout (noted v u) (suc place) ended early
NotesAreIn-visited layout v u place ended early behind few is now begun marked done isnt in_it = record {
  ended_by = in_it.ended_by;
  is_ended = in_it.is_ended ∙ sym (or_false (any_below in_it.ended_by place))
      ∙ ap (λ (b : Bool). any_below in_it.ended_by place || b) (sym (in_it.none_ends place behind));
  mutators = λ who less below. MutatorIsIn-more v u layout who (in_it.ended_by who) (get_or early who false)
      (λ e. omega (arith, e, is, below, few))
      (in_it.mutators who (omega (arith, below, behind)) below);
  visitors = λ visitor less. elim (cases_eq visitor (place - layout.mutators)) [
    | inl same ↦ subst (HasToldVisits layout (noted v u)) (sym same) here
    | inr apart ↦ HasToldVisits-more v u layout visitor (λ e. apart (omega (arith, e, is)))
        (in_it.visitors visitor (omega (arith, less, apart, behind)))
  ];
  none_ends = in_it.none_ends;
  none_early = λ who past. in_it.none_early who (omega (arith, past));
  most = in_it.most + u.visits;
  visits = told.told;
  later = told.later;
  done = ap (λ (b : Bool). b && u.done) in_it.done ∙ done;
}
  where
    count : ℕ
    count = place - layout.mutators

    visits : (if u.begun == v.period then u.visits else 0) ≡ u.visits
    visits = ap (λ (b : Bool). if b then u.visits else 0) (eq-eqb u.begun v.period begun)

    tells : visited_of v.period u ≡ record { who = first_visitor + count; visits = u.visits; done = true }
    tells = λ i. record { who = is i; visits = visits i; done = done i }

    next : suc count ≡ suc place - layout.mutators
    next = omega (arith, behind)

    told : HasTold (in_it.most + u.visits) (suc place - layout.mutators) (visited_of v.period u ∷ v.visited)
    told = subst (λ (n : ℕ). HasTold (in_it.most + u.visits) n (visited_of v.period u ∷ v.visited)) next
        (HasTold-visitor (in_it.most + u.visits) count u.visits (visited_of v.period u) v.visited tells (omega arith)
        (record { told = HaveTold-more in_it.most (in_it.most + u.visits) count v.visited (omega arith) in_it.visits; later = in_it.later }))

    here : HasToldVisits layout (noted v u) count
    here = record {
      note = u;
      is = is;
      period = now;
      marked = marked;
      is_in = NoteIsIn-here v u isnt;
      told = ap (λ (b : Bool). if b then Some (visited_of v.period u) else told_by (first_visitor + count) v.visited)
          (eq-eqb u.who (first_visitor + count) is)
          ∙ ap (λ (t : NotedVisits). Some t) tells;
    }
