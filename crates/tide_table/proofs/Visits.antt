-- What notes told of visits, as one after another is entered.
use Rattle.std.proofs.Common.{ℕ, zero, suc, ◌≡◌, ◌+◌, ◌<◌, ◌≤◌, ◌==◌, refl, sym, ◌∙◌, ap, subst, arith, Bool, true, false, List, [], ◌∷◌, ◌++◌, append_assoc, append-nil, eq-eqb}
use Rattle.std.proofs.lemmas.Bool.{eqb-false, eqb-true, ne_eqb}
use Rattle.std.specs.Prelude.{Contains, None, Option, Some, filter, if◌then◌else◌, map, not, slice_index}
use Rattle.tide_heap.specs.Turns.{visits_entered}
use Rattle.tide_heap.proofs.tide_core.machine_laws.freezes.Entering.{FrozenWith-entered}
use Rattle.tide_heap.specs.tide_core.machine.Frozen.{FrozenWith}
use Rattle.tide_heap.specs.tide_core.machine.Schedule.{visits}
use Rattle.tide_heap.specs.tide_core.machine.World.{first_visitor}
use Rattle.tide_heap.specs.tide_core.declared.machine.view.View.{View}
use Rattle.tide_heap.specs.tide_core.declared.machine.view.NotedVisits.{NotedVisits}
use Rattle.tide_model.specs.declared.entry.Entry.TheVariants.{Visits}
use Rattle.tide_model.specs.Freeze.{visits_entries}
use Rattle.tide_model.specs.History.{plain}
use Rattle.tide_model.specs.Layout.{Layout}
use Rattle.tide_model.specs.Refused.{ShapeLists}
use Rattle.tide_table.specs.Shown.{bare}
use Rattle.tide_table.specs.VisitsTold.{AreNumbersTold, AreTold, all_entered, told_by, unentered, visits_in, visits_left, visits_told}
use Rattle.tide_heap.specs.tide_words.heap.Heap.{heap_of}
use Rattle.tide_heap.specs.tide_words.marking.Colours.{is_black}

-- the notes of others than one
abbrev pub without : ℕ → List NotedVisits → List NotedVisits
without who visited = filter (λ (told : NotedVisits). not (told.who == who)) visited

-- what stands of them
told_by-others : (who other : ℕ) → (who ≡ other → ⊥) → (visited : List NotedVisits) →
    told_by other (without who visited) ≡ told_by other visited
told_by-others who other apart [] = refl
told_by-others who other apart (told ∷ visited) = by (told_by-others who other apart visited) (told.who == who) refl
  where
    by : told_by other (without who visited) ≡ told_by other visited → (same : Bool) → (told.who == who) ≡ same →
        told_by other (if not (told.who == who) then told ∷ without who visited else without who visited)
        ≡ (if told.who == other then Some told else told_by other visited)
    by rest true is =
        ap (λ (b : Bool). told_by other (if not b then told ∷ without who visited else without who visited)) is
        ∙ rest
        ∙ sym (ap (λ (b : Bool). if b then Some told else told_by other visited)
        (ne_eqb told.who other (λ e. apart (sym (eqb-true told.who who is) ∙ e))))
    by rest false is =
        ap (λ (b : Bool). told_by other (if not b then told ∷ without who visited else without who visited)) is
        ∙ ap (λ (more : Option NotedVisits). if told.who == other then Some told else more) rest

-- nothing stands of one's own
told_by-none : (who : ℕ) (visited : List NotedVisits) → told_by who (without who visited) ≡ None
told_by-none who [] = refl
told_by-none who (told ∷ visited) = by (told_by-none who visited) (told.who == who) refl
  where
    by : told_by who (without who visited) ≡ None → (same : Bool) → (told.who == who) ≡ same →
        told_by who (if not (told.who == who) then told ∷ without who visited else without who visited) ≡ None
    by rest true is =
        ap (λ (b : Bool). told_by who (if not b then told ∷ without who visited else without who visited)) is ∙ rest
    by rest false is =
        ap (λ (b : Bool). told_by who (if not b then told ∷ without who visited else without who visited)) is
        ∙ ap (λ (b : Bool). if b then Some told else told_by who (without who visited)) is ∙ rest

-- no more is left of others than of all
unentered-others : (who : ℕ) (visited : List NotedVisits) → unentered (without who visited) ≤ unentered visited
unentered-others who [] = omega arith
unentered-others who (told ∷ visited) = by (unentered-others who visited) (told.who == who)
  where
    by : unentered (without who visited) ≤ unentered visited → (b : Bool) →
        unentered (if not b then told ∷ without who visited else without who visited) ≤ told.visits + unentered visited
    by less true = omega (arith, less)
    by less false = omega (arith, less)

-- what one's note told isn't left, where the newest note is this one's or another's
unentered-over : (who : ℕ) (visited : List NotedVisits) → unentered (without who visited) + visits_in (told_by who visited) ≤ unentered visited
unentered-over who [] = omega arith
unentered-over who (told ∷ visited) = by (unentered-others who visited) (unentered-over who visited) (told.who == who)
  where
    by : unentered (without who visited) ≤ unentered visited →
        unentered (without who visited) + visits_in (told_by who visited) ≤ unentered visited → (b : Bool) →
        unentered (if not b then told ∷ without who visited else without who visited)
        + visits_in (if b then Some told else told_by who visited) ≤ told.visits + unentered visited
    by less over true = omega (arith, less)
    by less over false = omega (arith, over)

-- what a note told isn't left, once all of its visitor are entered
pub unentered-entered : (who : ℕ) (visited : List NotedVisits) (told : NotedVisits) → Contains visited told → told.who ≡ who →
    unentered (without who visited) + told.visits ≤ unentered visited
unentered-entered who [] told (k, below, at) is = absurd (omega (arith, below))
unentered-entered who (one ∷ visited) told (zero, below, at) is =
    here (unentered-others who visited) (one.who == who)
    (eq-eqb one.who who (ap (λ (x : NotedVisits). x.who) at ∙ is)) (ap (λ (x : NotedVisits). x.visits) at)
  where
    here : unentered (without who visited) ≤ unentered visited → (b : Bool) → b ≡ true → one.visits ≡ told.visits →
        unentered (if not b then one ∷ without who visited else without who visited) + told.visits
        ≤ one.visits + unentered visited
    here less true e same = omega (arith, less, same)
    here less false e same = absurd (cc)
unentered-entered who (one ∷ visited) told (suc k, below, at) is =
    later (unentered-entered who visited told (k, omega (arith, below), at) is) (one.who == who)
  where
    later : unentered (without who visited) + told.visits ≤ unentered visited → (b : Bool) →
        unentered (if not b then one ∷ without who visited else without who visited) + told.visits
        ≤ one.visits + unentered visited
    later less true = omega (arith, less)
    later less false = omega (arith, less)

-- what the newest note told is told
some_is : (one told : NotedVisits) → Some one ≡ Some told → one ≡ told
some_is one told same = ap from same
  where
    from : Option NotedVisits → NotedVisits
    from None = one
    from (Some x) = x

-- a note that told is one of them
pub told_stands : (who : ℕ) (visited : List NotedVisits) (told : NotedVisits) → told_by who visited ≡ Some told → Contains visited told
told_stands who [] told is = absurd (cc)
told_stands who (one ∷ visited) told is = by (λ later. told_stands who visited told later) (one.who == who) refl
  where
    by : (told_by who visited ≡ Some told → Contains visited told) → (same : Bool) → (one.who == who) ≡ same →
        Contains (one ∷ visited) told
    by later true e = (0, omega arith, some_is one told (sym (ap (λ (b : Bool). if b then Some one else told_by who visited) e) ∙ is))
    by later false e =
        let (k, below, at) = later (sym (ap (λ (b : Bool). if b then Some one else told_by who visited) e) ∙ is) in
        (suc k, omega (arith, below), at)

-- the numbers told go on as they are
pub AreNumbersTold-over : (who : ℕ) (numbers : List ℕ) (visited : List NotedVisits) → AreNumbersTold numbers visited →
    AreNumbersTold numbers (without who visited)
AreNumbersTold-over who numbers visited are visitor told below is = by (who == first_visitor + visitor) refl
  where
    by : (same : Bool) → (who == first_visitor + visitor) ≡ same → slice_index numbers visitor ≡ told.visits
    by true e =
        let gone : told_by (first_visitor + visitor) (without who visited) ≡ None =
        subst (λ (n : ℕ). told_by n (without who visited) ≡ None) (eqb-true who (first_visitor + visitor) e) (told_by-none who visited) in
        absurd (cc)
    by false e = are visitor told below (sym (told_by-others who (first_visitor + visitor)
        (eqb-false who (first_visitor + visitor) e) visited) ∙ is)

-- what visitors behind one told
visits_told-over : (visitor from count : ℕ) (visited : List NotedVisits) → visitor < from →
    visits_told (without (first_visitor + visitor) visited) from count ≡ visits_told visited from count
visits_told-over visitor from zero visited later = refl
visits_told-over visitor from (suc count) visited later = λ i.
    visits_in ((told_by-others (first_visitor + visitor) (first_visitor + from) (λ e. omega (arith, e, later)) visited) i)
    ∷ (visits_told-over visitor (from + 1) count visited (omega (arith, later))) i

visits_left-over : (visitor from count : ℕ) (visited : List NotedVisits) → visitor < from →
    visits_left (without (first_visitor + visitor) visited) from count ≡ visits_left visited from count
visits_left-over visitor from zero visited later = refl
visits_left-over visitor from (suc count) visited later = λ i.
    visits_in ((told_by-others (first_visitor + visitor) (first_visitor + from) (λ e. omega (arith, e, later)) visited) i)
    + (visits_left-over visitor (from + 1) count visited (omega (arith, later))) i

-- Below, the visits of some visitors are left to enter: each has told and is done, and no more is left than what they
-- told.
pub record AreLeft (visitor count : ℕ) (visited : List NotedVisits) : Type 0 where
  pub each : (i : ℕ) → i < count → (k : ℕ) × (told_by (first_visitor + (visitor + i)) visited
      ≡ Some (record { who = first_visitor + (visitor + i); visits = k; done = true }))
  pub all : unentered visited ≤ visits_left visited visitor count

pub AreLeft-over : (visitor count : ℕ) (visited : List NotedVisits) → AreLeft visitor (suc count) visited →
    AreLeft (visitor + 1) count (without (first_visitor + visitor) visited)
AreLeft-over visitor count visited left = record {
  each = λ i below.
      let (k, is) = left.each (i + 1) (omega (arith, below)) in
      let same : first_visitor + (visitor + (i + 1)) ≡ first_visitor + (visitor + 1 + i) = omega arith in (
        k,
        told_by-others (first_visitor + visitor) (first_visitor + (visitor + 1 + i)) (λ e. omega (arith, e)) visited
            ∙ subst (λ (n : ℕ). told_by n visited ≡ Some (record { who = n; visits = k; done = true })) same is,
      );
  all =
      let less = unentered-over (first_visitor + visitor) visited in
      let most = left.all in
      let same = visits_left-over visitor (visitor + 1) count visited (omega arith) in
      omega (arith, less, most, same);
}

-- once none is left, nothing is
pub AreLeft-none : (visitor : ℕ) (visited : List NotedVisits) → AreLeft visitor 0 visited → unentered visited ≡ 0
AreLeft-none visitor visited left = (let most = left.all in omega (arith, most))

-- what entering leaves of the view, and what it adds to the history
pub record HasEntered (v w : View) (visits : List ℕ) (visitor : ℕ) : Type 0 where
  pub seen : w.seen ≡ v.seen ++ map plain (visits_entries visitor visits)
  pub words : w.words ≡ v.words
  pub rest : record w { seen = []; words_at_entry = []; visited = [] } ≡ record v { seen = []; words_at_entry = []; visited = [] }

pub all_entered-has : (visitor count : ℕ) (v : View) →
    HasEntered v (all_entered visitor count v) (visits_told v.visited visitor count) visitor
all_entered-has visitor zero v = record { seen = sym (append-nil v.seen); words = refl; rest = refl }
all_entered-has visitor (suc count) v =
    let k = visits_in (told_by (first_visitor + visitor) v.visited) in
    let later = all_entered-has (visitor + 1) count (visits_entered visitor k v) in record {
      seen = later.seen
          ∙ append_assoc v.seen (plain (Visits visitor k) ∷ []) _
          ∙ ap (λ (ks : List ℕ). v.seen ++ plain (Visits visitor k) ∷ map plain (visits_entries (visitor + 1) ks))
          (visits_told-over visitor (visitor + 1) count v.visited (omega arith));
      words = later.words;
      rest = later.rest;
    }

-- what notes told may all be entered
pub AreLeft-told : (layout : Layout) (run : ℕ) (visited : List NotedVisits) → AreTold layout run visited →
    AreLeft 0 layout.visitors visited
AreLeft-told layout run visited told = record {
  each = λ i below.
      let same : i ≡ 0 + i = omega arith in
      subst (λ (n : ℕ). (k : ℕ) × (told_by (first_visitor + n) visited
      ≡ Some (record { who = first_visitor + n; visits = k; done = true }))) same (told.each i below);
  all = (let same = told.all in omega (arith, same));
}

-- what the next visitor told
pub first_left : (visitor count : ℕ) (visited : List NotedVisits) → AreLeft visitor (suc count) visited →
    (k : ℕ) × (told_by (first_visitor + visitor) visited ≡ Some (record { who = first_visitor + visitor; visits = k; done = true }))
first_left visitor count visited left =
    let same : visitor + 0 ≡ visitor = omega arith in
    subst (λ (n : ℕ). (k : ℕ) × (told_by (first_visitor + n) visited
    ≡ Some (record { who = first_visitor + n; visits = k; done = true }))) same (left.each 0 (omega arith))

-- its visits are entered
pub entered_wave : (layout : Layout) (shapes : ShapeLists) (visitor count k : ℕ) (v : View) →
    visits_in (told_by (first_visitor + visitor) v.visited) ≡ k →
    FrozenWith layout shapes (heap_of layout v.words) v.seen (visits_left v.visited visitor (suc count)) →
    FrozenWith layout shapes (heap_of layout v.words) (visits_entered visitor k v).seen
    (visits_left (visits_entered visitor k v).visited (visitor + 1) count)
entered_wave layout shapes visitor count k v is wave =
    let later = visits_left-over visitor (visitor + 1) count v.visited (omega arith) in
    let most : visits_in (told_by (first_visitor + visitor) v.visited) + visits_left v.visited (visitor + 1) count
    ≡ k + visits_left (visits_entered visitor k v).visited (visitor + 1) count = omega (arith, later, is) in
    FrozenWith-entered layout shapes (heap_of layout v.words) (heap_of layout v.words) v.seen
    (v.seen ++ plain (Visits visitor k) ∷ []) _ _
    (subst (FrozenWith layout shapes (heap_of layout v.words) v.seen) most wave)
    (visits visitor k (visits_left (visits_entered visitor k v).visited (visitor + 1) count))

-- and the rest is left
pub entered_rest : (visitor count k : ℕ) (v : View) → visits_in (told_by (first_visitor + visitor) v.visited) ≡ k →
    all_entered (visitor + 1) count (visits_entered visitor k v) ≡ all_entered visitor (suc count) v
entered_rest visitor count k v is = ap (λ (n : ℕ). all_entered (visitor + 1) count (visits_entered visitor n v)) (sym is)

-- two views that are the same but for words and entries, and in these too
pub view_back : (u v : View) → bare u ≡ bare v → u.seen ≡ v.seen → u.words ≡ v.words → u.words_at_entry ≡ v.words_at_entry → u ≡ v
view_back u v same seen words words_at_entry = λ i. record (same i) { seen = seen i; words = words i; words_at_entry = words_at_entry i }

-- the black cells are those of the last entry still
pub all_entered-blacks : (layout : Layout) (visitor count : ℕ) (v : View) →
    is_black (heap_of layout v.words) ≡ is_black (heap_of layout v.words_at_entry) →
    is_black (heap_of layout (all_entered visitor count v).words) ≡ is_black (heap_of layout (all_entered visitor count v).words_at_entry)
all_entered-blacks layout visitor zero v same = same
all_entered-blacks layout visitor (suc count) v same =
    all_entered-blacks layout (visitor + 1) count
    (visits_entered visitor (visits_in (told_by (first_visitor + visitor) v.visited)) v) refl

-- one visitor's visits were entered, as many as are kept of it
pub record HasEnteredOne (layout : Layout) (shapes : ShapeLists) (visitor count : ℕ) (v w : View) : Type 0 where
  pub rest : all_entered (visitor + 1) count w ≡ all_entered visitor (suc count) v
  pub left : AreLeft (visitor + 1) count w.visited
  pub wave : FrozenWith layout shapes (heap_of layout w.words) w.seen (visits_left w.visited (visitor + 1) count)

-- what is kept of the next visitor is what it told
pub number_told : (visitor count k : ℕ) (numbers : List ℕ) (visited : List NotedVisits) → AreLeft visitor (suc count) visited →
    AreNumbersTold numbers visited → k ≡ slice_index numbers visitor → visitor < 8 →
    told_by (first_visitor + visitor) visited ≡ Some (record { who = first_visitor + visitor; visits = k; done = true })
number_told visitor count k numbers visited left are kept below =
    let (told, is) = first_left visitor count visited left in
    subst (λ (n : ℕ). told_by (first_visitor + visitor) visited
    ≡ Some (record { who = first_visitor + visitor; visits = n; done = true }))
    (sym (kept ∙ are visitor (record { who = first_visitor + visitor; visits = told; done = true }) below is)) is

pub entered_one : (layout : Layout) (shapes : ShapeLists) (visitor count k : ℕ) (numbers : List ℕ) (v w : View) →
    w ≡ visits_entered visitor k v → AreLeft visitor (suc count) v.visited → AreNumbersTold numbers v.visited →
    k ≡ slice_index numbers visitor → visitor < 8 →
    FrozenWith layout shapes (heap_of layout v.words) v.seen (visits_left v.visited visitor (suc count)) →
    HasEnteredOne layout shapes visitor count v w
entered_one layout shapes visitor count k numbers v w is left are kept below wave =
    let told = ap visits_in (number_told visitor count k numbers v.visited left are kept below) in
    subst (HasEnteredOne layout shapes visitor count v) (sym is) (record {
      rest = entered_rest visitor count k v told;
      left = AreLeft-over visitor count v.visited left;
      wave = entered_wave layout shapes visitor count k v told wave;
    })
