-- What the cursors, the notes and the races of participants are, place by place. Mutators come first.
use Rattle.std.proofs.Common.{ℕ, zero, suc, ◌≡◌, ◌+◌, ◌<◌, ◌≤◌, ◌∙◌, refl, sym, ap, arith, List, [], ◌∷◌, ◌++◌, length, get_or, take}
use Rattle.std.proofs.lemmas.List.{take_more}
use Rattle.std.proofs.lemmas.List.Elements.{Contains-append_right}
use Rattle.std.specs.List.{list_all}
use Rattle.std.specs.Prelude.{Bool, ◌&&◌, Contains, Option, None, Some, slice_get}
use Rattle.crossbeam_utils.specs.Padded.{padded_value}
use Rattle.crossbeam_utils.specs.declared.cache_padded.CachePadded.{CachePadded}
use Rattle.tide_heap.specs.tide_core.declared.machine.view.View.{View}
use Rattle.tide_periods.specs.declared.cursor.ScriptCursor.{ScriptCursor}
use Rattle.tide_heap.specs.declared.steps.notes.Note.{Note}
use Rattle.tide_threads.specs.Acting.{before_all, cursor_of, cursors_in, is_silent, notes_in, races_in, races_of, told_in}
use Rattle.tide_threads.specs.declared.participant.Participant.{Participant}
use Rattle.tide_threads.specs.declared.worker.Worker.{Worker}
use Rattle.tide_threads.specs.declared.worker.Worker.TheVariants.{Mutator, Visitor}

before_all-append : {X : Type 0} (one : Option X) (xs ys : List X) → before_all one (xs ++ ys) ≡ before_all one xs ++ ys
before_all-append None xs ys = refl
before_all-append (Some x) xs ys = refl

pub cursors_in-append : (xs ys : List (CachePadded Participant)) → cursors_in (xs ++ ys) ≡ cursors_in xs ++ cursors_in ys
cursors_in-append [] ys = refl
cursors_in-append (x ∷ xs) ys =
    ap (before_all (cursor_of (padded_value x).worker)) (cursors_in-append xs ys)
    ∙ before_all-append (cursor_of (padded_value x).worker) (cursors_in xs) (cursors_in ys)

pub notes_in-append : (xs ys : List (CachePadded Participant)) → notes_in (xs ++ ys) ≡ notes_in xs ++ notes_in ys
notes_in-append [] ys = refl
notes_in-append (x ∷ xs) ys =
    ap (before_all (told_in (padded_value x).note)) (notes_in-append xs ys)
    ∙ before_all-append (told_in (padded_value x).note) (notes_in xs) (notes_in ys)

pub races_in-append : (xs ys : List (CachePadded Participant)) → races_in (xs ++ ys) ≡ races_in xs + races_in ys
races_in-append [] ys = omega arith
races_in-append (x ∷ xs) ys = let rest = races_in-append xs ys in omega (arith, rest)

-- whether it is a mutator or a visitor who acts at a place, where so many mutators come first
abbrev pub IsParted : ℕ → ℕ → Worker → Type 0
IsParted mutators at (Mutator x) = at < mutators
IsParted mutators at (Visitor x) = mutators ≤ at

-- each of these participants is such
abbrev pub AreParted : ℕ → List (CachePadded Participant) → Type 0
AreParted mutators xs = (at : ℕ) (x : CachePadded Participant) → slice_get xs at ≡ Some x →
    IsParted mutators at (padded_value x).worker

IsParted-shift : (mutators at : ℕ) (w : Worker) → IsParted (suc mutators) (suc at) w → IsParted mutators at w
IsParted-shift mutators at (Mutator x) parted = omega (arith, parted)
IsParted-shift mutators at (Visitor x) parted = omega (arith, parted)

IsParted-none : (at : ℕ) (w : Worker) → IsParted 0 (suc at) w → IsParted 0 at w
IsParted-none at (Mutator x) parted = absurd (omega (arith, parted))
IsParted-none at (Visitor x) parted = omega arith

-- without mutators there are no cursors
cursors_in-none : (xs : List (CachePadded Participant)) → AreParted 0 xs → cursors_in xs ≡ []
cursors_in-none [] parted = refl
cursors_in-none (x ∷ xs) parted = by (padded_value x).worker (parted 0 x refl)
    (cursors_in-none xs (λ at y found. IsParted-none at (padded_value y).worker (parted (suc at) y found)))
  where
    by : (w : Worker) → IsParted 0 0 w → cursors_in xs ≡ [] → before_all (cursor_of w) (cursors_in xs) ≡ []
    by (Mutator o) near none = absurd (omega (arith, near))
    by (Visitor o) far none = none

-- a cursor is that of the mutator at its place
pub cursor_at : (mutators : ℕ) (xs : List (CachePadded Participant)) → AreParted mutators xs → (who : ℕ) (c : ScriptCursor) →
    slice_get (cursors_in xs) who ≡ Some c →
    (x : CachePadded Participant) × (slice_get xs who ≡ Some x) × (cursor_of (padded_value x).worker ≡ Some c)
cursor_at zero xs parted who c at =
    let none : None ≡ Some c = sym (ap (λ (l : List ScriptCursor). slice_get l who) (cursors_in-none xs parted)) ∙ at in
    absurd (cc)
cursor_at (suc mutators) [] parted who c at = absurd (cc)
cursor_at (suc mutators) (x ∷ xs) parted who c at =
    by (padded_value x).worker refl (parted 0 x refl) who at
    (λ k later. cursor_at mutators xs (λ p y found. IsParted-shift mutators p (padded_value y).worker (parted (suc p) y found)) k c later)
  where
    by : (w : Worker) → (padded_value x).worker ≡ w → IsParted (suc mutators) 0 w → (k : ℕ) →
        slice_get (before_all (cursor_of w) (cursors_in xs)) k ≡ Some c →
        ((j : ℕ) → slice_get (cursors_in xs) j ≡ Some c →
        (y : CachePadded Participant) × (slice_get xs j ≡ Some y) × (cursor_of (padded_value y).worker ≡ Some c)) →
        (y : CachePadded Participant) × (slice_get (x ∷ xs) k ≡ Some y) × (cursor_of (padded_value y).worker ≡ Some c)
    by (Visitor o) is far k found rec = absurd (omega (arith, far))
    by (Mutator o) is near zero found rec = (x, refl, ap cursor_of is ∙ found)
    by (Mutator o) is near (suc k) found rec = rec k found

-- and a mutator has its cursor there
pub cursors_at : (mutators : ℕ) (xs : List (CachePadded Participant)) → AreParted mutators xs → (who : ℕ)
    (x : CachePadded Participant) (c : ScriptCursor) → slice_get xs who ≡ Some x → cursor_of (padded_value x).worker ≡ Some c →
    slice_get (cursors_in xs) who ≡ Some c
cursors_at mutators [] parted who x c found is = absurd (cc)
cursors_at zero (y ∷ xs) parted who x c found is = absurd (by (padded_value x).worker refl (parted who x found))
  where
    by : (w : Worker) → (padded_value x).worker ≡ w → IsParted 0 who w → ⊥
    by (Mutator o) same near = omega (arith, near)
    by (Visitor o) same far = (let none : None ≡ Some c = sym (ap cursor_of same) ∙ is in absurd (cc))
cursors_at (suc mutators) (y ∷ xs) parted who x c found is =
    by (padded_value y).worker refl (parted 0 y refl) who found
    (λ k later. cursors_at mutators xs (λ p z at. IsParted-shift mutators p (padded_value z).worker (parted (suc p) z at)) k x c later is)
  where
    by : (w : Worker) → (padded_value y).worker ≡ w → IsParted (suc mutators) 0 w → (k : ℕ) → slice_get (y ∷ xs) k ≡ Some x →
        ((j : ℕ) → slice_get xs j ≡ Some x → slice_get (cursors_in xs) j ≡ Some c) →
        slice_get (before_all (cursor_of w) (cursors_in xs)) k ≡ Some c
    by (Visitor o) same far k at rec = absurd (omega (arith, far))
    by (Mutator o) same near zero at rec =
        let here : y ≡ x = (let e : Some y ≡ Some x = at in cc) in
        ap cursor_of (sym same ∙ ap (λ (p : CachePadded Participant). (padded_value p).worker) here) ∙ is
    by (Mutator o) same near (suc k) at rec = rec k at

-- there is one for each mutator
pub cursors_many : (mutators : ℕ) (xs : List (CachePadded Participant)) → AreParted mutators xs → mutators ≤ length xs →
    length (cursors_in xs) ≡ mutators
cursors_many zero xs parted within = ap length (cursors_in-none xs parted)
cursors_many (suc mutators) [] parted within = absurd (omega (arith, within))
cursors_many (suc mutators) (x ∷ xs) parted within =
    by (padded_value x).worker (parted 0 x refl) (cursors_many mutators xs
    (λ p y found. IsParted-shift mutators p (padded_value y).worker (parted (suc p) y found)) (omega (arith, within)))
  where
    by : (w : Worker) → IsParted (suc mutators) 0 w → length (cursors_in xs) ≡ mutators →
        length (before_all (cursor_of w) (cursors_in xs)) ≡ suc mutators
    by (Visitor o) far rest = absurd (omega (arith, far))
    by (Mutator o) near rest = ap suc rest

-- a note that is out is among those of all
pub note_among : (xs : List (CachePadded Participant)) (at : ℕ) (x : CachePadded Participant) (note : Note) →
    slice_get xs at ≡ Some x → (padded_value x).note ≡ Some note → Contains (notes_in xs) note.seat.me.0
note_among [] at x note found out = absurd (cc)
note_among (y ∷ xs) zero x note found out =
    let here : y ≡ x = (let e : Some y ≡ Some x = found in cc) in
    let is : told_in (padded_value y).note ≡ Some note.seat.me.0 =
    ap (λ (p : CachePadded Participant). told_in (padded_value p).note) here ∙ ap told_in out in
    subst-note (told_in (padded_value y).note) is
  where
    subst-note : (o : Option View) → o ≡ Some note.seat.me.0 → Contains (before_all o (notes_in xs)) note.seat.me.0
    subst-note None is = absurd (cc)
    subst-note (Some v) is = (0, omega arith, (let e : Some v ≡ Some note.seat.me.0 = is in cc))
note_among (y ∷ xs) (suc at) x note found out =
    later (told_in (padded_value y).note) (note_among xs at x note found out)
  where
    later : (o : Option View) → Contains (notes_in xs) note.seat.me.0 → Contains (before_all o (notes_in xs)) note.seat.me.0
    later None a = a
    later (Some v) a = Contains-append_right (v ∷ []) (notes_in xs) note.seat.me.0 a

-- where each makes no call any more, all cursors have retired
pub list_all-cursors : (xs : List (CachePadded Participant)) →
    list_all (λ (x : CachePadded Participant). is_silent (padded_value x).worker) xs
    ≡ list_all (λ (cursor : ScriptCursor). cursor.retired) (cursors_in xs)
list_all-cursors [] = refl
list_all-cursors (x ∷ xs) = by (padded_value x).worker (list_all-cursors xs)
  where
    by : (w : Worker) → list_all (λ (y : CachePadded Participant). is_silent (padded_value y).worker) xs
        ≡ list_all (λ (cursor : ScriptCursor). cursor.retired) (cursors_in xs) →
        (is_silent w && list_all (λ (y : CachePadded Participant). is_silent (padded_value y).worker) xs)
        ≡ list_all (λ (cursor : ScriptCursor). cursor.retired) (before_all (cursor_of w) (cursors_in xs))
    by (Mutator o) rest = ap (λ (b : Bool). o.cursor.retired && b) rest
    by (Visitor o) rest = rest

-- no mutator met a race
pub races_in-none : (xs : List (CachePadded Participant)) (mutators : ℕ) → AreParted mutators xs → length xs ≤ mutators →
    races_in xs ≡ 0
races_in-none [] mutators parted within = refl
races_in-none (x ∷ xs) zero parted within = absurd (omega (arith, within))
races_in-none (x ∷ xs) (suc mutators) parted within =
    by (padded_value x).worker (parted 0 x refl) (races_in-none xs mutators
    (λ p y found. IsParted-shift mutators p (padded_value y).worker (parted (suc p) y found)) (omega (arith, within)))
  where
    by : (w : Worker) → IsParted (suc mutators) 0 w → races_in xs ≡ 0 → races_of w + races_in xs ≡ 0
    by (Visitor o) far rest = absurd (omega (arith, far))
    by (Mutator o) near rest = omega (arith, rest)

-- a note that isn't one is none
pub no_note_is : (o : Option Note) → ((note : Note) → o ≡ Some note → ⊥) → o ≡ None
no_note_is None apart = refl
no_note_is (Some note) apart = absurd (apart note refl)

-- those of one more participant are added
pub races_more : (xs : List (CachePadded Participant)) (at : ℕ) (d : CachePadded Participant) → at < length xs →
    races_in (take (at + 1) xs) ≡ races_in (take at xs) + races_of (padded_value (get_or xs at d)).worker
races_more xs at d below =
    ap races_in (take_more xs at d below)
    ∙ races_in-append (take at xs) (get_or xs at d ∷ [])
    ∙ (let last : races_in (take at xs) + (races_of (padded_value (get_or xs at d)).worker + 0)
    ≡ races_in (take at xs) + races_of (padded_value (get_or xs at d)).worker = omega arith in last)
