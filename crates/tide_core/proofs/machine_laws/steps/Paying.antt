-- A word that is owed is stored: the reading is as it was.
use Rattle.std.proofs.Common.{ℕ, zero, suc, ◌≡◌, ◌==◌, refl, sym, ◌∙◌, ap, subst, arith, Bool, true, false, List, [], ◌∷◌, ◌++◌, inl, inr}
use Rattle.std.proofs.lemmas.Bool.{cases_Bool, eqb-true, and_parts}
use Rattle.std.proofs.lemmas.List.Elements.{filter-append, Contains-append_cases, Contains-append_left, Contains-append_right}
use Rattle.std.specs.Prelude.{Contains, if◌then◌else◌, ◌&&◌, not, filter}
use Rattle.tide_words.proofs.tide_layout.Places.{tag-injective}
use Rattle.tide_words.specs.tide_layout.Region.{tag}
use Rattle.tide_words.specs.tide_layout.declared.region.Region.{Region}
use Rattle.tide_core.proofs.machine_laws.steps.Frames.{each_put}
use Rattle.tide_core.proofs.machine_laws.steps.Unsettled.{given_put, unsettles_put}
use Rattle.tide_core.specs.machine.Owed.{is_at, Owes, IsOwnWord, owed_word, without_word}
use Rattle.tide_core.specs.declared.machine.view.Owed.{Owed}
use Rattle.tide_core.specs.declared.machine.view.View.{View}
use Rattle.tide_core.specs.machine.points.SettledWords.{RunningWordsRead}
use Rattle.tide_model.proofs.ReferenceLaws.{put_at_elim}
use Rattle.tide_model.specs.Layout.{Layout}
use Rattle.tide_model.specs.Numbers.{put_at}
use Rattle.tide_model.specs.Refused.{ShapeLists}
use Rattle.tide_model.specs.State.{State}
use Rattle.tide_words.specs.heap.Heap.{Heap, write}

-- what stands in a list that a test went over
pub filter_one : {X : Type 0} (test : X → Bool) (x : X) (xs : List X) →
    filter test (x ∷ xs) ≡ filter test (x ∷ []) ++ filter test xs
filter_one test x xs = filter-append test (x ∷ []) xs

pub in_filter : {X : Type 0} (test : X → Bool) (xs : List X) (y : X) → test y ≡ true → Contains xs y →
    Contains (filter test xs) y
in_filter test [] y passes is = is
in_filter {X} test (x ∷ xs) y passes is = subst (λ (l : List X). Contains l y) (sym (filter_one test x xs))
    (elim (Contains-append_cases (x ∷ []) xs y is) [
      | inl here ↦ Contains-append_left (filter test (x ∷ [])) (filter test xs) y
          (subst (λ (l : List X). Contains l y) (sym (stays (only here))) here)
      | inr later ↦ Contains-append_right (filter test (x ∷ [])) (filter test xs) y (in_filter test xs y passes later)
    ])
  where
    only : Contains (x ∷ []) y → x ≡ y
    only (zero, below, same) = same
    only (suc k, below, same) = absurd (omega (arith, below))

    stays : x ≡ y → filter test (x ∷ []) ≡ x ∷ []
    stays same = ap (λ (b : Bool). if b then x ∷ [] else []) (ap test same ∙ passes)

pub filter_was : {X : Type 0} (test : X → Bool) (xs : List X) (y : X) → Contains (filter test xs) y → Contains xs y ×
    (test y ≡ true)
filter_was test [] y is = absurd (let below = is.1 in omega (arith, below))
filter_was {X} test (x ∷ xs) y is =
    elim (Contains-append_cases (filter test (x ∷ [])) (filter test xs) y
    (subst (λ (l : List X). Contains l y) (filter_one test x xs) is)) [
      | inl here ↦ (let (at, passes) = first (test x) refl here in (Contains-append_left (x ∷ []) xs y at, passes))
      | inr later ↦ (let (at, passes) = filter_was test xs y later in (Contains-append_right (x ∷ []) xs y at, passes))
    ]
  where
    only : Contains (x ∷ []) y → x ≡ y
    only (zero, below, same) = same
    only (suc k, below, same) = absurd (omega (arith, below))

    first : (b : Bool) → test x ≡ b → Contains (if b then x ∷ [] else []) y → Contains (x ∷ []) y × (test y ≡ true)
    first true passes at = (at, ap test (sym (only at)) ∙ passes)
    first false fails at = absurd (let below = at.1 in omega (arith, below))

module _ (layout : Layout) (shapes : ShapeLists) (heap : Heap) (part : ℕ → View) (me : ℕ) (state : State)
    (words : RunningWordsRead layout shapes heap part state) (at : Region) (index : ℕ) (next : View)
    (told : (r : Region) (i x : ℕ) → Contains next.known (owed_word r i x) → words.settled r i ≡ x)
    (sweeps : next.sweeping ≡ (part me).sweeping) where
  -- it is another word
  apart_from : Region → ℕ → Type 0
  apart_from r i = is_at at index (owed_word r i 0) ≡ false

  keeps_other : (r : Region) (i word : ℕ) → is_at at index (owed_word r i word) ≡ false →
      next.owed ≡ without_word at index (part me).owed → Owes (part me) r i word → Owes next r i word
  keeps_other r i word other is owes = subst (λ (l : List Owed). Contains l (owed_word r i word)) (sym is)
      (in_filter (λ o. not (is_at at index o)) (part me).owed (owed_word r i word) (ap not other) owes)

  had : (r : Region) (i word : ℕ) → next.owed ≡ without_word at index (part me).owed → Owes next r i word →
      Owes (part me) r i word × (is_at at index (owed_word r i word) ≡ false)
  had r i word is owes = let was = filter_was (λ o. not (is_at at index o)) (part me).owed (owed_word r i word)
      (subst (λ (l : List Owed). Contains l (owed_word r i word)) is owes) in
      (was.0, not_true (is_at at index (owed_word r i word)) was.1)
    where
      not_true : (b : Bool) → not b ≡ true → b ≡ false
      not_true true e = absurd (cc)
      not_true false e = refl

  -- a word at another place than the one written
  untouched : (word : ℕ) (r : Region) (i : ℕ) → ((tag r == tag at) && (i == index)) ≡ false →
      write heap at index word r i ≡ heap r i
  untouched word r i other = ap (λ (b : Bool). if b then word else heap r i) other

  pub words_paid : (word : ℕ) → Owes (part me) at index word → next.owed ≡ without_word at index (part me).owed →
      RunningWordsRead layout shapes (write heap at index word) (put_at part me next) state
  words_paid word owes is = record {
    settled = words.settled;
    reads = words.reads;
    same = λ r i read free swept. elim (cases_Bool ((tag r == tag at) && (i == index))) [
      | inl here ↦
          let parts = and_parts (tag r == tag at) (i == index) here in
          let region_is = tag-injective r at (eqb-true (tag r) (tag at) parts.0) in
          let index_is = eqb-true i index parts.1 in
          ap (λ (b : Bool). if b then word else heap r i) here
          ∙ sym (ap (λ (q : Region). words.settled q i) region_is ∙ ap (words.settled at) index_is ∙
          words.owed me at index word owes)
      | inr other ↦ untouched word r i other ∙ words.same r i read (λ p x was. free p x (back p r i x other was))
          (unsettles_put part me next sweeps r i swept)
    ];
    owed = each_put (λ p u. (r : Region) (i x : ℕ) → Owes u r i x → words.settled r i ≡ x) part me next (λ r i x o.
        words.owed me r i x (had r i x is o).0) words.owed;
    known = each_put (λ p u. (r : Region) (i x : ℕ) → Contains u.known (owed_word r i x) →
        words.settled r i ≡ x) part me next told words.known;
    given = given_put words.settled part me next sweeps words.given;
    owns = each_put (λ p u. (r : Region) (i x : ℕ) → Owes u r i x → IsOwnWord layout state p r i) part me next
        (λ r i x o. words.owns me r i x (had r i x is o).0) words.owns;
  }
    where
      back : (p : ℕ) (r : Region) (i x : ℕ) → ((tag r == tag at) && (i == index)) ≡ false → Owes (part p) r i x →
          Owes (put_at part me next p) r i x
      back = put_at_elim (λ p u. (r : Region) (i x : ℕ) → ((tag r == tag at) && (i == index)) ≡ false →
          Owes (part p) r i x → Owes u r i x) part me next (λ r i x other o. keeps_other r i x other is o)
          (λ p apart r i x other o. o)

  -- a word that is owed and stays owed may have any word meanwhile
  pub words_over : (word later : ℕ) → Owes (part me) at index later → next.owed ≡ (part me).owed →
      RunningWordsRead layout shapes (write heap at index word) (put_at part me next) state
  words_over word later owes is = record {
    settled = words.settled;
    reads = words.reads;
    same = λ r i read free swept. elim (cases_Bool ((tag r == tag at) && (i == index))) [
      | inl here ↦
          let parts = and_parts (tag r == tag at) (i == index) here in
          let region_is = tag-injective r at (eqb-true (tag r) (tag at) parts.0) in
          let index_is = eqb-true i index parts.1 in
          absurd (free me later (back me r i later (subst (λ (q : Region). Owes (part me) q i later) (sym region_is)
          (subst (λ (j : ℕ). Owes (part me) at j later) (sym index_is) owes))))
      | inr other ↦ untouched word r i other ∙ words.same r i read (λ p x was. free p x (back p r i x was))
          (unsettles_put part me next sweeps r i swept)
    ];
    owed = each_put (λ p u. (r : Region) (i x : ℕ) → Owes u r i x → words.settled r i ≡ x) part me next (λ r i x o.
        words.owed me r i x (now r i x o)) words.owed;
    known = each_put (λ p u. (r : Region) (i x : ℕ) → Contains u.known (owed_word r i x) →
        words.settled r i ≡ x) part me next told words.known;
    given = given_put words.settled part me next sweeps words.given;
    owns = each_put (λ p u. (r : Region) (i x : ℕ) → Owes u r i x → IsOwnWord layout state p r i) part me next
        (λ r i x o. words.owns me r i x (now r i x o)) words.owns;
  }
    where
      now : (r : Region) (i x : ℕ) → Owes next r i x → Owes (part me) r i x
      now r i x o = subst (λ (l : List Owed). Contains l (owed_word r i x)) is o

      back : (p : ℕ) (r : Region) (i x : ℕ) → Owes (part p) r i x → Owes (put_at part me next p) r i x
      back = put_at_elim (λ p u. (r : Region) (i x : ℕ) → Owes (part p) r i x → Owes u r i x) part me next (λ r i x o.
          subst (λ (l : List Owed). Contains l (owed_word r i x)) (sym is) o) (λ p apart r i x o. o)
