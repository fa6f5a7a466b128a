-- What is known after the freeze is the history of the opening: the mutator, a newcomer, heard no other and made no
-- visit.
use Rattle.std.proofs.Common.{ℕ, ◌≡◌, ◌+◌, sym, ◌∙◌, ap, subst, List, [], ◌∷◌, ◌++◌, length}
use Rattle.std.specs.Prelude.{◌==◌, if◌then◌else◌, nat_lt}
use Rattle.tide_heap.specs.tide_core.machine.Frozen.{FrozenWith}
use Rattle.tide_heap.specs.tide_core.declared.machine.view.View.{View}
use Rattle.tide_model.specs.History.{plain}
use Rattle.tide_model.specs.declared.entry.Entry.TheVariants.{Open}
use Rattle.tide_model.specs.declared.entry.Event.{Event}
use Rattle.tide_shape.specs.Lists.{lists_of}
use Rattle.tide_heap.specs.tide_words.heap.Heap.{heap_of}
use Rattle.check_table.specs.Standing.{opened_once}
use Rattle.check_table.proofs.freezing.stand_still.Goals as goal

-- the first part that is opened is of number 1
first_part : {now before : ℕ} → now ≡ before + 1 → before ≡ 0 → now ≡ 1
first_part is none = is ∙ ap (λ (n : ℕ). n + 1) none

-- who begins it begins another part than the last
begins : {last part : ℕ} {q other : View} (same : View) → q ≡ (if last == part then same else other) → last ≡ 0 → part ≡ 1 → q ≡ other
begins {last = last} {part = part} {other = other} same is none first =
    is ∙ ap (λ (n : ℕ). if n == part then same else other) none ∙ ap (λ (n : ℕ). if 0 == n then same else other) first

-- of two histories of one opened part the longer is that
longer_of_one : {one other : List Event} → one ≡ opened_once 5 → other ≡ opened_once 5 →
    (if nat_lt (length one) (length other) then other else one) ≡ opened_once 5
longer_of_one one other = λ i. if nat_lt (length (one i)) (length (other i)) then other i else one i

-- who has seen nothing hears of it
hears : {one other : List Event} → one ≡ [] → other ≡ opened_once 5 →
    (if nat_lt (length one) (length other) then other else one) ≡ opened_once 5
hears one other = λ i. if nat_lt (length (one i)) (length (other i)) then other i else one i

-- it is opened where nothing was before
first_opened : {seen : List Event} {period : ℕ} → seen ≡ [] → period ≡ 0 → seen ++ plain (Open (period + 1) 5) ∷ [] ≡ opened_once 5
first_opened seen period = λ i. seen i ++ plain (Open (period i + 1) 5) ∷ []

-- a mutator that made no visit leaves none to enter
none_entered : {visits_told begun period visits : ℕ} → visits_told ≡ 0 → begun ≡ 1 → period ≡ 1 → visits ≡ 0 →
    visits_told + (if begun == period then visits else 0) ≡ 0
none_entered visits_told begun period visits = λ i. visits_told i + (if begun i == period i then visits i else 0)

pub returns-clause-stands : goal.returns-clause-stands
returns-clause-stands c =
    let new = c.requires.newcomer in
    let first = first_part (ap (λ (x : View). x.period) c.open_first.ensures.opened) c.requires.started.period in
    let begun = begins _ c.begin_part.ensures.begun.1 (ap (λ (x : View). x.begun) new) first in
    let layout = c.args.heap.now.key.layout in
    let shapes = lists_of c.args.heap.now.key.shapes in
    let stays = c.begin_part.ensures.same.1 in
    let opened = c.open_first.ensures.opened in
    let opens = ap (λ (x : View). x.seen) opened ∙ first_opened c.requires.started.seen c.requires.started.period in
    let hears_it = ap (λ (x : View). x.seen) begun ∙ hears (ap (λ (x : View). x.seen) new) opens in
    let seen = longer_of_one (ap (λ (x : View). x.seen) stays ∙ opens) hears_it in
    let entered = none_entered (ap (λ (x : View). x.visits_told) (stays ∙ opened)) (ap (λ (x : View). x.begun) begun ∙ first)
    (ap (λ (x : View). x.period) stays ∙ first) (ap (λ (x : View). x.visits) begun) in
    let freezes = c.stop_and_freeze.ensures.frozen in
    let words = ap (λ (x : View). x.words) freezes.view in
    record {
      frozen = ap (λ (x : View). x.frozen) freezes.view;
      seen = ap (λ (x : View). x.seen) freezes.view ∙ seen;
      words_at_entry = ap (λ (x : View). x.words_at_entry) freezes.view ∙ sym words;
      stood = ap (λ (x : View). x.stood) freezes.view ∙ sym words;
      long = ap {A = List ℕ} length words ∙ freezes.long;
      wave = subst (λ (ws : List ℕ). FrozenWith layout shapes (heap_of layout ws) (opened_once 5) 0) (sym words)
          (subst (λ (h : List Event). FrozenWith layout shapes (heap_of layout freezes.words) h 0) seen
          (subst (FrozenWith layout shapes (heap_of layout freezes.words) _) entered freezes.wave));
    }
