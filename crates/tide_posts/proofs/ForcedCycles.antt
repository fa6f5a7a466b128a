-- A forced freeze has a full cycle, and no freeze has a call.
use Rattle.std.proofs.Common.{ℕ, ◌≡◌, ◌+◌, refl, sym, ◌∙◌, ap, Bool, true, false, true≢false, List, [], ◌∷◌, ◌++◌, append_assoc}
use Rattle.std.proofs.lemmas.Bool.{and_parts}
use Rattle.std.specs.List.{list_all}
use Rattle.std.specs.Prelude.{◌&&◌, ◌||◌, Option, None, Some, if◌then◌else◌, is_some, not}
use Rattle.tide_model.specs.Cycle.{begin_count}
use Rattle.tide_model.specs.Freeze.{Begins, IsFreeze, Paused, end_entries, is_due, marks_after, marks_of, pause_entries, visits_entries}
use Rattle.tide_model.specs.Layout.{Layout}
use Rattle.tide_model.specs.Pace.{Pace}
use Rattle.tide_model.specs.Since.{is_call, is_sweep}
use Rattle.tide_model.specs.declared.entry.Entry.TheVariants.{Begin, Call, End, Pause}
use Rattle.tide_model.specs.declared.entry.Entry.{Entry}
use Rattle.tide_model.specs.declared.entry.Event.{Event}
use Rattle.tide_model.specs.declared.op.Op.{Op}
use Rattle.tide_model.specs.declared.op.Reply.{Reply}
use Rattle.tide_posts.specs.FullCycles.{RanFullCycle}

-- one of a freeze's marks is that of an event in it, and the marks that follow are those of what is behind the event
record IsMark (freeze : List Event) (mark : Entry) (rest : List Entry) : Type 0 where
  before : List Event
  event : Event
  behind : List Event
  is : freeze ≡ before ++ event ∷ behind
  entry : event.entry ≡ mark
  others : marks_of behind ≡ rest

module _ (x : Event) (freeze : List Event) (mark : Entry) (rest : List Entry)
    (found : (marks : List Entry) → marks_of freeze ≡ marks ++ mark ∷ rest → IsMark freeze mark rest) where
  later : IsMark freeze mark rest → IsMark (x ∷ freeze) mark rest
  later is = record {
    before = x ∷ is.before;
    event = is.event;
    behind = is.behind;
    is = ap (λ (l : List Event). x ∷ l) is.is;
    entry = is.entry;
    others = is.others;
  }

  by_place : (marks : List Entry) → x.entry ∷ marks_of freeze ≡ marks ++ mark ∷ rest → IsMark (x ∷ freeze) mark rest
  by_place [] same = record { before = []; event = x; behind = freeze; is = refl; entry = cc; others = cc }
  by_place (first ∷ marks) same = later (found marks (cc))

  by_kept : (kept : Bool) (marks : List Entry) →
      (if kept then x.entry ∷ marks_of freeze else marks_of freeze) ≡ marks ++ mark ∷ rest → IsMark (x ∷ freeze) mark rest
  by_kept true marks same = by_place marks same
  by_kept false marks same = later (found marks same)

marks_at : (freeze : List Event) (marks : List Entry) (mark : Entry) (rest : List Entry) →
    marks_of freeze ≡ marks ++ mark ∷ rest → IsMark freeze mark rest
marks_at [] [] mark rest same = absurd (cc)
marks_at [] (first ∷ marks) mark rest same = absurd (cc)
marks_at (x ∷ freeze) marks mark rest same =
    by_kept x freeze mark rest (λ ms is. marks_at freeze ms mark rest is) (not (is_sweep x.entry)) marks same

-- the pause of a cycle that has to end is followed by its end
has_end : (cycle : ℕ) (freed : Option (List ℕ)) → is_some freed ≡ true →
    (cells : List ℕ) × (end_entries cycle freed ≡ End cycle cells ∷ [])
has_end cycle None is = absurd (true≢false (sym is))
has_end cycle (Some cells) is = (cells, refl)

-- a forced freeze has a full cycle
pub forced_cycle : (pace : Pace) (layout : Layout) (here freeze : List Event) (run : ℕ) →
    IsFreeze pace layout here run true (marks_of freeze) → RanFullCycle here (here ++ freeze)
forced_cycle pace layout here freeze run is = record {
  cycle = cycle;
  freed = ended.0;
  begin = first.event;
  end = last.event;
  begins = first.entry;
  ends = last.entry;
  before = here ++ first.before;
  within = ((here ++ first.before) ++ first.event ∷ []) ++ last.before;
  behind = record { rest = first.before; joins = refl };
  goes_on = record { rest = last.before; joins = refl };
  over = record { rest = last.behind; joins = joins };
}
  where
    begins : Begins pace here true is.new
    begins = is.begins refl

    cycle : ℕ
    cycle = begin_count here + 1

    ended : (cells : List ℕ) × (end_entries cycle begins.paused.freed ≡ End cycle cells ∷ [])
    ended = has_end cycle begins.paused.freed (begins.pause.ends refl)

    first : IsMark freeze (Begin cycle true) (Pause begins.paused.visits ∷ End cycle ended.0 ∷ [])
    first = marks_at freeze is.old (Begin cycle true) (Pause begins.paused.visits ∷ End cycle ended.0 ∷ [])
        (is.are ∙ ap (λ (l : List Entry). is.old ++ l) begins.are
        ∙ ap (λ (l : List Entry). is.old ++ Begin cycle true ∷ Pause begins.paused.visits ∷ l) ended.1)

    last : IsMark first.behind (End cycle ended.0) []
    last = marks_at first.behind (Pause begins.paused.visits ∷ []) (End cycle ended.0) [] first.others

    joins : (((((here ++ first.before) ++ first.event ∷ []) ++ last.before) ++ last.event ∷ []) ++ last.behind) ≡ (here ++ freeze)
    joins = append_assoc (((here ++ first.before) ++ first.event ∷ []) ++ last.before) (last.event ∷ []) last.behind
        ∙ append_assoc ((here ++ first.before) ++ first.event ∷ []) last.before (last.event ∷ last.behind)
        ∙ ap (λ (l : List Event). ((here ++ first.before) ++ first.event ∷ []) ++ l) (sym last.is)
        ∙ append_assoc (here ++ first.before) (first.event ∷ []) first.behind
        ∙ append_assoc here first.before (first.event ∷ first.behind)
        ∙ ap (λ (l : List Event). here ++ l) (sym first.is)

-- none of these entries is a call
abbrev pub no_calls : List Entry → Bool
no_calls entries = list_all (λ entry. not (is_call entry)) entries

no_calls-append : (xs ys : List Entry) → no_calls xs ≡ true → no_calls ys ≡ true → no_calls (xs ++ ys) ≡ true
no_calls-append [] ys early late = late
no_calls-append (x ∷ xs) ys early late =
    let (first, rest) = and_parts (not (is_call x)) (no_calls xs) early in
    ap (λ (b : Bool). b && no_calls (xs ++ ys)) first ∙ no_calls-append xs ys rest late

no_calls-visits : (who : ℕ) (visits : List ℕ) → no_calls (visits_entries who visits) ≡ true
no_calls-visits who [] = refl
no_calls-visits who (visits ∷ others) = no_calls-visits (who + 1) others

no_calls-pause : (cycle : ℕ) (paused : Paused) → no_calls (pause_entries cycle paused) ≡ true
no_calls-pause cycle paused = by_freed paused.freed
  where
    by_freed : (freed : Option (List ℕ)) → no_calls (end_entries cycle freed) ≡ true
    by_freed None = refl
    by_freed (Some freed) = refl

-- nor is one of a freeze
pub no_calls-freeze : (pace : Pace) (layout : Layout) (here : List Event) (run : ℕ) (must : Bool) (marks : List Entry) →
    IsFreeze pace layout here run must marks → no_calls marks ≡ true
no_calls-freeze pace layout here run must marks freeze =
    ap no_calls freeze.are
    ∙ no_calls-append freeze.old freeze.new (of_old (marks_after layout here) refl) (of_new (must || is_due pace layout here) refl)
  where
    of_old : (goes_on : Bool) → marks_after layout here ≡ goes_on → no_calls freeze.old ≡ true
    of_old true is =
        let goes_on = freeze.goes_on is in
        ap no_calls goes_on.are
        ∙ no_calls-append (visits_entries 0 goes_on.visits) (pause_entries _ goes_on.paused)
        (no_calls-visits 0 goes_on.visits) (no_calls-pause _ goes_on.paused)
    of_old false is = ap no_calls (freeze.rests is)

    of_new : (begins : Bool) → (must || is_due pace layout here) ≡ begins → no_calls freeze.new ≡ true
    of_new true is =
        let begins = freeze.begins is in
        ap no_calls begins.are ∙ no_calls-pause _ begins.paused
    of_new false is = ap no_calls (freeze.stays is)

-- so none is in such a list
pub has_no_call : (xs ys : List Entry) (who : ℕ) (op : Op) (reply : Reply) → no_calls (xs ++ Call who op reply ∷ ys) ≡ true → ⊥
has_no_call [] ys who op reply none = true≢false (sym none)
has_no_call (x ∷ xs) ys who op reply none =
    has_no_call xs ys who op reply (and_parts (not (is_call x)) (no_calls (xs ++ Call who op reply ∷ ys)) none).1
