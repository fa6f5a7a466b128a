-- How two mutators and their collector go from one state to the next.
use Rattle.std.proofs.Common.{ℕ, zero, suc, ◌≡◌, ◌+◌, ◌<◌, ◌≤◌, ◌⊎◌, refl, sym, ◌∙◌, ap, subst, arith, inl, inr, Bool, true, false, List, [], ◌∷◌}
use Rattle.std.proofs.lemmas.Bool.{eqb-true}
use Rattle.std.specs.Prelude.{◌==◌, if◌then◌else◌}
use Rattle.check_table.specs.callers.Working.{IsReady, Stays}
use Rattle.check_table.specs.Unvisited.{RunsPart}
use Rattle.tide_table.proofs.Nexts.{RunsWith-noted}
use Rattle.tide_table.specs.Standing.{HasOpenedNext}
use Rattle.tide_table.specs.VisitsTold.{unentered}
use Rattle.check_table.specs.Pairs.{HasOpened, HaveBegun, HaveCalled, HaveStopped, SameCalls, gone_if}
use Rattle.check_table.specs.Resting.{IsAtRest, TakesPart}
use Rattle.check_table.specs.Working.{HasLooked, IsSmall}
use Rattle.check_table.specs.declared.pair.Pair.{Pair}
use Rattle.tide_heap.specs.tide_freeze.declared.books.Books.{Books}
use Rattle.tide_heap.specs.Parties.{In, IsParty}
use Rattle.tide_heap.specs.Turns.{heard_view, note_of, noted, ticket_of}
use Rattle.tide_heap.specs.declared.heap.Heap.{Heap}
use Rattle.tide_heap.specs.tide_core.machine.Frozen.{newcomer}
use Rattle.tide_heap.specs.tide_core.machine.May.{Rests}
use Rattle.tide_heap.specs.tide_core.declared.machine.view.View.{View}
use Rattle.tide_heap.specs.tide_core.machine.kinds.Activate.{begun_view}
use Rattle.tide_heap.specs.tide_core.machine.kinds.Split.{split_view}
use Rattle.tide_heap.specs.tide_core.machine.kinds.StoreStopped.{stopped_view}
use Rattle.tide_model.specs.Layout.{Layout}
use Rattle.tide_model.specs.declared.entry.Event.{Event}
use Rattle.tide_shape.specs.declared.shapes.Shapes.{Shapes}

-- a mutator that knows nothing is at rest before any part but one with the number 0
pub new_rests : (who part : ℕ) (v : View) → v ≡ newcomer who → 0 < part → IsAtRest who part v
new_rests who part v is later = subst (IsAtRest who part) (sym is) (record {
  is = refl;
  stopped = refl;
  period = later;
  begun = later;
  visits = refl;
  rests = record {
    held = refl;
    scan = refl;
    between = record { owed = refl; duty = refl; growth = refl; sweeping = refl; calls = refl };
  };
})

-- a view that begins, where it had begun in the part before, and else
abbrev begun_by : Bool → View → View
begun_by b h =
    if b then record h { runs = true; round = []; full = []; known = [] }
    else record h {
      runs = true;
      begun = h.ticket;
      born = 0;
      visits = 0;
      races = 0;
      round = [];
      full = [];
      known = [];
    }

-- it begins the open part
pub begun_takes : (who part : ℕ) (v c : View) → c.period ≡ part → IsAtRest who part v →
    TakesPart who part (begun_view (heard_view v (ticket_of c)))
begun_takes who part v c is rest = by (v.begun == c.period) refl
  where
    h : View
    h = heard_view v (ticket_of c)

    by : (b : Bool) → (v.begun == c.period) ≡ b → TakesPart who part (begun_by b h)
    by true same = absurd (let e = eqb-true v.begun c.period same in let b = rest.begun in omega (arith, e, is, b))
    by false other = record {
      is = rest.is;
      runs = refl;
      ticket = is;
      begun = is;
      once = rest.period;
      visits = refl;
      rests = record {
        held = rest.rests.held;
        scan = rest.rests.scan;
        between = record {
          owed = rest.rests.between.owed;
          duty = rest.rests.between.duty;
          growth = rest.rests.between.growth;
          sweeping = rest.rests.between.sweeping;
          calls = rest.rests.between.calls;
        };
      };
    }

-- it makes calls
pub still_takes : (layout : Layout) (who part : ℕ) (calls : List Event) (left : Bool) (v u : View) → Stays v u →
    IsReady layout u calls left → TakesPart who part v → TakesPart who part u
still_takes layout who part calls left v u stays ready takes = record {
  is = stays.who ∙ takes.is;
  runs = ready.runs;
  ticket = stays.ticket ∙ takes.ticket;
  begun = stays.begun ∙ takes.begun;
  once = subst (λ (n : ℕ). n < part) (sym stays.period) takes.once;
  visits = stays.visits ∙ takes.visits;
  rests = ready.rests;
}

-- it looks
pub looked_takes : (who part : ℕ) (v u : View) → HasLooked v u → TakesPart who part v → TakesPart who part u
looked_takes who part v u looked takes = subst (TakesPart who part) (sym looked.is) (record {
  is = takes.is;
  runs = takes.runs;
  ticket = takes.ticket;
  begun = takes.begun;
  once = takes.once;
  visits = takes.visits;
  rests = record {
    held = takes.rests.held;
    scan = takes.rests.scan;
    between = record {
      owed = takes.rests.between.owed;
      duty = takes.rests.between.duty;
      growth = takes.rests.between.growth;
      sweeping = takes.rests.between.sweeping;
      calls = takes.rests.between.calls;
    };
  };
})

-- it stops
pub stopped_rests : (who part : ℕ) (v : View) → TakesPart who part v →
    IsAtRest who (part + 1) (split_view (stopped_view v))
stopped_rests who part v takes = record {
  is = takes.is;
  stopped = refl;
  period = subst (λ (n : ℕ). n < part + 1) (sym takes.ticket) (omega arith);
  begun = subst (λ (n : ℕ). n < part + 1) (sym takes.begun) (omega arith);
  visits = takes.visits;
  rests = record {
    held = takes.rests.held;
    scan = takes.rests.scan;
    between = record {
      owed = takes.rests.between.owed;
      duty = takes.rests.between.duty;
      growth = takes.rests.between.growth;
      sweeping = takes.rests.between.sweeping;
      calls = takes.rests.between.calls;
    };
  };
}

nothing_more : (b : Bool) (visits unentered : ℕ) → visits ≡ 0 → unentered ≡ 0 → (if b then visits else 0) + unentered ≡ 0
nothing_more true visits unentered none is = omega (arith, none, is)
nothing_more false visits unentered none is = omega (arith, is)

-- the collector takes its note in, which tells no visit
pub noted_runs : (layout : Layout) (books : Books) (c v : View) → v.visits ≡ 0 → RunsPart layout books c →
    RunsPart layout books (noted c (note_of true (stopped_view v)))
noted_runs layout books c v none runs = record {
  part = RunsWith-noted layout books c (note_of true (stopped_view v)) runs.part;
  unvisited = nothing_more (v.begun == c.period) v.visits (unentered c.visited) none runs.unvisited;
}

-- the same books over the same heap
runs_same : (p q : Pair) (v : View) → q.heap ≡ p.heap → q.books ≡ p.books →
    RunsPart p.heap.key.layout p.books v → RunsPart q.heap.key.layout q.books v
runs_same p q v heap books runs =
    subst (λ (h : Heap Shapes). RunsPart h.key.layout q.books v) (sym heap)
    (subst (λ (b : Books). RunsPart p.heap.key.layout b v) (sym books) runs)

-- a beginning is no call
pub begun_keeps : (v c u : View) → u ≡ begun_view (heard_view v (ticket_of c)) →
    (u.mine ≡ v.mine) × (u.left ≡ v.left)
begun_keeps v c u is =
    let same = kept (v.begun == c.period) (heard_view v (ticket_of c)) in
    (ap (λ (x : View). x.mine) is ∙ same.0, ap (λ (x : View). x.left) is ∙ same.1)
  where
    kept : (b : Bool) (h : View) → ((begun_by b h).mine ≡ h.mine) × ((begun_by b h).left ≡ h.left)
    kept true h = (refl, refl)
    kept false h = (refl, refl)

-- a mutator that runs in the part may make a call
pub is_ready : (layout : Layout) (who part : ℕ) (calls : List Event) (left : Bool) (v : View) → IsSmall layout →
    who < 2 → TakesPart who part v → v.mine ≡ calls → v.left ≡ left → IsReady layout v calls left
is_ready layout who part calls left v small below takes made is_left = record {
  runs = takes.runs;
  is_mutator = subst (λ (n : ℕ). v.who < n) (sym small.two) (subst (λ (n : ℕ). n < 2) (sym takes.is) below);
  rests = takes.rests;
  made = made;
  is_left = is_left;
}

-- both begin
pub begin_both : (p q : Pair) (c : View) → q.heap ≡ p.heap → q.books ≡ p.books →
    c ≡ p.collector.seat.me.0 → q.collector.seat.me.0 ≡ c →
    q.one.seat.me.0 ≡ begun_view (heard_view p.one.seat.me.0 (ticket_of p.collector.seat.me.0)) →
    q.other.seat.me.0 ≡ begun_view (heard_view p.other.seat.me.0 (ticket_of c)) → HasOpened p → HaveBegun q
begin_both p q c heap books first second one other opened =
    let same = second ∙ first in
    record {
      part = subst (RunsPart q.heap.key.layout q.books) (sym same)
          (runs_same p q p.collector.seat.me.0 heap books opened.part);
      notes = ap (λ (x : View). x.notes) same ∙ opened.notes;
      gone = ap (λ (x : View). x.gone) same ∙ opened.gone;
      one = subst (λ (x : View). TakesPart 0 q.collector.seat.me.0.period x) (sym one)
          (subst (λ (n : ℕ). TakesPart 0 n (begun_view (heard_view p.one.seat.me.0 (ticket_of p.collector.seat.me.0))))
          (sym (ap (λ (x : View). x.period) same))
          (begun_takes 0 p.collector.seat.me.0.period p.one.seat.me.0 p.collector.seat.me.0 refl opened.one));
      other = subst (λ (x : View). TakesPart 1 q.collector.seat.me.0.period x) (sym other)
          (subst (λ (n : ℕ). TakesPart 1 n (begun_view (heard_view p.other.seat.me.0 (ticket_of c))))
          (sym (ap (λ (x : View). x.period) same))
          (begun_takes 1 p.collector.seat.me.0.period p.other.seat.me.0 c (ap (λ (x : View). x.period) first)
          opened.other));
      alike = (begun_keeps p.other.seat.me.0 c q.other.seat.me.0 other).1 ∙ opened.other_stays
          ∙ sym ((begun_keeps p.one.seat.me.0 p.collector.seat.me.0 q.one.seat.me.0 one).1 ∙ opened.one_stays);
    }

-- who is gone after both notes
two_gone : (l m : Bool) (a b : ℕ) (g : List ℕ) → m ≡ l → a ≡ 0 → b ≡ 1 → g ≡ [] →
    (if m then b ∷ (if l then a ∷ g else g) else (if l then a ∷ g else g)) ≡ gone_if l
two_gone true true a b g same is_a is_b none = cc
two_gone true false a b g same is_a is_b none = absurd (cc)
two_gone false true a b g same is_a is_b none = absurd (cc)
two_gone false false a b g same is_a is_b none = none

-- both stop
pub stop_both : (p q : Pair) (c : View) → q.heap ≡ p.heap → q.books ≡ p.books →
    c ≡ noted p.collector.seat.me.0 (note_of true (stopped_view p.one.seat.me.0)) →
    q.collector.seat.me.0 ≡ noted c (note_of true (stopped_view p.other.seat.me.0)) →
    q.one.seat.me.0 ≡ split_view (stopped_view p.one.seat.me.0) →
    q.other.seat.me.0 ≡ split_view (stopped_view p.other.seat.me.0) → HaveBegun p → HaveStopped q
stop_both p q c heap books first second one other begun =
    let period : q.collector.seat.me.0.period ≡ p.collector.seat.me.0.period =
    ap (λ (x : View). x.period) second ∙ ap (λ (x : View). x.period) first in
    let left : q.one.seat.me.0.left ≡ p.one.seat.me.0.left = ap (λ (x : View). x.left) one in
    record {
      part = subst (RunsPart q.heap.key.layout q.books) (sym second)
          (noted_runs q.heap.key.layout q.books c p.other.seat.me.0 begun.other.visits
          (subst (RunsPart q.heap.key.layout q.books) (sym first)
          (noted_runs q.heap.key.layout q.books p.collector.seat.me.0 p.one.seat.me.0 begun.one.visits
          (runs_same p q p.collector.seat.me.0 heap books begun.part))));
      notes = ap (λ (x : View). x.notes) second
          ∙ ap (λ (l : List ℕ). p.other.seat.me.0.who ∷ l) (ap (λ (x : View). x.notes) first)
          ∙ two_notes p.one.seat.me.0.who p.other.seat.me.0.who p.collector.seat.me.0.notes begun.one.is begun.other.is
          begun.notes;
      gone = ap (λ (x : View). x.gone) second
          ∙ ap (λ (l : List ℕ). if p.other.seat.me.0.left then p.other.seat.me.0.who ∷ l else l)
          (ap (λ (x : View). x.gone) first)
          ∙ two_gone p.one.seat.me.0.left p.other.seat.me.0.left p.one.seat.me.0.who p.other.seat.me.0.who
          p.collector.seat.me.0.gone begun.alike begun.one.is begun.other.is begun.gone
          ∙ ap gone_if (sym left);
      one = subst (λ (x : View). IsAtRest 0 (q.collector.seat.me.0.period + 1) x) (sym one)
          (subst (λ (n : ℕ). IsAtRest 0 (n + 1) (split_view (stopped_view p.one.seat.me.0))) (sym period)
          (stopped_rests 0 p.collector.seat.me.0.period p.one.seat.me.0 begun.one));
      other = subst (λ (x : View). IsAtRest 1 (q.collector.seat.me.0.period + 1) x) (sym other)
          (subst (λ (n : ℕ). IsAtRest 1 (n + 1) (split_view (stopped_view p.other.seat.me.0))) (sym period)
          (stopped_rests 1 p.collector.seat.me.0.period p.other.seat.me.0 begun.other));
      alike = ap (λ (x : View). x.left) other ∙ begun.alike ∙ sym left;
    }
  where
    two_notes : (a b : ℕ) (n : List ℕ) → a ≡ 0 → b ≡ 1 → n ≡ [] → b ∷ a ∷ n ≡ 1 ∷ 0 ∷ []
    two_notes a b n is_a is_b none = cc

-- the notes of both are those of all
pub all_in : (layout : Layout) (notes gone : List ℕ) → IsSmall layout → notes ≡ 1 ∷ 0 ∷ [] → (i : ℕ) →
    IsParty layout i → In i notes ⊎ In i gone
all_in layout notes gone small is i party = subst (λ (l : List ℕ). In i l ⊎ In i gone) (sym is) (by party)
  where
    low : (n : ℕ) → n < 2 → In n (1 ∷ 0 ∷ [])
    low zero below = inr (inl refl)
    low (suc zero) below = inl refl
    low (suc (suc n)) below = absurd (omega (arith, below))

    by : IsParty layout i → In i (1 ∷ 0 ∷ []) ⊎ In i gone
    by (inl mutator) = inl (low i (subst (λ (n : ℕ). i < n) small.two mutator))
    by (inr (least, most)) = absurd (let none = small.no_visitors in omega (arith, least, most, none))

-- the next part is opened
pub opened_both : (q : Pair) (c : View) → IsAtRest 0 (c.period + 1) q.one.seat.me.0 →
    IsAtRest 1 (c.period + 1) q.other.seat.me.0 → q.one.seat.me.0.left ≡ false → q.other.seat.me.0.left ≡ false →
    c.gone ≡ [] → HasOpenedNext q.heap.key.layout q.books c q.collector.seat.me.0 → HasOpened q
opened_both q c one other one_stays other_stays gone next = record {
  part = record { part = next.runs; unvisited = ap unentered next.visited };
  notes = next.notes;
  gone = next.gone ∙ gone;
  one = subst (λ (n : ℕ). IsAtRest 0 n q.one.seat.me.0) (sym next.period) one;
  other = subst (λ (n : ℕ). IsAtRest 1 n q.other.seat.me.0) (sym next.period) other;
  one_stays = one_stays;
  other_stays = other_stays;
}

-- their calls are still those
pub called_still : (p q : Pair) (calls : ℕ → List Event) (left : Bool) → SameCalls p q → HaveCalled calls left p →
    HaveCalled calls left q
called_still p q calls left same called = record {
  one = same.one ∙ called.one;
  other = same.other ∙ called.other;
  is_left = same.left ∙ called.is_left;
}

pub same_then : (p q r : Pair) → SameCalls p q → SameCalls q r → SameCalls p r
same_then p q r first second = record {
  one = second.one ∙ first.one;
  other = second.other ∙ first.other;
  left = second.left ∙ first.left;
}
