-- What the beginning of a cycle asks and leaves, over the words of a frozen heap.
use Rattle.std.proofs.Common.{ℕ, ◌≡◌, ◌+◌, sym, ◌∙◌, ap, subst, arith, false, List, true}
use Rattle.check_threads.proofs.drains_laws.Freezes.{begun_there, may_begin}
use Rattle.check_threads.specs.drains.Freezes.{IsAtFreeze}
use Rattle.tide_heap.specs.tide_core.wave.Entered.{CycleHasBegun}
use Rattle.tide_heap.proofs.tide_freeze.ParticipantLaws.{LeavesParticipants-begun}
use Rattle.tide_heap.specs.tide_freeze.Entering.{with_entry, MayEnter}
use Rattle.tide_model.specs.Cycle.{begin_count}
use Rattle.tide_model.specs.Refused.{ShapeLists}
use Rattle.tide_model.specs.Layout.{Layout}
use Rattle.tide_model.specs.declared.entry.Entry.TheVariants.{Begin}
use Rattle.tide_model.specs.declared.entry.Event.{Event}
use Rattle.tide_heap.specs.tide_core.declared.machine.view.View.{View}
use Rattle.tide_table.specs.Shown.{bare, Besides, Whose}
use Rattle.tide_heap.specs.tide_words.heap.Heap.{heap_of}
use Rattle.tide_heap.specs.tide_words.marking.Colours.{is_black, is_marking, running_cycle}
use Rattle.check_threads.proofs.drains.freezing.begin_over.Given as given
use Rattle.check_threads.proofs.drains.freezing.begin_over.Goals as goal
use Rattle.check_threads.proofs.drains.freezing.begin_over.Goals.{After-begin}

pub begin-requires-clause-rests : goal.begin-requires-clause-rests
begin-requires-clause-rests g c =
    let layout = c.args.layout.now in
    ap (λ (x : View). is_marking (heap_of layout x.words)) c.phase_of-cycle.ensures.view ∙ sym c.phase_of-cycle.ensures.marks
    ∙ c.if-marks.false

pub begin-requires-clause-few : goal.begin-requires-clause-few
begin-requires-clause-few g c =
    let layout = c.args.layout.now in
    let same = ap (λ (x : View). running_cycle (heap_of layout x.words)) c.phase_of-cycle.ensures.view ∙ sym c.phase_of-cycle.ensures.cycle in
    let below = c.if-cycle-gt0.false in
    omega (arith, same, below)

-- what the beginning of the cycle did, before it is entered
module _ (g : given.Over) (c : After-begin g) where
  abbrev layout : Layout
  layout = c.args.layout.now

  abbrev shapes : ShapeLists
  shapes = g.S.HeapShapes.lists c.args.frozen.now.heap.now.key.shapes

  abbrev before : View
  before = c.phase_of-cycle.new.frozen.collector.now.seat.me.0

  abbrev after : View
  after = c.begin.new.words.collector.now.seat.me.0

  freeze : IsAtFreeze layout shapes before
  freeze = subst (IsAtFreeze layout shapes) (sym c.phase_of-cycle.ensures.view) c.requires.freeze

  idle : is_marking (heap_of layout before.words) ≡ false
  idle = ap (λ (x : View). is_marking (heap_of layout x.words)) c.phase_of-cycle.ensures.view
      ∙ sym c.phase_of-cycle.ensures.marks ∙ c.if-marks.false

  same_cycle : running_cycle (heap_of layout before.words) ≡ c.phase_of-cycle.result.0
  same_cycle = ap (λ (x : View). running_cycle (heap_of layout x.words)) c.phase_of-cycle.ensures.view
      ∙ sym c.phase_of-cycle.ensures.cycle

  first : running_cycle (heap_of layout before.words) ≡ 0
  first = (let same = same_cycle in let none = c.if-cycle-gt0.false in omega (arith, same, none))

  begun : CycleHasBegun layout true (heap_of layout before.words) (heap_of layout after.words)
  begun = record {
    others = c.begin.ensures.others;
    base = c.begin.ensures.base;
    cycle = c.begin.ensures.cycle;
    marks = c.begin.ensures.marks;
    unmarked = c.begin.ensures.unmarked;
    marking = c.begin.ensures.marking;
  }

  number : begin_count before.seen + 1 ≡ c.phase_of-cycle.result.0 + 1
  number = ap (λ (n : ℕ). n + 1) (sym freeze.wave.cycle ∙ same_cycle)

pub enter_begin-requires-clause-laid_out : goal.enter_begin-requires-clause-laid_out
enter_begin-requires-clause-laid_out g c =
    ap (λ (r : Besides). r.whose.layout) c.begin.ensures.same_rest ∙ c.phase_of-cycle.ensures.layout

pub enter_begin-requires-clause-may : goal.enter_begin-requires-clause-may
enter_begin-requires-clause-may g c =
    let b = (goal.at.enter_begin-requires-clause-may g c).After-begin in
    let layout = c.args.layout.now in
    let now = g.S.HeapShapes.lists c.begin.new.words.heap.now.key.shapes in
    let rest = c.begin.ensures.same_rest in
    let words = (after g b).words in
    let seen = (before g b).seen in
    subst (λ (n : ℕ). MayEnter layout now (heap_of layout words) (after g b).seen (Begin n true)) (number g b)
    (subst (λ (h : List Event). MayEnter layout now (heap_of layout words) h (Begin (begin_count seen + 1) true))
    (sym (ap (λ (r : Besides). r.seen) rest))
    (subst (λ (s : ShapeLists). MayEnter layout s (heap_of layout words) seen (Begin (begin_count seen + 1) true))
    (sym (ap (λ (r : Besides). r.whose.shapes) rest ∙ c.phase_of-cycle.ensures.shapes))
    (may_begin layout (shapes g b) (before g b) (freeze g b) words (idle g b) (first g b) (begun g b))))

pub enter_begin-requires-clause-stays_black : goal.enter_begin-requires-clause-stays_black
enter_begin-requires-clause-stays_black g c = λ eden. absurd (cc)

pub returns-clause-freeze : goal.returns-clause-freeze
returns-clause-freeze g c =
    let layout = c.args.layout.now in
    let b = (goal.at.returns-clause-freeze g c).After-begin in
    let rest = c.begin.ensures.same_rest in
    let x = c.enter_begin.new.self.collector.now.seat.me.0 in
    let there = ap (λ (w : Whose). w.layout) c.enter_begin.ensures.kept ∙ ap (λ (r : Besides). r.whose.layout) rest
    ∙ c.phase_of-cycle.ensures.layout in
    λ is. begun_there layout (shapes g b) (before g b) (freeze g b) (after g b).words (idle g b) (first g b) (begun g b)
    x
    c.begin.ensures.all_words
    (ap (λ (w : Whose). w.view) c.enter_begin.ensures.kept ∙ ap (λ (r : Besides). r.whose.view) rest)
    c.enter_begin.ensures.same
    (c.enter_begin.ensures.entered
    ∙ ap (λ (r : Besides). with_entry r.seen (Begin (c.phase_of-cycle.result.0 + 1) true)) rest
    ∙ ap (λ (n : ℕ). with_entry (before g b).seen (Begin n true)) (sym (number g b)))
    (sym (ap (λ (l : Layout). is_black (heap_of l x.words_at_entry)) there) ∙ c.enter_begin.ensures.blacks)
    (LeavesParticipants-begun layout true (heap_of layout (before g b).words) (heap_of layout (after g b).words)
    c.begin.ensures.others).stopped

pub returns-clause-marks : goal.returns-clause-marks
returns-clause-marks g c = λ is.
    ap (λ (ws : List ℕ). is_marking (heap_of c.args.layout.now ws)) c.enter_begin.ensures.same ∙ c.begin.ensures.marks

pub returns-clause-whose : goal.returns-clause-whose
returns-clause-whose g c =
    ap (λ (w : Whose). w.borrow) c.enter_begin.ensures.kept
    ∙ ap (λ (r : Besides). r.whose.borrow) c.begin.ensures.same_rest ∙ c.phase_of-cycle.ensures.whose

pub returns-clause-same : goal.returns-clause-same
returns-clause-same g c =
    ap (λ (w : Whose). w.table_id) c.enter_begin.ensures.kept
    ∙ ap (λ (r : Besides). r.whose.table_id) c.begin.ensures.same_rest ∙ c.phase_of-cycle.ensures.same

pub returns-clause-shapes : goal.returns-clause-shapes
returns-clause-shapes g c =
    ap (λ (w : Whose). w.shapes) c.enter_begin.ensures.kept
    ∙ ap (λ (r : Besides). r.whose.shapes) c.begin.ensures.same_rest ∙ c.phase_of-cycle.ensures.shapes

pub returns-clause-layout : goal.returns-clause-layout
returns-clause-layout g c =
    ap (λ (w : Whose). w.layout) c.enter_begin.ensures.kept
    ∙ ap (λ (r : Besides). r.whose.layout) c.begin.ensures.same_rest ∙ c.phase_of-cycle.ensures.layout

pub returns-clause-view : goal.returns-clause-view
returns-clause-view g c =
    ap (λ (w : Whose). w.view) c.enter_begin.ensures.kept
    ∙ ap (λ (r : Besides). r.whose.view) c.begin.ensures.same_rest ∙ ap bare c.phase_of-cycle.ensures.view
