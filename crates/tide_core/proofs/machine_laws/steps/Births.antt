-- A cell that was free and has just been taken awaits its colour.
use Rattle.std.proofs.Common.{ℕ, ◌≡◌, ◌≢◌, ◌<◌, refl, sym, ◌∙◌, ap, subst, arith, Bool, true, false, List, [], ◌∷◌, ◌++◌, inl, inr, None, length}
use Rattle.std.proofs.lemmas.Bool.{cases_Bool, cases_eq, eq-eqb, ne_eqb}
use Rattle.std.specs.Prelude.{if◌then◌else◌}
use Rattle.tide_core.specs.machine.Entries.{call_of}
use Rattle.tide_core.specs.machine.RunningWave.{RunningWave}
use Rattle.tide_core.specs.machine.Scanning.{Place, slot, property}
use Rattle.tide_core.specs.machine.World.{World}
use Rattle.tide_core.specs.machine.points.Births.{AwaitsColour, IsHidden}
use Rattle.tide_core.specs.machine.points.Links.{LinkAt}
use Rattle.tide_model.proofs.Cycles.{graph_in_span}
use Rattle.tide_model.proofs.Histories.{state_after-push, moment_after_last-le}
use Rattle.tide_model.specs.Applied.{after_call, put_register, put_cell}
use Rattle.tide_model.specs.Graph.{is_root, in_register, IsLink, in_slot, in_property, IsRoot}
use Rattle.tide_model.specs.History.{state_after, is_begin, moment_after_last}
use Rattle.tide_model.specs.Layout.{Layout, cell_count}
use Rattle.tide_model.specs.Numbers.{put_at}
use Rattle.tide_model.specs.References.{IsLive}
use Rattle.tide_model.specs.Refused.{ShapeLists}
use Rattle.tide_model.specs.State.{State, CellState, live, free, blank_cell}
use Rattle.tide_model.specs.declared.entry.Event.{Event}
use Rattle.tide_model.specs.declared.op.Op.{Op}
use Rattle.tide_model.specs.declared.op.Reply.TheVariants.{Born}
use Rattle.tide_model.specs.declared.val.Val.TheVariants.{Cell}
use Rattle.tide_words.specs.heap.Heap.{Heap}
use Rattle.tide_words.specs.marking.Colours.{is_marking}
use Rattle.tide_words.specs.marking.Marked.{is_marked}
use Rattle.tide_core.proofs.machine_laws.steps.MarkedLives.{marked_is_live}
use Rattle.tide_core.proofs.machine_laws.steps.Growing

module _ (layout : Layout) (shapes : ShapeLists) (w : World) (wave : RunningWave layout shapes w) (me : ℕ) (op : Op)
    (dst cell : ℕ)
    (bears : after_call (state_after layout w.log) me op (Born cell) None ≡ put_register
    (put_cell (state_after layout w.log) cell (blank_cell live)) me dst (Cell cell))
    (was_free : ((state_after layout w.log).cells cell).status ≡ free) (within : cell < cell_count layout)
    (active : (state_after layout w.log).active me ≡ true) where
  abbrev pub before : State
  before = state_after layout w.log

  abbrev pub log : List Event
  log = w.log ++ call_of me op (Born cell) None ∷ []

  abbrev pub after : State
  after = put_register (put_cell before cell (blank_cell live)) me dst (Cell cell)

  pub not_live : IsLive before cell → ⊥
  not_live alive = absurd (cc)

  -- a free cell isn't marked, whether a cycle marks or not
  pub white : is_marked w.heap cell ≡ false
  white = elim (cases_Bool (is_marked w.heap cell)) [
    | inl is ↦ absurd (not_live (marked_is_live layout shapes w wave cell within is))
    | inr isnt ↦ isnt
  ]

  pub cell_here : after.cells cell ≡ blank_cell live
  cell_here = ap (λ (b : Bool). if b then blank_cell live else before.cells cell) (eq-eqb cell cell refl)

  pub cell_else : (x : ℕ) → x ≢ cell → after.cells x ≡ before.cells x
  cell_else x apart = ap (λ (b : Bool). if b then blank_cell live else before.cells x) (ne_eqb x cell apart)

  pub no_link : (x : ℕ) (place : Place) (target : ℕ) → LinkAt after x place target → (x ≢ cell) ×
      LinkAt before x place target
  no_link x place target link = elim (cases_eq x cell) [
    | inl same ↦ absurd (blank place (subst (λ (c : ℕ). LinkAt after c place target) same link))
    | inr apart ↦ (apart, was place apart link)
  ]
    where
      blank : (place : Place) → LinkAt after cell place target → ⊥
      blank (slot n) link = (let none = sym (ap (λ (c : CellState). c.slots n) cell_here) ∙ link.1 in absurd (cc))
      blank (property n) link = (let few = ap (λ (c : CellState). length c.keys) cell_here in let below = link.1 in
          omega (arith, few, below))

      was : (place : Place) → x ≢ cell → LinkAt after x place target → LinkAt before x place target
      was (slot n) apart link = (
        ap (λ (c : CellState). c.status) (sym (cell_else x apart)) ∙ link.0,
        ap (λ (c : CellState). c.slots n) (sym (cell_else x apart)) ∙ link.1,
      )
      was (property n) apart link = (
        ap (λ (c : CellState). c.status) (sym (cell_else x apart)) ∙ link.0,
        subst (λ (c : CellState). n < length c.keys) (cell_else x apart) link.1,
        ap (λ (c : CellState). c.properties n) (sym (cell_else x apart)) ∙ link.2,
      )

  link_live : (x : ℕ) (place : Place) → LinkAt before x place cell → ⊥
  link_live x (slot n) link = not_live (wave.refs.in_slots x n cell link.0 link.1)
  link_live x (property n) link = not_live (wave.refs.in_properties x n cell link.0 link.1 link.2)

  hidden : IsHidden after me cell
  hidden = record {
    registers = λ who register apart is_active is. not_live (wave.refs.in_registers who register cell is_active
        (sym (ap (λ (b : Bool). (if b then put_at (before.registers me) dst (Cell cell) else before.registers who)
        register) (ne_eqb who me apart)) ∙ is));
    strong = λ handle is. not_live (wave.refs.in_strong handle cell is);
    weak = λ handle is. not_live (wave.refs.in_weak handle cell is);
    claims = λ who at. not_live (wave.refs.claimed who cell at);
    linked = λ x place link. link_live x place (no_link x place cell link).1;
    paired = λ table key alive is. elim (cases_eq table cell) [
      | inl same ↦ (let none = sym (ap (λ (c : CellState). c.pairs key) (ap after.cells same ∙ cell_here)) ∙ is in
          absurd (cc))
      | inr apart ↦ not_live (wave.refs.in_pairs table key cell
          (ap (λ (c : CellState). c.status) (sym (cell_else table apart)) ∙ alive)
          (ap (λ (c : CellState). c.pairs key) (sym (cell_else table apart)) ∙ is))
    ];
    blank = λ place target link. (no_link cell place target link).0 refl;
  }

  is_after : state_after layout log ≡ after
  is_after = state_after-push layout w.log (call_of me op (Born cell) None) ∙ bears

  pub own_register : after.registers me dst ≡ Cell cell
  own_register = ap (λ (b : Bool).
      (if b then put_at (before.registers me) dst (Cell cell) else before.registers me) dst) (eq-eqb me me refl) ∙
      ap (λ (b : Bool). if b then Cell cell else before.registers me dst) (eq-eqb dst dst refl)

  pub awaits_birth : is_marking w.heap ≡ true → (heap : Heap) → is_marked heap cell ≡ is_marked w.heap cell →
      AwaitsColour layout heap log me cell
  awaits_birth marks heap same = record {
    is_new = Growing.born_here layout w.log (call_of me op (Born cell) None) refl cell (eq-eqb cell cell refl);
    alive = subst (λ (t : State). IsLive t cell) (sym is_after) (ap (λ (c : CellState). c.status) cell_here);
    white = same ∙ white;
    kept = is_root cell ((graph_in_span layout log (moment_after_last (λ event. is_begin event.entry) log)
        (moment_after_last-le (λ event. is_begin event.entry) log)).roots cell
        (subst (λ (t : State). IsRoot t cell) (sym is_after) (in_register me dst active own_register)));
    alone = λ source link. elim (Growing.link_cases layout w.log (call_of me op (Born cell) None) refl source cell
        link) [
          | inl earlier ↦ not_live (wave.span.links marks source cell earlier).1
          | inr now ↦ no_graph_link source (subst (λ (t : State). IsLink t source cell) is_after now)
        ];
    hidden = subst (λ (t : State). IsHidden t me cell) (sym is_after) hidden;
  }
    where
      no_graph_link : (source : ℕ) → IsLink after source cell → ⊥
      no_graph_link source (in_slot n alive is) = link_live source (slot n) (no_link source (slot n) cell (alive, is)).1
      no_graph_link source (in_property n alive below is) =
          link_live source (property n) (no_link source (property n) cell (alive, below, is)).1
