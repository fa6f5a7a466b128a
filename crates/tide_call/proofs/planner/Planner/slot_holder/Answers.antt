-- Why `slot_holder` meets its contract: a slot's refusals, by the tests of the cell's class.
use Rattle.std.proofs.Common.{ℕ, ◌≡◌, ◌<◌, sym, ◌∙◌, ap, subst, arith, Bool}
use Rattle.std.proofs.lemmas.Bool.{eq-eqb, le-ltb, lt-ltb, ne_eqb}
use Rattle.std.proofs.lemmas.Result.{err_from_is_err_and}
use Rattle.std.specs.Prelude.{◌==◌, if◌then◌else◌}
use Rattle.tide_words.specs.tide_layout.Slots.{width_of_class}
use Rattle.tide_model.specs.Layout.{Layout, array_capacity_of, class_of, slots_of}
use Rattle.tide_call.proofs.action_laws.RefusalLaws.{slot_refusal-has, slot_refusal-lacks, slot_refusal-none, slot_refusal-table}
use Rattle.tide_call.proofs.planner.Planner.slot_holder.Goals as goal

-- a cell that is no table has so many slots as its class
slot_of_class : (class is slot : ℕ) → class ≡ is → class < 5 → (class ≡ 4 → ⊥) → slot < slots_of class → slot < width_of_class is
slot_of_class class is slot same below isnt within = subst (λ (k : ℕ). slot < width_of_class k) same
    (subst (λ (b : Bool). slot < (if b then slots_of class else if class == 4 then 8 else array_capacity_of class))
    (sym (lt-ltb class 4 (omega (arith, below, isnt)))) within)

pub returns-in_err-cell : goal.returns-in_err-cell
returns-in_err-cell g c =
    let failed = err_from_is_err_and c.from_residual.result c.from_residual.ensures.1 in
    rw (failed.1, failed.2) (record {
      refused = λ heap state calls.
          slot_refusal-none c.args.self.now.layout (state.registers c.args.self.now.who c.args.src) c.args.src c.args.slot c.in_err-cell.field-0.0
          (c.in_err-cell.ensures.refused heap state calls);
      granted = tt;
      cell = tt;
      slot = tt;
      owns = c.cell_in.ensures.owns;
    })

pub returns-then-class-eq-TABLE : goal.returns-then-class-eq-TABLE
returns-then-class-eq-TABLE g c = record {
  refused = λ heap state calls.
      let layout = c.args.self.now.layout in
      let cell = c.in_ok-cell.cell in
      let class = c.class_of-class.ensures.class ∙ ap (λ (l : Layout). class_of l cell) c.layout.ensures in
      slot_refusal-table layout (state.registers c.args.self.now.who c.args.src) c.args.src c.args.slot cell
      (c.in_ok-cell.ensures.cell heap state calls) (eq-eqb (class_of layout cell) 4 (sym class ∙ c.if-class-eq-TABLE.true));
  granted = tt;
  cell = tt;
  slot = tt;
  owns = c.cell_in.ensures.owns;
}

pub returns-then-slot-slots : goal.returns-then-slot-slots
returns-then-slot-slots g c = record {
  refused = λ heap state calls.
      let layout = c.args.self.now.layout in
      let cell = c.in_ok-cell.cell in
      let class = c.class_of-class.ensures.class ∙ ap (λ (l : Layout). class_of l cell) c.layout.ensures in
      let past = c.if-slot-slots.true in
      let count = c.slots.ensures ∙ ap slots_of class in
      slot_refusal-lacks layout (state.registers c.args.self.now.who c.args.src) c.args.src c.args.slot cell
      (c.in_ok-cell.ensures.cell heap state calls) (ne_eqb (class_of layout cell) 4 (λ is. c.if-class-eq-TABLE.false (class ∙ is)))
      (le-ltb c.args.slot (slots_of (class_of layout cell)) (omega (arith, past, count)));
  granted = tt;
  cell = tt;
  slot = tt;
  owns = c.cell_in.ensures.owns;
}

pub returns : goal.returns
returns g c =
    let layout = c.args.self.now.layout in
    let cell = c.in_ok-cell.cell in
    let class = c.class_of-class.ensures.class ∙ ap (λ (l : Layout). class_of l cell) c.layout.ensures in
    let count = c.slots.ensures in
    let before = c.if-slot-slots.false in
    let below : c.args.slot < slots_of c.class_of-class.result = omega (arith, before, count) in record {
      refused = tt;
      granted = λ heap state calls.
          slot_refusal-has layout (state.registers c.args.self.now.who c.args.src) c.args.src c.args.slot cell
          (c.in_ok-cell.ensures.cell heap state calls) (ne_eqb (class_of layout cell) 4 (λ is. c.if-class-eq-TABLE.false (class ∙ is)))
          (lt-ltb c.args.slot (slots_of (class_of layout cell)) (subst (λ (k : ℕ). c.args.slot < slots_of k) class below));
      cell = c.in_ok-cell.ensures.cell;
      slot = record {
        cell_within = c.in_ok-cell.ensures.within;
        slot_within = slot_of_class c.class_of-class.result (class_of layout cell) c.args.slot class c.class_of-class.ensures.small
            c.if-class-eq-TABLE.false below;
      };
      owns = c.cell_in.ensures.owns;
    }
