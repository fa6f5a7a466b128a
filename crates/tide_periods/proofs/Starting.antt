-- Before anything was run.
use Rattle.std.proofs.Common.{ℕ, zero, suc, ◌≡◌, ◌<◌, ◌≤◌, ◌*◌, ◌-◌, ◌⊎◌, refl, sym, ◌∙◌, ap, subst, arith, Bool, true, false, List, [], ◌∷◌, ◌++◌, length, map, inl, inr, All}
use Rattle.std.proofs.lemmas.List.{map-append}
use Rattle.std.proofs.lemmas.List.Elements.{All-nil, All-get_or, All-head, All-tail}
use Rattle.std.proofs.lemmas.Option.{slice_get-map, slice_get_within, get_or_from_slice_get}
use Rattle.std.specs.Prelude.{Some, option_map, slice_get, nat_lt}
use Rattle.tide_model.specs.declared.op.Op.{Op}
use Rattle.tide_model.specs.declared.entry.Event.{Event}
use Rattle.tide_model.specs.Cycle.{HasDead, dead_cell, dead_array}
use Rattle.tide_model.specs.Lawful.{Stands}
use Rattle.tide_model.specs.Periods.{EndsInTime}
use Rattle.tide_model.specs.State.{State, empty_state}
use Rattle.tide_model.proofs.PeriodLaws.{Each-nil}
use Rattle.tide_periods.specs.declared.cursor.ScriptCursor.{ScriptCursor}
use Rattle.tide_periods.specs.Asking.{AreNew, IsAskable, IsMutatorAt, IsNew, Standing, standing_of, IsAskedBy}
use Rattle.tide_periods.specs.Left.{left_by, left_of, total_by}
use Rattle.tide_periods.specs.Part.{AreCursors}
use Rattle.tide_periods.specs.Recorded.{IsSettled, Recorded, StandsIdle, TookNone}
use Rattle.tide_periods.specs.Store.{Setting, blocks_in}
use Rattle.tide_model.specs.Layout.{Layout}
use Rattle.tide_report.specs.Reports.{Reported}
use Rattle.tide_report.proofs.EndLaws.{TellsEnds-nothing}
use Rattle.tide_periods.specs.Answered.{pair_of}

slice_get-push : {X : Type 0} (xs : List X) (x : X) (k : ℕ) (y : X) → slice_get (xs ++ x ∷ []) k ≡ Some y → (slice_get xs k ≡ Some y) ⊎ ((k ≡ length xs) × (x ≡ y))
slice_get-push [] x zero y is = inr (refl, cc)
slice_get-push [] x (suc k) y is = absurd (cc)
slice_get-push (first ∷ xs) x zero y is = inl is
slice_get-push (first ∷ xs) x (suc k) y is = elim (slice_get-push xs x k y is) [
  | inl old ↦ inl old
  | inr new ↦ inr (ap suc new.0, new.1)
]

-- one mutator more
pub AreNew-push : (cursors : List ScriptCursor) (scripts : List (List Op)) (cursor : ScriptCursor) (ops : List Op) → AreNew cursors scripts → IsNew (length cursors) cursor → cursor.ops.items ≡ ops →
    AreNew (cursors ++ cursor ∷ []) (scripts ++ ops ∷ [])
AreNew-push cursors scripts cursor ops are new is = record {
  scripts_are = map-append (λ (c : ScriptCursor). c.ops.items) cursors (cursor ∷ []) ∙ ap (λ (s : List (List Op)). s ++ cursor.ops.items ∷ []) are.scripts_are
      ∙ ap (λ (o : List Op). scripts ++ o ∷ []) is;
  each = λ who other found. elim (slice_get-push cursors cursor who other found) [
    | inl old ↦ are.each who other old
    | inr last ↦ subst (λ (n : ℕ). IsNew n other) (sym last.0) (subst (IsNew (length cursors)) last.1 new)
  ];
}

-- a mutator that has made no call, before anything was run
IsMutatorAt-nothing : (setting : Setting) (history : List Event) (who : ℕ) (ops : List Op) → history ≡ [] → who < setting.layout.mutators → All (IsAskable setting.layout) ops →
    IsMutatorAt setting history who ops (record { done = 0; retry = false; retired = false }) []
IsMutatorAt-nothing setting history who ops nothing below askable =
    subst (λ (h : List Event). IsMutatorAt setting h who ops (record { done = 0; retry = false; retired = false }) []) (sym nothing) (record {
      is_mutator = below;
      askable = askable;
      total = 0;
      moment = 0;
      in_history = omega arith;
      was_done = λ none. record { script = no_ops ops none; claims = refl };
      at = record {
        within = omega arith;
        unclaims = 0;
        none_yet = λ _. refl;
        is_script = refl;
        at_end = λ clash. absurd (cc);
        given = λ _. refl;
        released = λ clash. absurd (cc);
      };
      retry = refl;
      retries = λ op clash. absurd (cc);
      active = refl;
      are = refl;
      asked = All-nil (λ call. IsAskedBy ops call.0);
    })
  where
    no_ops : (o : List Op) → 0 ≡ length o → [] ≡ o
    no_ops [] none = refl
    no_ops (x ∷ xs) none = absurd (omega arith)

-- the cursors before anything was run
pub AreCursors-nothing : (recorded : Recorded) (cursors : List ScriptCursor) (scripts : List (List Op)) → recorded.history ≡ [] → AreNew cursors scripts → length cursors ≡ recorded.setting.layout.mutators →
    All (All (IsAskable recorded.setting.layout)) scripts → AreCursors recorded cursors
AreCursors-nothing recorded cursors scripts nothing are one_each askable = record {
  one_each = one_each;
  each = λ who cursor found.
      let new = are.each who cursor found in
      let within = slice_get_within cursors who cursor found in
      let lists = map (λ (c : ScriptCursor). c.ops.items) cursors in
      let at = slice_get-map (λ (c : ScriptCursor). c.ops.items) cursors who ∙ ap (option_map (λ (c : ScriptCursor). c.ops.items)) found in
      let all = subst (All (All (IsAskable recorded.setting.layout))) (sym are.scripts_are) askable in
      let ops = subst (All (IsAskable recorded.setting.layout)) (get_or_from_slice_get lists who cursor.ops.items cursor.ops.items at)
      (All-get_or (All (IsAskable recorded.setting.layout)) lists who cursor.ops.items (slice_get_within lists who cursor.ops.items at) all) in (
        new.number,
        subst (IsMutatorAt recorded.setting recorded.history cursor.who cursor.ops.items (standing_of cursor)) (ap (map pair_of) (sym new.no_calls))
            (subst (λ (s : Standing). IsMutatorAt recorded.setting recorded.history cursor.who cursor.ops.items s []) (sym new.standing)
            (IsMutatorAt-nothing recorded.setting recorded.history cursor.who cursor.ops.items nothing (let n = new.number in omega (arith, n, within, one_each)) ops)),
      );
}

left-few : (claims : ℕ → List ℕ) (cursor : ScriptCursor) → ((who : ℕ) → length (claims who) ≤ 8) → length cursor.ops.items ≤ 65536 → left_of claims cursor ≤ 131081
left-few claims cursor few short =
    step cursor.retired (nat_lt cursor.done (length cursor.ops.items)) cursor.retry (length cursor.ops.items - cursor.done) (length (claims cursor.who)) (few cursor.who) (omega (arith, short))
  where
    step : (retired within retry : Bool) (more held : ℕ) → held ≤ 8 → more ≤ 65536 → left_by retired within retry more held ≤ 131081
    step true within retry more held few' short' = omega arith
    step false true true more held few' short' = omega (arith, short')
    step false true false more held few' short' = omega (arith, short')
    step false false retry more held few' short' = omega (arith, few')

-- so few calls can be left
pub total-few : (claims : ℕ → List ℕ) (cursors : List ScriptCursor) → ((who : ℕ) → length (claims who) ≤ 8) → All (λ (ops : List Op). length ops ≤ 65536) (map (λ (c : ScriptCursor). c.ops.items) cursors) →
    total_by claims cursors ≤ length cursors * 131081
total-few claims [] few short = omega arith
total-few claims (cursor ∷ cursors) few short =
    let here = left-few claims cursor few (All-head (λ (ops : List Op). length ops ≤ 65536) cursor.ops.items (map (λ (c : ScriptCursor). c.ops.items) cursors) short) in
    let later = total-few claims cursors few (All-tail (λ (ops : List Op). length ops ≤ 65536) cursor.ops.items (map (λ (c : ScriptCursor). c.ops.items) cursors) short) in
    omega (arith, here, later)

-- a store on which nothing was run is settled
pub IsSettled-nothing : (setting : Setting) (state : State) (blocks : ℕ) → state ≡ empty_state → blocks ≡ blocks_in setting →
    IsSettled (record { setting = setting; state = state; history = []; cycles = 0; parts = 0; blocks = blocks })
IsSettled-nothing setting state blocks empty counted = record {
  lawful = Each-nil (Stands setting.layout setting.shapes);
  ends = Each-nil (EndsInTime setting.layout);
  leaves = sym empty;
  begun = refl;
  opens = refl;
  few = λ who. subst (λ (s : State). length (s.claims who) ≤ 8) (sym empty) (omega arith);
  blocks = counted;
}

-- nothing is dead in an empty store
none_dead : (layout : Layout) (block : ℕ) → HasDead layout empty_state block → ⊥
none_dead layout block (dead_cell cell within at is) = absurd (cc)
none_dead layout block (dead_array array within at is) = absurd (cc)

-- nothing was run yet, and no cycle marks
pub StandsIdle-nothing : (layout : Layout) (state : State) (history : List Event) (report : Reported) → state ≡ empty_state → history ≡ [] →
    report.cycles ≡ [] → report.ids ≡ [] → StandsIdle layout state history report
StandsIdle-nothing layout state history report empty none no_cycles no_ids = record {
  rests = ap (λ (s : State). s.phase) empty;
  clean = subst (λ (s : State). (block : ℕ) → HasDead layout s block → ⊥) (sym empty) (none_dead layout);
  untaken = subst TookNone (sym none) refl;
  told = TellsEnds-nothing layout history report none no_cycles no_ids;
}
