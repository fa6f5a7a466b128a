-- Lines that were written one after another, and that they are the text of the history.
use Rattle.std.proofs.Common.{◌≡◌, ℕ, zero, suc, ◌+◌, ◌<◌, ◌≤◌, refl, subst, arith, Bool, true, false, List, [], ◌∷◌, ◌++◌, length, take, drop, map, get_or, sym, ap, ◌∙◌, append-nil, append_assoc, take-append-drop}
use Rattle.std.proofs.lemmas.Bool.{eqb-true, eqb-false}
use Rattle.std.proofs.lemmas.List.{take_more}
use Rattle.std.proofs.lemmas.List.Concat.{flat_map-append}
use Rattle.std.specs.Prelude.{◌==◌, Option, Result, Ok, Err, OnOk}
use Rattle.std.specs.Io.KnownBytes.{Appends, Keeps}
use Rattle.std.proofs.KnownBytes.{Appends-kept}
use Rattle.tide_io.specs.Faults.{AppendsPart}
use Rattle.tide_model.proofs.Cycles.{take-all}
use Rattle.std.specs.List.{flat_map}
use Rattle.tide_model.specs.declared.entry.Entry.{Entry}
use Rattle.tide_model.specs.declared.entry.Entry.TheVariants.{Call, Begin, Pause, Visits, End, Taken, Sweep, Open}
use Rattle.tide_model.specs.declared.entry.Event.{Event}
use Rattle.tide_model.specs.Layout.{Layout}
use Rattle.tide_model.specs.State.{State, empty_state}
use Rattle.tide_model.specs.History.{after_event}
use Rattle.tide_model.specs.Cycle.{live_count}
use Rattle.tide_model.specs.Script.{calls_of}
use Rattle.tide_periods.specs.declared.answered.Answered.{Answered}
use Rattle.tide_periods.specs.Answered.{pair_of}
use Rattle.tide_report.specs.declared.report.CycleLine.{CycleLine}
use Rattle.tide_report.specs.Ends.{CycleEnd, end_of, ends_at, ends_from, ends_in, ends_of}
use Rattle.tide_report.specs.Reports.{Reported}
use Rattle.tide_workload.specs.Words.{cycle_line, end_line, cycles_from, call_lines, mutator_text, mutators_text}
use Rattle.tide_run.specs.Printing.{answered_line, reported_line}

-- all bytes are a part of themselves, and stay so where what is held stays
pub kept_is_part : (a b c : Option (List ℕ)) (bytes : List ℕ) → Appends a b bytes → Keeps b c → AppendsPart a c bytes
kept_is_part a b c bytes appended kept = (length bytes, subst (Appends a c) (sym (take-all bytes)) (Appends-kept a b c bytes appended kept))

-- what holds anyway holds at an `Ok`
pub OnOk-from : {T E P : Type 0} (result : Result T E) → P → OnOk result P
OnOk-from (Ok value) holds = holds
OnOk-from (Err error) holds = tt

-- one line more
pub one_line_more : {X : Type 0} (line : X → List ℕ) (xs : List X) (i : ℕ) (d : X) → i < length xs →
    flat_map line (take i xs) ++ line (get_or xs i d) ≡ flat_map line (take (i + 1) xs)
one_line_more line xs i d within =
    ap (λ (l : List ℕ). flat_map line (take i xs) ++ l) (sym (append-nil (line (get_or xs i d))))
    ∙ sym (flat_map-append line (take i xs) (get_or xs i d ∷ []))
    ∙ sym (ap (flat_map line) (take_more xs i d within))

-- the lines so far and the others
pub all_lines : {X : Type 0} (line : X → List ℕ) (xs : List X) (n : ℕ) → flat_map line (take n xs) ++ flat_map line (drop n xs) ≡ flat_map line xs
all_lines line xs n = sym (flat_map-append line (take n xs) (drop n xs)) ∙ ap (flat_map line) (take-append-drop n xs)

-- the line of a cycle's end
abbrev line_of : CycleEnd → List ℕ
line_of ended = cycle_line ended.number ended.kept ended.freed

-- an entry prints the line of the end that it is
entry_prints : (layout : Layout) (after : State) (entry : Entry) → end_line entry (live_count layout after) ≡ flat_map line_of (ends_at layout after entry)
entry_prints layout after (Call who op reply) = refl
entry_prints layout after (Begin cycle full) = refl
entry_prints layout after (Pause visits) = refl
entry_prints layout after (Visits who visits) = refl
entry_prints layout after (End cycle freed) = sym (append-nil (cycle_line cycle (live_count layout after) freed))
entry_prints layout after (Taken block) = refl
entry_prints layout after (Sweep block) = refl
entry_prints layout after (Open number run) = refl

-- the lines of cycles are those of their ends
cycles_print : (layout : Layout) (state : State) (events : List Event) → cycles_from layout state events ≡ flat_map line_of (ends_from layout state events)
cycles_print layout state [] = refl
cycles_print layout state (event ∷ events) =
    let next = after_event layout state event in
    let own = ends_at layout next event.entry in
    ap (λ (line : List ℕ). line ++ cycles_from layout next events) (entry_prints layout next event.entry)
    ∙ ap (λ (rest : List ℕ). flat_map line_of own ++ rest) (cycles_print layout next events)
    ∙ sym (flat_map-append line_of own (ends_from layout next events))

-- the lines of a report are those of the ends that it tells
report_prints : (ids : List ℕ) (cycles : List CycleLine) → flat_map (reported_line ids) cycles ≡ flat_map line_of (map (end_of ids) cycles)
report_prints ids [] = refl
report_prints ids (line ∷ cycles) = ap (λ (rest : List ℕ). reported_line ids line ++ rest) (report_prints ids cycles)

-- a report that tells the ends of a history prints its cycles
pub cycles_text : (layout : Layout) (history : List Event) (report : Reported) → ends_of report ≡ ends_in layout history →
    flat_map (reported_line report.ids) report.cycles ≡ cycles_from layout empty_state history
cycles_text layout history report tells =
    report_prints report.ids report.cycles ∙ ap (flat_map line_of) tells ∙ sym (cycles_print layout empty_state history)

-- the calls print their lines
calls_printed : (keys : List (List ℕ)) (calls : List Answered) → call_lines keys (map pair_of calls) ≡ flat_map (answered_line keys) calls
calls_printed keys [] = refl
calls_printed keys (call ∷ calls) = ap (λ (rest : List ℕ). answered_line keys call ++ rest) (calls_printed keys calls)

-- a mutator's calls print those of the history
pub calls_text : (keys : List (List ℕ)) (m : ℕ) (history : List Event) (calls : List Answered) → map pair_of calls ≡ calls_of m history →
    flat_map (answered_line keys) calls ≡ call_lines keys (calls_of m history)
calls_text keys m history calls are = sym (calls_printed keys calls) ∙ ap (call_lines keys) are

-- the text of the first mutators is a first part of that of all
pub mutators_rest : (keys : List (List ℕ)) (m n : ℕ) (history : List Event) → m ≤ n →
    (rest : List ℕ) × (mutators_text keys n history ≡ mutators_text keys m history ++ rest)
mutators_rest keys m zero history below =
    let none : m ≡ 0 = omega (arith, below) in ([], subst (λ (k : ℕ). mutators_text keys 0 history ≡ mutators_text keys k history ++ []) (sym none) refl)
mutators_rest keys m (suc n) history below = step (m == suc n) refl (mutators_rest keys m n history)
  where
    step : (same : Bool) → (m == suc n) ≡ same → (m ≤ n → (rest : List ℕ) × (mutators_text keys n history ≡ mutators_text keys m history ++ rest)) →
        (rest : List ℕ) × (mutators_text keys (suc n) history ≡ mutators_text keys m history ++ rest)
    step true e earlier = ([], ap (λ (k : ℕ). mutators_text keys k history) (sym (eqb-true m (suc n) e)) ∙ sym (append-nil (mutators_text keys m history)))
    step false e earlier =
        let apart = eqb-false m (suc n) e in
        let before = earlier (omega (arith, below, apart)) in (
          before.0 ++ mutator_text keys n history,
          ap (λ (text : List ℕ). text ++ mutator_text keys n history) before.1 ∙ append_assoc (mutators_text keys m history) before.0 (mutator_text keys n history),
        )
