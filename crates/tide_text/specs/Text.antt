-- The text of a run.
use Rattle.std.specs.Prelude.{ℕ, zero, suc, List, [], ◌∷◌, ◌++◌}
use Rattle.std.specs.List.{flat_map}
use Rattle.tide_model.specs.declared.op.Op.{Op}
use Rattle.tide_model.specs.declared.op.Reply.{Reply}
use Rattle.tide_model.specs.declared.entry.Entry.{Entry}
use Rattle.tide_model.specs.declared.entry.Entry.TheVariants.{End}
use Rattle.tide_model.specs.declared.entry.Event.{Event}
use Rattle.tide_model.specs.Layout.{Layout}
use Rattle.tide_model.specs.State.{State, empty_state}
use Rattle.tide_model.specs.History.{after_event, state_after}
use Rattle.tide_model.specs.Cycle.{live_count}
use Rattle.tide_model.specs.Script.{calls_of}
use Rattle.tide_text.specs.lines.Line.{call_line, mutator_line, cycle_line, live_line}

-- the lines of some calls, under these names of keys
abbrev pub call_lines : List (List ℕ) → List (Op × Reply) → List ℕ
call_lines keys calls = flat_map (λ call. call_line keys call.0 call.1) calls

-- a mutator's line, and its calls in order
abbrev pub mutator_text : List (List ℕ) → ℕ → List Event → List ℕ
mutator_text keys mutator history = mutator_line mutator ++ call_lines keys (calls_of mutator history)

-- the mutators below some number
abbrev pub mutators_text : List (List ℕ) → ℕ → List Event → List ℕ
mutators_text keys zero history = []
mutators_text keys (suc mutator) history = mutators_text keys mutator history ++ mutator_text keys mutator history

-- the line of an entry that ends a cycle, after which so many cells live
abbrev pub end_line : Entry → ℕ → List ℕ
end_line (End cycle freed) kept = cycle_line cycle kept freed
end_line _ kept = []

-- the lines of the cycles that end in some events, which stand from a state on
abbrev pub cycles_from : Layout → State → List Event → List ℕ
cycles_from layout state [] = []
cycles_from layout state (event ∷ events) =
    end_line event.entry (live_count layout (after_event layout state event)) ++ cycles_from layout (after_event layout state event) events

-- each mutator's calls under these names of keys, each cycle, and the cells that live at the end
abbrev pub text_of : List (List ℕ) → Layout → List Event → List ℕ
text_of keys layout history =
    mutators_text keys layout.mutators history ++ cycles_from layout empty_state history ++ live_line (live_count layout (state_after layout history))
