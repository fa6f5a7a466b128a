-- The definitions compute to these lines.
use Rattle.std.proofs.Common.{refl}
use Rattle.std.specs.Fmt.{digits}
use Rattle.tide_text.specs.lines.FaultLine.{fault_line, fault_text}
use Rattle.tide_text.specs.lines.Line.{blackened_text, call_line, counts_text, cycle_line, freed_cell_text, freed_text, kind_text, live_line, mutator_line, refusal_text, reply_text, statistics_line, told_text, val_text}
use Rattle.tide_text.specs.lines.OpText.{op_text}
use Rattle.tide_text.specs.Summary.{calls_line, replies_line}
use Rattle.tide_text.proofs.worked.worked_lines.Goals as goal

pub returns-clause-calls : goal.returns-clause-calls
unfolding digits call_line op_text reply_text refusal_text val_text
returns-clause-calls c = (refl, refl, refl, refl, refl, refl, refl, refl, refl, refl, refl, refl, refl, refl, refl, refl, refl, refl, refl, refl, refl, refl, refl, refl, refl)

pub returns-clause-refusals : goal.returns-clause-refusals
unfolding digits call_line op_text reply_text refusal_text
returns-clause-refusals c = (refl, refl, refl, refl, refl, refl, refl, refl, refl, refl, refl, refl, refl)

pub returns-clause-frame : goal.returns-clause-frame
unfolding digits mutator_line cycle_line counts_text freed_text freed_cell_text live_line statistics_line told_text blackened_text kind_text
returns-clause-frame c = (refl, refl, refl, refl, refl, refl, refl)

pub returns-clause-faults : goal.returns-clause-faults
unfolding digits fault_line fault_text
returns-clause-faults c = (refl, refl, refl, refl, refl, refl, refl)

pub returns-clause-summaries : goal.returns-clause-summaries
unfolding digits calls_line replies_line live_line
returns-clause-summaries c = (refl, refl, refl)
