-- The words of the clauses on workloads, from the crates that define them.
pub use Rattle.tide_text.specs.declared.work.fault.Fault.{Fault}
pub use Rattle.tide_text.specs.declared.work.field.Field.{Field}
pub use Rattle.tide_text.specs.declared.work.settings.Settings.{Settings}
pub use Rattle.tide_text.specs.declared.work.keys.TheConstants.{MAX_KEYS, MAX_KEY_BYTES}
pub use Rattle.tide_text.specs.declared.work.workload.TheConstants.{MAX_MUTATORS, MAX_OPS}
pub use Rattle.tide_text.specs.work.OpArguments.{OpArguments, limits_with}
pub use Rattle.tide_text.specs.work.Work.{Work, AreSettings, AreKeys, ArePaths, IsOperation, IsWork, limits_of}
pub use Rattle.tide_text.specs.work.ReadOp.{op_of}
unfoldable pub use Rattle.tide_workload.specs.Reading.{reads_workload}
pub use Rattle.tide_text.specs.lines.OpText.{HasText}
unfoldable pub use Rattle.tide_text.specs.lines.OpText.{op_text}
unfoldable pub use Rattle.tide_text.specs.lines.Line.{call_line, cycle_line, live_line, mutator_line, statistics_line}
unfoldable pub use Rattle.tide_text.specs.lines.FaultLine.{fault_line}
pub use Rattle.tide_text.specs.Text.{call_lines, mutator_text, mutators_text, end_line, cycles_from, text_of}
pub use Rattle.tide_text.specs.declared.counts.Counts.{Counts}
pub use Rattle.tide_text.specs.Summary.{counts_of, counts_with, replies_in, reply_in, summary_of, summary_text}
pub use Rattle.tide_text.specs.ReadBack.{IsReadBack, AreReadBack}
