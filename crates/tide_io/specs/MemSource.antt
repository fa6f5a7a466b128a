-- A source in memory.
use Rattle.std.specs.Prelude.{ℕ, min, List, length, drop}
use Rattle.tide_io.specs.CallLog.{CallLog, with_pass, with_fault}

-- the bytes that are left, how many of them a call gives at most, and the calls so far
pub record SourceState : Type 0 where
  pub left : List ℕ
  pub step : ℕ
  pub calls : CallLog

-- how many bytes a call gives that has room for so many
abbrev pub given_count : SourceState → ℕ → ℕ
given_count source room = min source.step (min room (length source.left))

-- the source after it gave so many bytes
abbrev pub after_read : SourceState → ℕ → SourceState
after_read source count = record source { left = drop count source.left; calls = with_pass source.calls }

-- the source after a call that failed
abbrev pub after_failed_read : SourceState → SourceState
after_failed_read source = record source { calls = with_fault source.calls }
