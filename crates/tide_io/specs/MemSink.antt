-- A sink in memory.
use Rattle.std.specs.Prelude.{◌≡◌, ℕ, ◌-◌, ◌⊎◌, min, List, ◌++◌, length, take}
use Rattle.tide_io.specs.CallLog.{CallLog, FailsNext, with_pass, with_fault}

-- the bytes that it holds, how many it holds and how many a call takes at most, and the calls so far
pub record SinkState : Type 0 where
  pub held : List ℕ
  pub cap : ℕ
  pub step : ℕ
  pub calls : CallLog

-- the sink can hold no further byte
abbrev pub IsFull : SinkState → Type 0
IsFull sink = length sink.held ≡ sink.cap

-- the next call fails: it is one of those that are to, or the sink is full
abbrev pub RefusesNext : SinkState → Type 0
RefusesNext sink = FailsNext sink.calls ⊎ IsFull sink

-- how many bytes a call takes of a piece of this length
abbrev pub taken_count : SinkState → ℕ → ℕ
taken_count sink len = min sink.step (min len (sink.cap - length sink.held))

-- the sink after it took the first so many bytes of the piece
abbrev pub after_write : SinkState → List ℕ → ℕ → SinkState
after_write sink piece count = record sink { held = sink.held ++ take count piece; calls = with_pass sink.calls }

-- the sink after a call that failed
abbrev pub after_failed_write : SinkState → SinkState
after_failed_write sink = record sink { calls = with_fault sink.calls }
