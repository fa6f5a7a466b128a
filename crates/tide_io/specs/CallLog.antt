-- The calls of a fake, which fails where it is told to.
use Rattle.std.specs.Prelude.{ℕ, ◌+◌, ◌-◌, ◌^◌, min, List, Contains}

-- the numbers of the calls that fail, the first call being 0; how many calls came; how many of them failed
pub record CallLog : Type 0 where
  pub fails : List ℕ
  pub count : ℕ
  pub faults : ℕ

-- no call came so far
abbrev pub no_calls : List ℕ → CallLog
no_calls fails = record { fails = fails; count = 0; faults = 0 }

-- one more, and the last value of a u64 stays
abbrev pub one_more : ℕ → ℕ
one_more n = min (n + 1) (2 ^ 64 - 1)

-- the next call is one of those that fail
abbrev pub FailsNext : CallLog → Type 0
FailsNext calls = Contains calls.fails calls.count

-- the calls with one more that went well
abbrev pub with_pass : CallLog → CallLog
with_pass calls = record calls { count = one_more calls.count }

-- the calls with one more that failed
abbrev pub with_fault : CallLog → CallLog
with_fault calls = record calls { count = one_more calls.count; faults = one_more calls.faults }
