-- A sink that gathers bytes before it hands them on.
use Rattle.std.specs.Prelude.{ℕ, List, Option}
use Rattle.std.specs.Io.KnownBytes.{append_known}

-- the bytes that the sink below holds, where they are known, those that wait to be handed on, how many more are taken
-- before they are, and the faults of that sink
pub record GatherState : Type 0 where
  pub handed_on : Option (List ℕ)
  pub waiting : List ℕ
  pub room : ℕ
  pub faults : ℕ

-- the bytes that it took: those that were handed on, and then those that wait
abbrev pub all_taken : GatherState → Option (List ℕ)
all_taken state = append_known state.handed_on state.waiting
