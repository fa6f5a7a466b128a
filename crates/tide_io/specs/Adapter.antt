-- A source over a reader of std, and a sink over a writer.
use Rattle.std.specs.Prelude.{ℕ, List, Option}

-- the bytes that the reader has left or the writer holds, where these are known, and how many faults were counted
pub record AdapterState : Type 0 where
  pub known : Option (List ℕ)
  pub faults : ℕ
