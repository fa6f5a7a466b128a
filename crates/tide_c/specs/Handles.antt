-- What is behind several handles.
use Rattle.std.specs.Prelude.{ℕ, ◌≡◌, ◌<◌, All, List, None, Option, Some, get_or, length, map}
use Rattle.tide_c.specs.Calls.{HasRested}
use Rattle.tide_c.specs.Opened.{HasOpened}
use Rattle.tide_c.specs.Statuses.{AsMember, Through}
use Rattle.tide_c.specs.declared.handle.Handle.{Handle}
use Rattle.tide_c.specs.declared.opening.Sizes.{Sizes}
use Rattle.tide_c.specs.declared.party.Party.{Party}

-- what is behind each
abbrev pub values : List Handle → List (Option Party)
values handles = map (λ (handle : Handle). handle.value) handles

-- nothing is behind any of them
pub record AreEmpty (keeper : Option Party) (members helpers : List (Option Party)) : Type 0 where
  pub no_keeper : keeper ≡ None
  pub no_members : All (λ value. value ≡ None) members
  pub no_helpers : All (λ value. value ≡ None) helpers

-- a heap of these sizes is open, and each of its parties is behind a handle of its own
pub record IsOpen (sizes : Sizes) (keeper : Option Party) (members helpers : List (Option Party)) : Type 0 where
  pub first : Party
  pub ms : List Party
  pub hs : List Party
  pub has_keeper : keeper ≡ Some first
  pub has_members : members ≡ map Some ms
  pub has_helpers : helpers ≡ map Some hs
  pub opened : HasOpened sizes (length members) (length helpers) first ms hs

-- each has rested, as it is answered of it alone
abbrev pub HaveRested : List (Option Party) → List (Option Party) → Type 0
HaveRested old new = (length new ≡ length old) × ((at : ℕ) → at < length old →
    (answer : ℕ) × Through (AsMember HasRested) (get_or old at None) (get_or new at None) answer)
