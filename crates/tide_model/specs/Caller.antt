-- What a call adds to what its caller has seen.
use Rattle.std.specs.Prelude.{ℕ, ◌≡◌, List, [], ◌∷◌, ◌++◌, filter, Option}
use Rattle.tide_model.specs.declared.op.Op.{Op}
use Rattle.tide_model.specs.declared.op.Reply.{Reply}
use Rattle.tide_model.specs.declared.entry.Entry.TheVariants.{Call}
use Rattle.tide_model.specs.declared.entry.Event.{Event}
use Rattle.tide_model.specs.Layout.{Layout}
use Rattle.tide_model.specs.Refused.{ShapeLists}
use Rattle.tide_model.specs.Lawful.{IsLawful}
use Rattle.tide_model.specs.History.{is_call_of}
use Rattle.tide_model.specs.Prefix.{IsPrefix}

-- what a caller has made: all of its entries in what it has seen, in their order
abbrev pub IsOwn : ℕ → List Event → List Event → Type 0
IsOwn who seen mine = mine ≡ filter (λ event. is_call_of who event.entry) seen

-- The caller has seen a longer beginning of the one history, which is lawful and ends with this call. What it had made
-- were its own entries, and with this one they are again.
pub record MakesCall (layout : Layout) (shapes : ShapeLists) (who : ℕ) (op : Op) (reply : Reply)
    (old_seen new_seen old_mine new_mine : List Event) : Type 0 where
  pub took : Option ℕ
  pub between : List Event
  pub seen : IsPrefix old_seen new_seen
  pub lawful : IsLawful layout shapes new_seen
  pub ends : new_seen ≡ between ++ record { entry = Call who op reply; took = took } ∷ []
  pub adds : new_mine ≡ old_mine ++ record { entry = Call who op reply; took = took } ∷ []
  pub were_own : IsOwn who old_seen old_mine
  pub are_own : IsOwn who new_seen new_mine
