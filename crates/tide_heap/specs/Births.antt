-- The births of an open part, as views count them and as the history has them.
use Rattle.std.specs.Prelude.{ℕ, Bool, ◌==◌, ◌&&◌, List, count_by, if◌then◌else◌}
use Rattle.tide_core.specs.tide_layout.Slots.{total_below}
use Rattle.tide_core.specs.machine.World.{parties}
use Rattle.tide_core.specs.declared.machine.view.View.{View}
use Rattle.tide_model.specs.History.{is_call_of, is_open}
use Rattle.tide_model.specs.Numbers.{is_among}
use Rattle.tide_model.specs.Since.{is_birth, since}
use Rattle.tide_model.specs.declared.entry.Entry.{Entry}
use Rattle.tide_model.specs.declared.entry.Event.{Event}

-- the births of a view that began in the part with this number
abbrev pub births_in : ℕ → View → ℕ
births_in period v = if v.begun == period then v.born else 0

-- the births of the views whose numbers are in a list, each counted once, that began in the part with this number
abbrev pub told_births : ℕ → (ℕ → View) → List ℕ → ℕ
told_births period part notes = total_below (λ i. if is_among notes i then births_in period (part i) else 0) parties

-- a cell was born to this mutator
abbrev pub is_birth_of : ℕ → Entry → Bool
is_birth_of who entry = is_call_of who entry && is_birth entry

-- how many cells were born to a mutator since the last part was opened
abbrev pub born_to : ℕ → List Event → ℕ
born_to who log = count_by (λ event. is_birth_of who event.entry) (since is_open log)
