-- Whether a participant has done its part, as its note tells.
use Rattle.std.specs.Prelude.{◌≡◌, ◌<◌, ◌⊎◌, Bool, false, not, ◌||◌, nat_lt}
use Rattle.tide_core.specs.machine.Progress.{HasDone}
use Rattle.tide_core.specs.machine.World.{first_visitor}
use Rattle.tide_core.specs.declared.machine.view.View.{View}
use Rattle.tide_model.specs.Layout.{Layout}

-- the participant is no visitor, or its ticket doesn't mark, or it made as many cells black as it was to run for, or
-- its round has the shared and the mutators' grey word of each block
abbrev pub HasDonePart : Layout → View → Type 0
HasDonePart layout v = (v.who < first_visitor) ⊎ (v.marks ≡ false) ⊎ HasDone layout v

-- the participant's numbers alone say that it has done its part
abbrev pub done_by_numbers : View → Bool
done_by_numbers v = nat_lt v.who first_visitor || not v.marks || not (nat_lt v.visits v.run)
