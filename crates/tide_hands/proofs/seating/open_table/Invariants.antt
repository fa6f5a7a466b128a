-- Nothing lies in the slots that are made.
use Rattle.std.proofs.Common.{◌≡◌, replicate}
use Rattle.tide_hands.specs.declared.parcel.Parcel.TheVariants.{Nothing}
use Rattle.tide_hands.proofs.seating.open_table.Given as goal

abbrev pub invariant-loop : goal.invariant-loop
invariant-loop g l = l.slots.items ≡ replicate l.counter Nothing
