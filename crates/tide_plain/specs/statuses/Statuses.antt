-- What became of each array, and what a sweep makes of it.
use Rattle.std.specs.Prelude.{ℕ, ◌≡◌, Bool, List, length, if◌then◌else◌}
use Rattle.std.specs.List.{slice_index_or}
use Rattle.tide_model.specs.State.{Status, free, live, spent}
use Rattle.tide_plain.specs.declared.statuses.ArrayStatus.{ArrayStatus}
use Rattle.tide_plain.specs.declared.statuses.ArrayStatus.TheVariants.{Free, Live, Spent}

-- the status of an array
abbrev pub status_of : ArrayStatus → Status
status_of Free = free
status_of Live = live
status_of Spent = spent

-- the arrays
abbrev pub arrays_of : List ArrayStatus → ℕ → Status
arrays_of statuses array = status_of (slice_index_or statuses array Free)

-- a spent array is free once it is swept
abbrev pub unspent : ArrayStatus → ArrayStatus
unspent Free = Free
unspent Live = Live
unspent Spent = Free

-- the arrays that pass the test are free, and the others as they were
pub record AreFreed (test : ℕ → Bool) (old new : List ArrayStatus) : Type 0 where
  pub as_many : length new ≡ length old
  pub each : (array : ℕ) → slice_index_or new array Free ≡ (if test array then Free else slice_index_or old array Free)
