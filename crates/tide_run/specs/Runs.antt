-- The words of the clauses on runs, from the crate that defines them.
pub use Rattle.tide_run.specs.running.Runs.{IsRunOf, Ran, layout_of_work, layout_with, pace_of_work, setting_of_work}
