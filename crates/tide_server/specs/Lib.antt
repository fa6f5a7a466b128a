-- The rooms below that this one hands on.
pub use Rattle.tide_model.specs as tide_model
pub use Rattle.tide_shape.specs as tide_shape
pub use Rattle.tide_sched.specs as tide_sched
pub use Rattle.tide_report.specs as tide_report
pub use Rattle.tide_snapshot.specs as tide_snapshot
pub use Rattle.tide_table.specs as tide_table
pub use Rattle.tide_mutator.specs as tide_mutator
pub use Rattle.tide_visitor.specs as tide_visitor
pub use Rattle.tide_posts.specs as tide_posts
pub use Rattle.tide_posts.specs.tide_heap
pub use Rattle.atomic_table.specs as atomic_table
pub mod AtWork
pub mod Helpers
pub mod Keepers
pub mod Looked
pub mod Members
pub mod Opened
pub mod Rests
pub mod Turned
