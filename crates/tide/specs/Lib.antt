-- The definitions that the clauses of the calls cite, each under the name of its room; and what a caller says of a
-- participant.
pub mod Asking
pub mod Counted
pub mod Hosts
pub mod Keyed
pub mod Parts
pub mod Registers
pub mod Sizes
pub mod Stacks
pub mod Threads
pub mod Told
pub mod Watched
pub use Rattle.tide_server.specs.tide_model
pub use Rattle.tide_server.specs.tide_shape
pub use Rattle.tide_server.specs.tide_sched
pub use Rattle.tide_server.specs.tide_report
pub use Rattle.tide_grow_shape.specs as tide_grow_shape
pub use Rattle.tide_server.specs.tide_heap
pub use Rattle.tide_server.specs.tide_heap.tide_core
pub use Rattle.tide_server.specs.tide_heap.tide_freeze
pub use Rattle.tide_server.specs.tide_heap.tide_words
pub use Rattle.tide_server.specs.tide_heap.tide_layout
pub use Rattle.tide_server.specs.tide_table
pub use Rattle.tide_server.specs.tide_mutator
pub use Rattle.tide_server.specs.tide_visitor
pub use Rattle.tide_weakref.specs as tide_weakref
pub use Rattle.tide_server.specs.tide_posts
pub use Rattle.tide_server.specs as tide_server
pub use Rattle.tide_server.specs.atomic_table
pub use Rattle.tide_server.specs.tide_snapshot
pub use Rattle.tide_server.specs.tide_snapshot.tide_retained
pub use Rattle.tide_server.specs.tide_snapshot.tide_io
pub use Rattle.tide_server.specs.tide_snapshot.tide_text
