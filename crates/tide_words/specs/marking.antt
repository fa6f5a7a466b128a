-- What marking keeps, and what a constraint promises.
pub mod Colours
pub mod Cycles
pub mod Greyed
pub mod Greys
pub mod GreyWords
pub mod Marked
pub mod Kept
pub mod Marking
pub mod Named
pub mod Rules
