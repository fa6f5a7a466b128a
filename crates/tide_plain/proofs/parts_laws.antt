pub mod Copies
pub mod FreedArrays
pub mod ListsAsFunctions
pub mod PairLaws
