pub mod FreedArrays
