pub mod ReadBack
pub mod Summary
pub mod Text
pub mod Worked
pub mod work
pub mod lines
