pub mod ReadBackLaws
pub mod work_laws
pub mod lines_laws
