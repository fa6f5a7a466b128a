-- The lemmas of this crate.
pub mod EntryCounts
pub mod FewLaws
pub mod FreezeLaws
pub mod LogLaws
pub mod SumLaws
pub mod ToldLaws
