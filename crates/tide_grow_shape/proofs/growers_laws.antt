pub mod GrowingLaws
pub mod KnownLaws
pub mod LearnLaws
pub mod ListedLaws
pub mod NumberedLaws
pub mod TogetherLaws
