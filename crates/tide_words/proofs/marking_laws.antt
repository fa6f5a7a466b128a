-- The laws of colours, greys, marking and constraints.
pub mod BlackenedLaws
pub mod ColourLaws
pub mod ConstraintLaws
pub mod EmptyMarking
pub mod LinkLaws
mod ListRows
pub mod MarkedLaws
pub mod MarkingLaws
pub mod NamedLaws
mod NamedRows
pub mod ReadingRows
pub mod RowLaws
pub mod RuleLaws
pub mod TimesLaws
