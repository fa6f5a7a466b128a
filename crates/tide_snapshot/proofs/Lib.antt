pub mod KeyLaws
pub mod LineLaws
pub mod PieceLaws
