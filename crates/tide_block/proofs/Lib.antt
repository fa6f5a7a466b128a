pub mod ArrayLaws
pub mod BitLaws
mod BitRows
pub mod BitSteps
pub mod BlockLaws
pub mod NumberLists
pub mod PlaceLaws
pub mod RisingLaws
