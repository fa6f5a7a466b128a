pub mod Lists
pub mod Rows
pub mod ShapeTable
pub mod Shapes
pub mod Tree
