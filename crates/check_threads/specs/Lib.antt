pub mod drains
