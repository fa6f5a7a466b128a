pub mod transitions
pub mod growers
