pub mod transitions_laws
pub mod growers_laws
