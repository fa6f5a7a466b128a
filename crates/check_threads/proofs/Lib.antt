pub mod drains_laws
