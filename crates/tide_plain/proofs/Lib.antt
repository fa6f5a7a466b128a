pub mod statuses_laws
pub mod parts_laws
pub mod stored_laws
pub mod collect_laws
pub mod calls_laws
