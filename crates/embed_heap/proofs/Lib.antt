pub mod visitor_laws
