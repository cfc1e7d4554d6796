pub mod Bindings
pub mod Laminar
pub mod Counts
