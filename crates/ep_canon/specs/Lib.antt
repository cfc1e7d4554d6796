pub mod Quotient
pub mod Contracting
pub mod Canon
