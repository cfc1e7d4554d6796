pub mod ApartText
pub mod Comparing
