pub mod Scores
pub mod Waitings
