pub mod Reading
pub mod Gives
pub mod Answers
pub mod Decided
pub mod Texts
