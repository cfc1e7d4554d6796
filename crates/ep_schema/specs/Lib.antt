pub mod ActionNames
pub mod Actions
pub mod Answers
pub mod Bodies
pub mod Faults
pub mod Made
pub mod Parts
pub mod Written
