pub mod Runs
pub mod Stops
pub mod Truthful
pub mod Verdicts
