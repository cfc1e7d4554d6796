pub mod Faults
pub mod FormulaFaults
pub mod Frames
pub mod Grounding
pub mod StateText
pub mod Task
pub mod Within
pub mod Written
