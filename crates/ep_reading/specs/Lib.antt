pub mod Fetches
pub mod FormulaWord
pub mod Guides
pub mod PlanFile
pub mod Run
pub mod Served
pub mod Steps
