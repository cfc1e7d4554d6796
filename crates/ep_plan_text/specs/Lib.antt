pub mod Calls
pub mod PlanFiles
pub mod PlanText
