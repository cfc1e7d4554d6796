pub mod FormulaReading
pub mod TaskReading
pub mod PlanReading
