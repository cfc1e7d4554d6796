pub mod FitLemmas
pub mod LabelLemmas
pub mod CommonLemmas
pub mod SweepLemmas
pub mod FormulaTableLemmas
pub mod TableLabelLemmas
pub mod CallerLemmas
