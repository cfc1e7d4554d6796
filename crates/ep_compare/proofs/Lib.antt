pub mod CompareLemmas
pub mod LineLemmas
