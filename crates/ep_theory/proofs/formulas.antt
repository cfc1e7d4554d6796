pub mod TruthLemmas
pub mod SameTruth
pub mod WithinSteps
pub mod Decided
pub mod TestedLemmas
