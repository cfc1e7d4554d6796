pub mod Fitting
pub mod Made
pub mod OneOutcome
pub mod StuckPlans
pub mod TruthfulRuns
pub mod CallerLemmas
