pub mod GuideLemmas
pub mod GuidedLemmas
pub mod KeepsLemmas
pub mod PlanLemmas
pub mod TrialLemmas
pub mod CallerLemmas
