-- What the crates above cite of the proofs of this one. All else is its own.
pub use Rattle.ep_planning.proofs.GuidedLemmas.{serves_told_guide}
pub use Rattle.ep_planning.proofs.KeepsLemmas.{keeps_all}
pub use Rattle.ep_planning.proofs.TrialLemmas.{trial_is_behind}
