-- What the crates above cite of the proofs of this one. All else is its own.
pub use Rattle.ep_plan.proofs.Fitting.{formula_fits}
pub use Rattle.ep_plan.proofs.OneOutcome.{one_outcome}
