-- What the crates above cite of the proofs of this one. All else is its own.
pub use Rattle.ep_refine.proofs.KeptLemmas.{image_as, kept_apart, kept_few}
pub use Rattle.ep_refine.proofs.ReachLemmas.{targets_within}
