-- What the crates above cite of the proofs of this one. All else is its own.
pub use Rattle.ep_truth.proofs.FitLemmas.{fits_in-And}
pub use Rattle.ep_truth.proofs.LabelLemmas.{designated_within}
