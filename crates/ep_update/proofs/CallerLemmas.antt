-- What the crates above cite of the proofs of this one. All else is its own.
pub use Rattle.ep_update.proofs.NumbersWhere.{length-numbers_where}
