-- What the crates above cite of the proofs of this one. All else is its own.
pub use Rattle.ep_store.proofs.PlaceLemmas.{at_push_cases, at_push_new, at_push_old, at_set_cases, at_set_other, at_set_same}
