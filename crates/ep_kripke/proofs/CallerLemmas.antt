-- What the crates above cite of the proofs of this one. All else is its own.
pub use Rattle.ep_kripke.proofs.NameLemmas.{length-named, named-at}
pub use Rattle.ep_kripke.proofs.SameStates.{one_state}
pub use Rattle.ep_kripke.proofs.SourceLemmas.{sum-with_source}
pub use Rattle.ep_kripke.proofs.TakingLemmas.{from_taken, in_taken, length-without, trues, trues-without, without_false, without_here, without_other}
