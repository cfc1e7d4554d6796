-- What the crates above cite of the proofs of this one. All else is its own.
pub use Rattle.ep_event.proofs.BuiltLemmas.{are_fine}
pub use Rattle.ep_event.proofs.KindLemmas.{has_is_member}
pub use Rattle.ep_event.proofs.RepeatLemmas.{are_distinct}
