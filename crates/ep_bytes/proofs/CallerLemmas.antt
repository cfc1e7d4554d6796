-- What the crates above cite of the proofs of this one. All else is its own.
pub use Rattle.ep_bytes.proofs.BytesLemmas.{same_bytes}
pub use Rattle.ep_bytes.proofs.ReadingLemmas.{bytes_agree, bytes_differ}
