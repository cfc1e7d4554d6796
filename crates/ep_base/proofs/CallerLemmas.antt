-- What the crates above cite of the proofs of this one. All else is its own.
pub use Rattle.ep_base.proofs.RefusalLemmas.{no_place, none_first, not_above, not_when, or_fault, reports_whole, told_none, told_some}
