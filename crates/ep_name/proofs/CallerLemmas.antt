-- What the crates above cite of the proofs of this one. All else is its own.
pub use Rattle.ep_name.proofs.LawsLemmas.{printed-apart, printed-tells}
pub use Rattle.ep_name.proofs.PrintLemmas.{opened, opened-none, opened-some}
