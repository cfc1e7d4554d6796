-- What the crates above cite of the proofs of this one. All else is its own.
pub use Rattle.ep_plan_text.proofs.LawLemmas.{read_again}
pub use Rattle.ep_plan_text.proofs.TreeLemmas.{file_trees}
