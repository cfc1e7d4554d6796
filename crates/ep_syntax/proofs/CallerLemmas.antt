-- What the crates above cite of the proofs of this one. All else is its own.
pub use Rattle.ep_syntax.proofs.PlanLaws.{plan_outcome, plan_shallow}
pub use Rattle.ep_syntax.proofs.TaskLaws.{task_outcome}
