-- What the crates above cite of the proofs of this one. All else is its own.
pub use Rattle.ep_reading.proofs.Behind.{behind_plan, behind_task, stops_at_plan, stops_map, tells_is_served}
pub use Rattle.ep_reading.proofs.FetchLemmas.{fetches_all, fetches_first, fetches_none, fetches_then, on_ok}
pub use Rattle.ep_reading.proofs.FormulaLemmas.{FormulaWord-behind, FormulaWord-weaker, formula_is_behind}
pub use Rattle.ep_reading.proofs.Lift.{IsAnswerOf-held, Serves-more, all_held, behind_is_answer, ends_with, read_is_behind, stops_at_task}
pub use Rattle.ep_reading.proofs.PlanFileLemmas.{Ran-behind, Ran-weaker, ran_is_behind}
pub use Rattle.ep_reading.proofs.Steps.{TaskRead-behind, TaskRead-weaker, ground_formed, ground_shallow}
pub use Rattle.ep_reading.proofs.Told.{IsBehind, answers_are, no_guide_no_fetch, other_is_behind}
