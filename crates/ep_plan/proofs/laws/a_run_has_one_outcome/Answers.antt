use Rattle.ep_plan.proofs.OneOutcome.{one_outcome}
use Rattle.ep_plan.proofs.laws.a_run_has_one_outcome.Goals as goal

pub returns : goal.returns
returns c = one_outcome
