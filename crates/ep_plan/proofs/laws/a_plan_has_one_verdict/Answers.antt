use Rattle.ep_plan.proofs.OneOutcome.{one_verdict}
use Rattle.ep_plan.proofs.laws.a_plan_has_one_verdict.Goals as goal

pub returns : goal.returns
returns c = one_verdict
