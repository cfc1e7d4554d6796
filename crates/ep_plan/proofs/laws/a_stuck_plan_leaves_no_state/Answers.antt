use Rattle.ep_plan.proofs.StuckPlans.{stuck_ends}
use Rattle.ep_plan.proofs.laws.a_stuck_plan_leaves_no_state.Goals as goal

pub returns : goal.returns
returns c = stuck_ends
