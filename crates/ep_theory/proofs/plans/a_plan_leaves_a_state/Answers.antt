use Rattle.ep_theory.proofs.runs.Runs.{after_state}
use Rattle.ep_theory.proofs.plans.a_plan_leaves_a_state.Goals as goal

pub returns : goal.returns
returns c = after_state
