use Rattle.ep_theory.proofs.runs.Steps.{step_none}
use Rattle.ep_theory.proofs.plans.no_step_where_nothing_applies.Goals as goal

pub returns : goal.returns
returns c = step_none
