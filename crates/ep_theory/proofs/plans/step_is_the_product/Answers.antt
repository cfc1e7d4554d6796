use Rattle.ep_theory.proofs.runs.Steps.{step_some}
use Rattle.ep_theory.proofs.plans.step_is_the_product.Goals as goal

pub returns : goal.returns
returns c = step_some
