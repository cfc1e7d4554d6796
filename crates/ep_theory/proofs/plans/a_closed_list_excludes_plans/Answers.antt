use Rattle.ep_theory.proofs.runs.ClosedLemmas.{no_plan}
use Rattle.ep_theory.proofs.plans.a_closed_list_excludes_plans.Goals as goal

pub returns : goal.returns
returns c = λ T bound entries t closed. no_plan T t bound entries closed
