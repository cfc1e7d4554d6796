use Rattle.ep_theory.proofs.runs.Runs.{solved_alike}
use Rattle.ep_theory.proofs.plans.bisimilar_tasks_are_solved_alike.Goals as goal

pub returns : goal.returns
returns c = solved_alike
