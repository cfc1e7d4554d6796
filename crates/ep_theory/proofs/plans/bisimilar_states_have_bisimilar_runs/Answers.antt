use Rattle.ep_theory.proofs.runs.Runs.{runs_alike}
use Rattle.ep_theory.proofs.plans.bisimilar_states_have_bisimilar_runs.Goals as goal

pub returns : goal.returns
returns c = runs_alike
