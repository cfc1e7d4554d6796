use Rattle.ep_theory.proofs.runs.Runs.{after_from-snoc}
use Rattle.ep_theory.proofs.plans.one_more_action.Goals as goal

pub returns : goal.returns
returns c = λ T p a. after_from-snoc T p T.initial a
