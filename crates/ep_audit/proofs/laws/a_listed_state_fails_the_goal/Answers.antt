use Rattle.ep_audit.proofs.GoalLemmas.{false_somewhere}
use Rattle.ep_audit.proofs.laws.a_listed_state_fails_the_goal.Goals as goal

pub returns : goal.returns
returns c = λ T bound e h. false_somewhere e.0 T.goal h.valid h.unmet
