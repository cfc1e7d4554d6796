use Rattle.ep_theory.proofs.actions.EquivalenceLemmas.{known_is_true}
use Rattle.ep_theory.proofs.equivalences.knowledge_is_true.Goals as goal

pub returns : goal.returns
returns c = known_is_true
