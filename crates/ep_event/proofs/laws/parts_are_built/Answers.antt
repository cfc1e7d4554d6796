use Rattle.ep_event.proofs.BuiltLemmas.{are_fine, built_is_action}
use Rattle.ep_event.proofs.MadeLemmas.{built_is_made}
use Rattle.ep_event.proofs.laws.parts_are_built.Goals as goal

pub returns-clause-made : goal.returns-clause-made
returns-clause-made c = λ p h. built_is_made p (are_fine p h)

pub returns-clause-action : goal.returns-clause-action
returns-clause-action c = λ p h. built_is_action p (are_fine p h)
