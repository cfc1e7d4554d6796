use Rattle.ep_binding.proofs.LawsLemmas.{ordered-bindings, ordered-distinct}
use Rattle.ep_binding.proofs.laws.bindings_are_in_order.Goals as goal

pub returns-clause-all : goal.returns-clause-all
returns-clause-all c = ordered-bindings

pub returns-clause-distinct : goal.returns-clause-distinct
returns-clause-distinct c = ordered-distinct
