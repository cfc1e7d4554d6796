use Rattle.ep_binding.proofs.LawsLemmas.{bindings-among, distinct-among}
use Rattle.ep_binding.proofs.laws.bindings_are_all.Goals as goal

pub returns-clause-all : goal.returns-clause-all
returns-clause-all c = bindings-among

pub returns-clause-distinct : goal.returns-clause-distinct
returns-clause-distinct c = distinct-among
