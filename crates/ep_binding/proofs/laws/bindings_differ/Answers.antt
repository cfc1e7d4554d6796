use Rattle.ep_binding.proofs.LawsLemmas.{apart-bindings, apart-distinct}
use Rattle.ep_binding.proofs.laws.bindings_differ.Goals as goal

pub returns-clause-all : goal.returns-clause-all
returns-clause-all c = apart-bindings

pub returns-clause-distinct : goal.returns-clause-distinct
returns-clause-distinct c = apart-distinct
