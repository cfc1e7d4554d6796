use Rattle.ep_universe.proofs.CountLemmas.{counted}
use Rattle.ep_universe.proofs.DepthLemmas.{shallow}
use Rattle.ep_universe.proofs.laws.ground_forms_are_counted.Goals as goal

pub returns-clause-nodes : goal.returns-clause-nodes
returns-clause-nodes c = counted

pub returns-clause-depth : goal.returns-clause-depth
returns-clause-depth c = shallow
