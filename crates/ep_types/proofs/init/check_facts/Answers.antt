use Rattle.ep_types.specs.Places.{scope}
use Rattle.ep_types.proofs.AtomLemmas.{facts_judged}
use Rattle.ep_types.proofs.init.check_facts.Goals as goal

pub returns : goal.returns
returns c = facts_judged c.args.vary.now c.in_ok-set.set c.args.list.now (scope c.args.names.now c.args.frame.now) c.check_facts_apart.result c.in_ok-set.ensures c.check_facts_apart.ensures
