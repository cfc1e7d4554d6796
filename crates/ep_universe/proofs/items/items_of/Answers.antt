use Rattle.ep_types.specs.Tasks.{declarations}
use Rattle.ep_universe.proofs.FewLemmas.{few_names}
use Rattle.ep_universe.proofs.ReadLemmas.{few_fluents}
use Rattle.ep_universe.proofs.items.items_of.Goals as goal

pub items_within-requires : goal.items_within-requires
items_within-requires c = few_fluents c.args.typed.now c.known.ensures.read

pub returns-clause-few : goal.returns-clause-few
returns-clause-few c = few_names (declarations c.args.typed.now) c.items_within.result c.items_within.ensures.judged
