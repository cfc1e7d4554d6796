use Rattle.ep_search.proofs.StartLemmas.{completes_ok}
use Rattle.ep_search.proofs.bounded.search.Goals as goal

pub returns-clause-complete : goal.returns-clause-complete
returns-clause-complete g c = completes_ok c.args.problem.now c.args.bounds c.args.mode c.answer.result c.answer.ensures.allowed
