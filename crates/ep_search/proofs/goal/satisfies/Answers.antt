use Rattle.ep_search.proofs.GoalLemmas.{satisfied_ok}
use Rattle.ep_search.proofs.goal.satisfies.Goals as goal

pub returns-clause-test : goal.returns-clause-test
returns-clause-test c = satisfied_ok c.args.s.now c.known.ensures.valid c.args.f.now c.holds_all.result c.holds_all.ensures
