use Rattle.ep_universe.proofs.LawLemmas.{suits}
use Rattle.ep_universe.proofs.laws.bindings_suit.Goals as goal

pub returns : goal.returns
returns c = suits
