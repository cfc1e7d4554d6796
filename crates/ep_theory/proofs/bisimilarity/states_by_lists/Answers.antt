use Rattle.ep_theory.proofs.states.Listed.{listed_states}
use Rattle.ep_theory.proofs.bisimilarity.states_by_lists.Goals as goal

pub returns : goal.returns
returns c = listed_states
