use Rattle.ep_theory.proofs.states.Laws.{one_state_decides}
use Rattle.ep_theory.proofs.contractions.kinds_decide_in_one_state.Goals as goal

pub returns : goal.returns
returns c = one_state_decides
