use Rattle.ep_theory.proofs.states.Laws.{one_contraction}
use Rattle.ep_theory.proofs.contractions.contraction_is_one.Goals as goal

pub returns : goal.returns
returns c = one_contraction
