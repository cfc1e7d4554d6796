use Rattle.ep_theory.proofs.states.Laws.{only_contraction}
use Rattle.ep_theory.proofs.contractions.contraction_is_unique.Goals as goal

pub returns : goal.returns
returns c = only_contraction
