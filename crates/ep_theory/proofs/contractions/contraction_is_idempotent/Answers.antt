use Rattle.ep_theory.proofs.states.Laws.{contraction_once}
use Rattle.ep_theory.proofs.contractions.contraction_is_idempotent.Goals as goal

pub returns : goal.returns
returns c = contraction_once
