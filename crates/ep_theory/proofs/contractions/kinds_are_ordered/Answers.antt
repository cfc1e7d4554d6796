use Rattle.ep_theory.proofs.states.Laws.{kinds_transitive, kinds_turned, kinds_same}
use Rattle.ep_theory.proofs.contractions.kinds_are_ordered.Goals as goal

pub returns : goal.returns
returns c = record { transitive = kinds_transitive; turned = kinds_turned; same = kinds_same }
