use Rattle.ep_theory.proofs.actions.TriedLemmas.{equivalences_are_tried}
use Rattle.ep_theory.proofs.equivalences.equivalences_are_tried.Goals as goal

pub returns : goal.returns
returns c = equivalences_are_tried
