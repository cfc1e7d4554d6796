use Rattle.ep_theory.proofs.actions.ClassLemmas.{to_classes, from_classes}
use Rattle.ep_theory.proofs.equivalences.equivalences_are_classes.Goals as goal

pub returns : goal.returns
returns c n pairs rising within = (to_classes n pairs rising within, from_classes n pairs within)
