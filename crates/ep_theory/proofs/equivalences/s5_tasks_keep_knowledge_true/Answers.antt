use Rattle.ep_theory.proofs.runs.EquivalentRuns.{after_s5, known_after}
use Rattle.ep_theory.proofs.equivalences.s5_tasks_keep_knowledge_true.Goals as goal

pub returns-clause-s5 : goal.returns-clause-s5
returns-clause-s5 c = after_s5

pub returns-clause-truthful : goal.returns-clause-truthful
returns-clause-truthful c = known_after
