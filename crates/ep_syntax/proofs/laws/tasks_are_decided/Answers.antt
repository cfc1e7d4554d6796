use Rattle.ep_tree.specs.Grammar.{tasks}
use Rattle.ep_reader.proofs.CallerLemmas.{decided}
use Rattle.ep_syntax.specs.TaskReading.{task}
use Rattle.ep_syntax.proofs.TaskLaws.{task_outcome}
use Rattle.ep_syntax.proofs.laws.tasks_are_decided.Goals as goal

pub returns : goal.returns
returns c = decided tasks task task_outcome
