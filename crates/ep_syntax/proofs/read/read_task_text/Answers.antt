use Rattle.ep_tree.specs.Grammar.{tasks}
use Rattle.ep_reader.proofs.CallerLemmas.{parsed_by}
use Rattle.ep_syntax.specs.TaskReading.{task}
use Rattle.ep_syntax.proofs.TaskLaws.{task_outcome}
use Rattle.ep_syntax.proofs.read.read_task_text.Goals as goal

pub returns : goal.returns
returns c = parsed_by tasks c.args.bytes.now task task_outcome c.parse_text.result c.parse_text.ensures
