use Rattle.ep_lex.specs.Tokens.{spellings}
use Rattle.ep_tree.specs.Grammar.{tasks}
use Rattle.ep_reader.proofs.CallerLemmas.{said_read_by}
use Rattle.ep_syntax.specs.TaskReading.{task}
use Rattle.ep_syntax.proofs.TaskLaws.{task_outcome}
use Rattle.ep_syntax.proofs.read.read_task.Goals as goal

pub returns : goal.returns
returns c = let ts = spellings c.args.bytes.now c.args.tokens.now.tokens in said_read_by tasks ts task (task_outcome ts) c.parse_whole.result c.parse_whole.ensures
