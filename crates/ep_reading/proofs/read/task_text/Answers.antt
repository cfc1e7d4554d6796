-- The fault that is told.
use Rattle.ep_tree.specs.Grammar.{tasks}
use Rattle.ep_answer.specs.declared.cause.Subject.TheVariants.{Task}
use Rattle.ep_reading.specs.Steps.{nothing_behind}
use Rattle.ep_reading.proofs.Steps.{parsed_fault}
use Rattle.ep_reading.proofs.read.task_text.Goals as goal

pub returns-in-Err : goal.returns-in-Err
returns-in-Err c = parsed_fault tasks Task c.args.bytes.now (λ _. nothing_behind) c.in-Err.error c.text_stop.result c.in-Err.ensures.fault c.text_stop.ensures
