-- Where the command ends.
use Rattle.std.proofs.lemmas.Result.{err_from_is_err_and}
use Rattle.ep_checking.specs.Checking.{Checks}
use Rattle.ep_reading.proofs.CallerLemmas.{stops_at_task, ends_with, ground_formed, ground_shallow}
use Rattle.ep_checking.proofs.CheckLemmas.{checks_is_behind}
use Rattle.ep_checking.proofs.check.check_task.Goals as goal

pub report_task-requires-clause-formed : goal.report_task-requires-clause-formed
report_task-requires-clause-formed g c =
    let t = c.in_ok-task.ensures.task.is_task in
    ground_formed t.tree c.in_ok-task.task t.is_ground.whole t.is_tree.text.reads.formed

pub report_task-requires-clause-shallow : goal.report_task-requires-clause-shallow
report_task-requires-clause-shallow g c =
    let t = c.in_ok-task.ensures.task.is_task in
    ground_shallow t.tree c.in_ok-task.task t.is_ground.whole t.is_tree.text.reads.shallow

pub returns-in_err-task-clause-answer : goal.returns-in_err-task-clause-answer
returns-in_err-task-clause-answer g c =
    let p = err_from_is_err_and c.from_residual.result c.from_residual.ensures.1 in
    rw (p.1, p.2) (stops_at_task _ _ c.args.file.now (λ files. Checks) _ _ (λ s name n. n) c.in_err-task.ensures.task)

pub returns-clause-answer : goal.returns-clause-answer
returns-clause-answer g c =
    ends_with _ _ c.args.file.now c.in_ok-task.task Checks _ c.in_ok-answer.answer c.in_ok-task.ensures.task c.in_ok-answer.ensures
    (checks_is_behind c.in_ok-task.task _ _ c.in_ok-answer.ensures)
