-- Where the command ends.
use Rattle.std.proofs.lemmas.Result.{err_from_is_err_and}
use Rattle.ep_planning.specs.Planning.{Plans}
use Rattle.ep_reading.proofs.CallerLemmas.{stops_at_task, ends_with}
use Rattle.ep_planning.proofs.PlanLemmas.{plans_is_behind}
use Rattle.ep_planning.proofs.plan.plan_file.Goals as goal

pub returns-in_err-task-clause-answer : goal.returns-in_err-task-clause-answer
returns-in_err-task-clause-answer g c =
    let p = err_from_is_err_and c.from_residual.result c.from_residual.ensures.1 in
    rw (p.1, p.2) (stops_at_task _ _ c.args.file.now (λ files. Plans c.args.bounds c.args.mode) _ _ (λ s name n. n) c.in_err-task.ensures.task)

pub returns-clause-answer : goal.returns-clause-answer
returns-clause-answer g c =
    ends_with _ _ c.args.file.now c.in_ok-task.task (Plans c.args.bounds c.args.mode) _ c.in_ok-answer.answer c.in_ok-task.ensures.task c.in_ok-answer.ensures.plans
    (plans_is_behind c.args.bounds c.args.mode c.in_ok-task.task _ _ c.in_ok-answer.ensures.plans)
