-- What is asked of the task of a file and the plan of a word.
use Rattle.std.proofs.Common.{inl, inr, [], ◌∷◌}
use Rattle.std.proofs.lemmas.Result.{err_from_is_err_and}
use Rattle.ep_answer.specs.declared.cause.Subject.TheVariants.{Plan}
use Rattle.ep_reading.specs.PlanFile.{PlanFile}
use Rattle.ep_question.specs.Questions.{Asks}
use Rattle.ep_reading.specs.Fetches.{plan_files}
use Rattle.ep_reading.proofs.CallerLemmas.{behind_task, stops_at_task, fetches_first, fetches_then}
use Rattle.ep_question.proofs.one_plan.answer_question.Goals as goal

pub returns-in_err-task-clause-answer : goal.returns-in_err-task-clause-answer
returns-in_err-task-clause-answer g c =
    let p = err_from_is_err_and c.from_residual.result c.from_residual.ensures.1 in
    rw (p.1, p.2) (stops_at_task _ _ c.args.file.now (λ files t. PlanFile files Plan c.args.word.now t (Asks c.args.question t)) _ _ (λ s name n. inl n) c.in_err-task.ensures.task)

pub returns-clause-answer : goal.returns-clause-answer
returns-clause-answer g c =
    behind_task _ _ _ c.args.file.now c.in_ok-task.task (λ files t. PlanFile files Plan c.args.word.now t (Asks c.args.question t)) _ _ c.answer_on_task.result
    c.in_ok-task.ensures.task c.in_ok-task.ensures.goes_on (λ s name n. inr n) c.answer_on_task.ensures.answer

pub returns-in_err-task-clause-fetches : goal.returns-in_err-task-clause-fetches
returns-in_err-task-clause-fetches g c = fetches_first (c.args.file.now ∷ []) (plan_files c.args.word.now) _ _ c.read_task_file.ensures.fetches

pub returns-clause-fetches : goal.returns-clause-fetches
returns-clause-fetches g c = fetches_then (c.args.file.now ∷ []) (plan_files c.args.word.now) _ _ _ c.in_ok-task.ensures.whole c.answer_on_task.ensures.fetches
