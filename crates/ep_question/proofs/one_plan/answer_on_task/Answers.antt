-- What is asked of a task and the plan of a word.
use Rattle.std.proofs.lemmas.Result.{err_from_is_err_and}
use Rattle.ep_answer.specs.declared.cause.Subject.TheVariants.{Plan}
use Rattle.ep_question.specs.Questions.{Asks}
use Rattle.ep_question.proofs.QuestionLemmas.{asks_is_behind}
use Rattle.ep_reading.proofs.CallerLemmas.{behind_plan, stops_at_plan, tells_is_served}
use Rattle.ep_question.proofs.one_plan.answer_on_task.Goals as goal

pub returns-in_err-plan-clause-answer : goal.returns-in_err-plan-clause-answer
returns-in_err-plan-clause-answer g c =
    let p = err_from_is_err_and c.from_residual.result c.from_residual.ensures.1 in
    rw (p.1, p.2) (stops_at_plan _ _ Plan c.args.word.now c.args.task.now (λ files. Asks c.args.question c.args.task.now) _ _ _ (λ s name n. n) c.in_err-plan.ensures.plan)

pub returns-clause-answer : goal.returns-clause-answer
returns-clause-answer g c =
    let ask = Asks c.args.question c.args.task.now in
    behind_plan _ _ _ Plan c.args.word.now c.args.task.now c.in_ok-plan.plan (λ files. ask) _ _ c.answer_on_plan.result c.in_ok-plan.ensures.plan c.in_ok-plan.ensures.goes_on (λ s name n. n)
    (tells_is_served (ask c.in_ok-plan.plan) _ _ _ c.answer_on_plan.result (asks_is_behind c.args.question c.args.task.now c.in_ok-plan.plan) c.answer_on_plan.ensures)
