-- The verdict is told.
use Rattle.std.proofs.Common.{sym, subst}
use Rattle.ep_answer.specs.declared.answer.Answer.TheVariants.{Judged}
use Rattle.ep_question.specs.declared.question.Question.{Question}
use Rattle.ep_question.specs.Questions.{Asks}
use Rattle.ep_reading.specs.Served.{answers}
use Rattle.ep_question.proofs.QuestionLemmas.{validates_by}
use Rattle.ep_question.proofs.one_plan.answer_on_plan.Goals as goal

pub returns-in_ok-judge-in-Validate : goal.returns-in_ok-judge-in-Validate
returns-in_ok-judge-in-Validate c =
    let v = c.in_ok-judge-in-Validate.field-0 in
    subst (λ (q : Question). Asks q c.args.task.now c.args.plan.now (answers (Judged v))) (sym c.in-Validate.is) (validates_by c.args.task.now c.args.plan.now v c.in_ok-judge-in-Validate.ensures)
