-- What the command tells of what the plan leaves.
use Rattle.std.proofs.Common.{ap}
use Rattle.std.proofs.lemmas.Result.{err_from_is_err_and}
use Rattle.ep_answer.specs.declared.answer.Answer.TheVariants.{Shown}
use Rattle.ep_answer.specs.declared.run_stop.Whose.TheVariants.{Only}
use Rattle.ep_question.specs.Questions.{Shows}
use Rattle.ep_reading.specs.Served.{answers}
use Rattle.ep_reading.specs.Steps.{nothing_behind}
use Rattle.ep_reading.proofs.CallerLemmas.{stops_map, Ran-behind, Ran-weaker}
use Rattle.ep_question.proofs.one_plan.answer_state.Goals as goal

pub returns-in_err-state : goal.returns-in_err-state
returns-in_err-state c =
    let p = err_from_is_err_and c.from_residual.result c.from_residual.ensures.1 in
    rw (p.1, p.2) (stops_map _ _ _ (λ o h. Ran-weaker Only c.args.task.now c.args.plan.now nothing_behind (Shows c.args.task.now) o (λ S none. absurd none) h) c.in_err-state.ensures)

pub returns : goal.returns
returns c =
    Ran-behind Only c.args.task.now c.args.plan.now c.in_ok-state.state (Shows c.args.task.now) _ c.in_ok-state.ensures.run (ap (λ t. answers (Shown t)) c.in_ok-text.ensures)
