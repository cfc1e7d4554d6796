-- What `eval` tells, step by step.
use Rattle.std.proofs.lemmas.Result.{err_from_is_err_and}
use Rattle.ep_answer.specs.declared.run_stop.Whose.TheVariants.{Only}
use Rattle.ep_reading.specs.PlanFile.{Ran}
use Rattle.ep_question.specs.Questions.{Evaluates}
use Rattle.ep_reading.specs.Served.{answers}
use Rattle.ep_reading.specs.Steps.{nothing_behind}
use Rattle.ep_reading.proofs.CallerLemmas.{stops_map, FormulaWord-behind, FormulaWord-weaker, Ran-behind, Ran-weaker}
use Rattle.ep_question.proofs.EvaluationLemmas.{fits_what_is_left}
use Rattle.ep_question.proofs.one_plan.answer_eval.Goals as goal

pub evaluate-requires : goal.evaluate-requires
evaluate-requires c =
    let left = c.in_ok-state.ensures in
    fits_what_is_left c.args.task.now c.in_ok-state.state c.in_ok-formula.formula left.agents left.atoms c.in_ok-formula.ensures.form.fits

pub returns-in_err-formula : goal.returns-in_err-formula
returns-in_err-formula c =
    let p = err_from_is_err_and c.from_residual.result c.from_residual.ensures.1 in
    rw (p.1, p.2) (stops_map _ _ _ (λ o h. FormulaWord-weaker c.args.task.now c.args.word.now nothing_behind (λ f. Ran Only c.args.task.now c.args.plan.now (Evaluates f)) o (λ f none. absurd none) h) c.in_err-formula.ensures)

pub returns-in_err-state : goal.returns-in_err-state
returns-in_err-state c =
    let p = err_from_is_err_and c.from_residual-in_err-state.result c.from_residual-in_err-state.ensures.1 in
    let f = c.in_ok-formula.formula in
    rw (p.1, p.2) (stops_map _ _ _ (λ o h. FormulaWord-behind c.args.task.now c.args.word.now f (λ f. Ran Only c.args.task.now c.args.plan.now (Evaluates f)) o c.in_ok-formula.ensures
    (Ran-weaker Only c.args.task.now c.args.plan.now nothing_behind (Evaluates f) o (λ S none. absurd none) h)) c.in_err-state.ensures)

pub returns : goal.returns
returns c =
    let f = c.in_ok-formula.formula in
    let o = answers c.in_ok-answer.answer in
    FormulaWord-behind c.args.task.now c.args.word.now f (λ f. Ran Only c.args.task.now c.args.plan.now (Evaluates f)) o c.in_ok-formula.ensures
    (Ran-behind Only c.args.task.now c.args.plan.now c.in_ok-state.state (Evaluates f) o c.in_ok-state.ensures.run c.in_ok-answer.ensures)
