-- The text of the trial, read as a file is, and the trial.
use Rattle.std.proofs.Common.{◌≤◌, length, sym, subst, ◌∙◌}
use Rattle.std.proofs.lemmas.Result.{err_from_is_err_and}
use Rattle.ep_answer.specs.declared.answer.Answer.TheVariants.{Tried}
use Rattle.ep_planning.specs.Trials.{Tries}
use Rattle.ep_reading.specs.Served.{TaskRead, answers}
use Rattle.ep_reading.specs.Steps.{nothing_behind}
use Rattle.ep_reading.proofs.CallerLemmas.{stops_map, TaskRead-behind, TaskRead-weaker}
use Rattle.ep_planning.proofs.TrialLemmas.{tries_by, trial_is_short}
use Rattle.ep_planning.proofs.trial.run_trial.Goals as goal

pub read_task-requires : goal.read_task-requires
read_task-requires g c = subst (λ text. length text ≤ 1048576) (sym (c.as_slice.ensures.value ∙ c.in_ok-text.ensures)) (trial_is_short c.args.children c.requires)

pub returns-in_err-task-clause-answer : goal.returns-in_err-task-clause-answer
returns-in_err-task-clause-answer g c =
    let p = err_from_is_err_and c.from_residual-in_err-task.result c.from_residual-in_err-task.ensures.1 in
    let n = c.args.children in
    let text = c.as_slice.result.now in
    rw (p.1, p.2)
    (stops_map (TaskRead text nothing_behind) _ _ (λ o w. subst (λ text. TaskRead text (Tries n) o) (c.as_slice.ensures.value ∙ c.in_ok-text.ensures) (TaskRead-weaker text nothing_behind (Tries n) o (λ g none. absurd none) w)) c.in_err-task.ensures)

pub returns-clause-answer : goal.returns-clause-answer
returns-clause-answer g c =
    let n = c.args.children in
    let o = answers (Tried c.in_ok-trial.trial) in
    subst (λ text. TaskRead text (Tries n) o) (c.as_slice.ensures.value ∙ c.in_ok-text.ensures)
    (TaskRead-behind c.as_slice.result.now c.in_ok-task.task (Tries n) o c.in_ok-task.ensures (tries_by n c.in_ok-task.task c.in_ok-trial.trial c.in_ok-trial.ensures.trial))
