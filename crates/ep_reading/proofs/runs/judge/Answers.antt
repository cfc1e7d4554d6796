use Rattle.std.proofs.Common.{IfOk, subst}
use Rattle.ep_theory.specs.PlanningTask.{PlanningTask}
use Rattle.ep_plan.specs.Verdicts.{IsVerdict}
use Rattle.ep_reading.proofs.runs.judge.Goals as goal

pub returns : goal.returns
returns c = subst (λ (T : PlanningTask). IfOk c.judge_counting.result (IsVerdict T c.args.plan.now)) c.problem.ensures.value c.judge_counting.ensures
