use Rattle.std.proofs.Common.{◌≡◌, ◌+◌, unwrap_or}
use Rattle.ep_plan.proofs.Made.{HasMade}
use Rattle.ep_plan.proofs.runs.run_plan.Given as goal

abbrev pub invariant-loop-before : goal.invariant-loop-before
invariant-loop-before g l = record {
  run : HasMade l.fn.problem l.fn.plan l.fn.size l.before (unwrap_or l.made l.fn.problem.initial);
  ticks : l.steps ≡ l.fn.steps + l.before;
}
