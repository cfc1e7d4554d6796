use Rattle.std.proofs.Common.{take}
use Rattle.ep_plan.specs.Runs.{AreOf}
use Rattle.ep_plan.proofs.runs.plan_fits.Given as goal

abbrev pub invariant-loop-place : goal.invariant-loop-place
invariant-loop-place l = AreOf l.problem (take l.place-index l.plan)
