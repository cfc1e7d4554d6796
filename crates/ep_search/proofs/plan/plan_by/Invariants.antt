use Rattle.std.proofs.Common.{◌≡◌, take}
use Rattle.ep_search.specs.Planned.{actions_of}
use Rattle.ep_search.proofs.plan.plan_by.Given as goal

abbrev pub invariant-loop-step : goal.invariant-loop-step
invariant-loop-step l = l.plan ≡ actions_of (take l.step-index l.step-items)
