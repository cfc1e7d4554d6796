use Rattle.std.proofs.Common.{take}
use Rattle.std.specs.List.{AllByRecursion}
use Rattle.ep_theory.specs.Events.{IsAction}
use Rattle.ep_problem.proofs.problem.look_at.Given as goal

abbrev pub invariant-loop-action : goal.invariant-loop-action
invariant-loop-action l = AllByRecursion IsAction (take l.action-index l.actions)
