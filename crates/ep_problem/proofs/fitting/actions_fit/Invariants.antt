use Rattle.std.proofs.Common.{take}
use Rattle.std.specs.List.{AllByRecursion}
use Rattle.ep_theory.specs.Fits.{ActionFits}
use Rattle.ep_problem.proofs.fitting.actions_fit.Given as goal

abbrev pub invariant-loop-action : goal.invariant-loop-action
invariant-loop-action l = AllByRecursion (ActionFits l.s) (take l.action-index l.actions)
