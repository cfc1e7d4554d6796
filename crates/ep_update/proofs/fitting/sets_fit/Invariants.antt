use Rattle.std.proofs.Common.{take}
use Rattle.std.specs.List.{AllByRecursion}
use Rattle.ep_update.specs.Assigned.{AssignFits}
use Rattle.ep_update.proofs.fitting.sets_fit.Given as goal

abbrev pub invariant-loop-set : goal.invariant-loop-set
invariant-loop-set l = AllByRecursion (AssignFits l.s) (take l.set-index l.sets)
