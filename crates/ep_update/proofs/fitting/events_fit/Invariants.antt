use Rattle.std.proofs.Common.{take}
use Rattle.std.specs.List.{AllByRecursion}
use Rattle.ep_theory.specs.Fits.{EventFits}
use Rattle.ep_update.proofs.fitting.events_fit.Given as goal

abbrev pub invariant-loop-e : goal.invariant-loop-e
invariant-loop-e l = AllByRecursion (EventFits l.s) (take l.e l.a.events)
