use Rattle.std.proofs.Common.{Some}
use Rattle.ep_apart.specs.Tables.{IsMissing}
use Rattle.ep_apart.proofs.apart.nearest.Given as goal

abbrev pub invariant-loop-x : goal.invariant-loop-x
invariant-loop-x l = IsMissing l.xs l.others (Some l.best)
