use Rattle.std.proofs.Common.{take}
use Rattle.ep_types.specs.Atoms.{IsSetOf}
use Rattle.ep_types.proofs.init.collect_varied.Given as goal

abbrev pub invariant-loop-entry : goal.invariant-loop-entry
invariant-loop-entry l = IsSetOf (take l.entry-index l.list) l.set
