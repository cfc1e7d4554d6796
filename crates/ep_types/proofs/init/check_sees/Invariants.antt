use Rattle.std.proofs.Common.{◌≡◌, drop}
use Rattle.ep_types.specs.Faults.{first_fault}
use Rattle.ep_types.specs.Places.{scope}
use Rattle.ep_types.specs.Tasks.{sees_uses}
use Rattle.ep_types.proofs.init.check_sees.Given as goal

abbrev pub invariant-loop-entry : goal.invariant-loop-entry
invariant-loop-entry l = let s = scope l.names l.frame in first_fault (sees_uses l.list s) ≡ first_fault (sees_uses (drop l.entry-index l.list) s)
