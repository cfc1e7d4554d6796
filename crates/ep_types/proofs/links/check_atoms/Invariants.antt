use Rattle.std.proofs.Common.{◌≡◌, drop}
use Rattle.ep_types.specs.Faults.{first_fault}
use Rattle.ep_types.specs.Places.{scope}
use Rattle.ep_types.specs.Tasks.{atoms_uses}
use Rattle.ep_types.proofs.links.check_atoms.Given as goal

abbrev pub invariant-loop-entry : goal.invariant-loop-entry
invariant-loop-entry l = first_fault (atoms_uses l.list (scope l.names l.frame)) ≡ first_fault (atoms_uses (drop l.entry-index l.list) (scope l.names l.frame))
