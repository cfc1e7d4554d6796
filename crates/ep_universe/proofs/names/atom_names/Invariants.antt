use Rattle.std.proofs.Common.{◌≡◌, take, map}
use Rattle.ep_types.specs.Tasks.{declarations}
use Rattle.ep_universe.specs.PrintedNames.{atom_name}
use Rattle.ep_universe.proofs.names.atom_names.Given as goal

abbrev pub invariant-loop-atom : goal.invariant-loop-atom
invariant-loop-atom l = l.printed ≡ map (atom_name (declarations l.typed)) (take l.atom-index l.atoms)
