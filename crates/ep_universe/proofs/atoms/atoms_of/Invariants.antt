use Rattle.std.proofs.Common.{◌≡◌}
use Rattle.ep_types.specs.Tasks.{declarations}
use Rattle.ep_universe.proofs.AtomLemmas.{atoms_to}
use Rattle.ep_universe.proofs.atoms.atoms_of.Given as goal

abbrev pub invariant-loop-number : goal.invariant-loop-number
invariant-loop-number l = l.atoms ≡ atoms_to (declarations l.typed) l.typed.fluents l.number
