use Rattle.std.proofs.Common.{◌≡◌, ◌≤◌, ◌*◌, length}
use Rattle.ep_types.specs.Tasks.{declarations}
use Rattle.ep_universe.proofs.AtomLemmas.{atoms_to}
use Rattle.ep_universe.proofs.atoms.atom_count.Given as goal

abbrev pub invariant-loop-fluent : goal.invariant-loop-fluent
invariant-loop-fluent l = record {
  count : l.count ≡ length (atoms_to (declarations l.typed) l.typed.fluents l.fluent-index);
  most : l.count ≤ l.fluent-index * 68719476736;
}
