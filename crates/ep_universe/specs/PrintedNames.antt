-- Printed names of objects, agents and ground atoms.
use Rattle.std.specs.Prelude.{ℕ, List, [], map, slice_index_or}
use Rattle.ep_name.specs.Names.{printed}
use Rattle.ep_types.specs.Names.{Text, names_of}
use Rattle.ep_types.specs.declared.scope.Declared.{Declared}
use Rattle.ep_universe.specs.declared.atoms.GroundAtom.{GroundAtom}
use Rattle.ep_universe.specs.Atoms.{atoms_of}
use Rattle.ep_universe.specs.Objects.{agents_of}

abbrev pub object_name : Declared → ℕ → Text
object_name d o = slice_index_or (names_of d.objects) o []

abbrev pub atom_name : Declared → GroundAtom → Text
atom_name d a = printed (slice_index_or (names_of d.fluents) a.fluent []) (map (object_name d) a.objects)

abbrev pub agent_names : Declared → List Text
agent_names d = map (object_name d) (agents_of d)

abbrev pub atom_names : Declared → List Text
atom_names d = map (atom_name d) (atoms_of d)
