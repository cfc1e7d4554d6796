-- The initial state of the explicit form.
use Rattle.std.specs.Prelude.{Bool, List, [], length, map}
use Rattle.ep_theory.specs.Kripke.{Kripke}
use Rattle.ep_logic.specs.Numbers.{has_number, table}
use Rattle.ep_tree.specs.declared.tree.Name.{Name}
use Rattle.ep_tree.specs.declared.tree.LinkTree.{LinkTree}
use Rattle.ep_tree.specs.declared.tree.WorldTree.{WorldTree}
use Rattle.ep_types.specs.Tasks.{world_names}
use Rattle.ep_types.specs.declared.scope.Declared.{Declared}
use Rattle.ep_universe.specs.Objects.{agents_of}
use Rattle.ep_universe.specs.Atoms.{atoms_of, atom_at}
use Rattle.ep_universe.specs.Links.{AreEnds, designated_numbers, links_of}

-- the truth of each atom at a world: those that it lists are true
abbrev pub truth_at : Declared → WorldTree → List Bool
truth_at d w = table (has_number (map (atom_at d []) w.atoms)) (length (atoms_of d))

abbrev pub explicit_state : Declared → List WorldTree → List Name → List LinkTree → Kripke
explicit_state d worlds designated links = record {
  worlds = length worlds;
  agents = length (agents_of d);
  atoms = length (atoms_of d);
  truth = map (truth_at d) worlds;
  links = links_of d [] (world_names worlds) links;
  designated = designated_numbers (world_names worlds) designated;
}

-- few enough worlds, with names that differ, and links between them
abbrev pub IsBuildableState : List WorldTree → List Name → List LinkTree → Type 0
IsBuildableState worlds designated links = AreEnds (world_names worlds) designated links
