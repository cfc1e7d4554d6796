-- The parts of an explicit state.
use Rattle.std.specs.Prelude.{◌≡◌, List, [], length, map}
use Rattle.ep_kripke.specs.declared.parts.StateParts.{StateParts}
use Rattle.ep_kripke.specs.Parts.{world}
use Rattle.ep_tree.specs.declared.tree.Name.{Name}
use Rattle.ep_tree.specs.declared.tree.LinkTree.{LinkTree}
use Rattle.ep_tree.specs.declared.tree.WorldTree.{WorldTree}
use Rattle.ep_types.specs.Tasks.{world_names}
use Rattle.ep_types.specs.declared.scope.Declared.{Declared}
use Rattle.ep_universe.specs.Atoms.{atoms_of}
use Rattle.ep_universe.specs.Links.{agent_count, agent_pairs, place_of}
use Rattle.ep_initial.specs.Explicit.{truth_at}
use Rattle.ep_initial.specs.Made.{world_links}

-- the parts that the explicit state is built from
pub record AreStateParts (d : Declared) (trees : List WorldTree) (chosen : List Name) (items : List LinkTree) (p : StateParts) : Type 0 where
  pub agents : p.agents ≡ agent_count d
  pub atoms : p.atoms ≡ length (atoms_of d)
  pub truth : p.truth ≡ map (truth_at d) trees
  pub links : p.links ≡ world_links (agent_pairs d [] (world_names trees) items) (agent_count d)
  pub designated : p.designated ≡ map (λ x. world (place_of (world_names trees) x)) chosen
