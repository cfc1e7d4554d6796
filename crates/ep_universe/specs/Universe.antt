-- A task with the names that it declares, and the limits on objects, agents and ground atoms.
use Rattle.std.specs.Prelude.{◌≡◌, ℕ, ◌<◌, ◌≤◌, nat_eq, List, [], ◌∷◌, length, Option}
use Rattle.ep_base.specs.Refusals.{above, first_some, when}
use Rattle.ep_binding.specs.declared.limits.TheConstants.{MOST_OBJECTS}
use Rattle.ep_logic.specs.declared.limits.TheConstants.{MOST_AGENTS, MOST_ATOMS}
use Rattle.ep_tree.specs.Grammar.{IsRead}
use Rattle.ep_tree.specs.declared.tree.TaskTree.{TaskTree}
use Rattle.ep_types.specs.Names.{names_of}
use Rattle.ep_types.specs.Tasks.{HasNoFault, declarations}
use Rattle.ep_types.specs.declared.scope.Declared.{Declared}
use Rattle.ep_universe.specs.Atoms.{atoms_of}
use Rattle.ep_universe.specs.Objects.{agents_of}
use Rattle.ep_universe.specs.PrintedNames.{agent_names, atom_names}
use Rattle.ep_universe.specs.declared.atoms.GroundAtom.{GroundAtom}
use Rattle.ep_universe.specs.declared.names.Names.{Names}
use Rattle.ep_universe.specs.declared.universe_error.UniverseError.{UniverseError}
use Rattle.ep_universe.specs.declared.universe_error.UniverseError.TheVariants.{TooManyObjects, NoAgent, TooManyAgents, TooManyAtoms}

-- a task, and what it declares
pub record NamedTask : Type 0 where
  pub tree : TaskTree
  pub names : Declared

abbrev pub named : TaskTree → NamedTask
named t = record { tree = t; names = declarations t }

-- few enough objects, agents and ground atoms, and at least one agent
pub record HasFewNames (d : Declared) : Type 0 where
  pub few_objects : length d.objects ≤ MOST_OBJECTS
  pub some_agent : 0 < length (agents_of d)
  pub few_agents : length (agents_of d) ≤ MOST_AGENTS
  pub few_atoms : length (atoms_of d) ≤ MOST_ATOMS

-- the first of these limits that is broken, with its exact count
abbrev pub universe_fault : Declared → Option UniverseError
universe_fault d = first_some (
    above MOST_OBJECTS TooManyObjects (length d.objects)
    ∷ when (nat_eq (length (agents_of d)) 0) NoAgent
    ∷ above MOST_AGENTS TooManyAgents (length (agents_of d))
    ∷ above MOST_ATOMS TooManyAtoms (length (atoms_of d))
    ∷ [])

-- what is known of a universe: its task was read and has no fault, and it has few enough names
pub record IsUniverse (u : NamedTask) : Type 0 where
  pub declared : u.names ≡ declarations u.tree
  pub typed : HasNoFault u.tree
  pub read : IsRead u.tree
  pub few : HasFewNames u.names

-- the names of objects, agents and ground atoms
pub record AreNamesOf (d : Declared) (names : Names) : Type 0 where
  pub objects : names.objects ≡ names_of d.objects
  pub agents : names.agents ≡ agent_names d
  pub atoms : names.atoms ≡ atom_names d

-- the agents, the ground atoms and the names
pub record AreItems (d : Declared) (agents : List ℕ) (atoms : List GroundAtom) (names : Names) : Type 0 where
  pub agents_are : agents ≡ agents_of d
  pub atoms_are : atoms ≡ atoms_of d
  pub names_are : AreNamesOf d names
