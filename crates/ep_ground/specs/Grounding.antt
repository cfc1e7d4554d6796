-- The ground task of a typed task, and the first fault of one that has none.
use Rattle.std.specs.Prelude.{◌≡◌, IsTrue, List, [], ◌∷◌, Option, option_map, length}
use Rattle.ep_base.specs.Refusals.{first_some}
use Rattle.ep_theory.specs.PlanningTask.{PlanningTask, IsS5Task}
use Rattle.ep_tree.specs.declared.tree.TaskTree.{TaskTree}
use Rattle.ep_tree.specs.Grammar.{IsRead}
use Rattle.ep_types.specs.Tasks.{HasNoFault, declarations}
use Rattle.ep_types.specs.declared.scope.Declared.{Declared}
use Rattle.ep_universe.specs.Atoms.{atoms_of}
use Rattle.ep_universe.specs.Formulas.{ground_of}
use Rattle.ep_universe.specs.Universe.{HasFewNames, universe_fault}
use Rattle.ep_universe.specs.declared.universe_error.UniverseError.{UniverseError}
use Rattle.ep_universe.specs.declared.universe_error.UniverseError.TheVariants as universe
use Rattle.ep_universe.specs.Objects.{agents_of}
use Rattle.ep_universe.specs.PrintedNames.{agent_names, atom_names}
use Rattle.ep_initial.specs.Initial.{init_fault, initial_of}
use Rattle.ep_initial.specs.declared.fault.InitialError.{InitialError}
use Rattle.ep_initial.specs.declared.fault.InitialError.TheVariants as initial
use Rattle.ep_schema.specs.ActionNames.{action_names}
use Rattle.ep_schema.specs.Actions.{actions_of, costs_of}
use Rattle.ep_schema.specs.Faults.{atom_twice}
use Rattle.ep_schema.specs.declared.fault.SchemaError.{SchemaError}
use Rattle.ep_schema.specs.declared.fault.SchemaError.TheVariants as schema
use Rattle.ep_ground.specs.Faults.{limit_fault}
use Rattle.ep_ground.specs.Frames.{not_s5}
use Rattle.ep_ground.specs.Task.{GroundTask}
use Rattle.ep_ground.specs.declared.fault.GroundError.{GroundError}
use Rattle.ep_ground.specs.declared.fault.GroundError.TheVariants as fault

-- ---- the ground task

abbrev pub problem_from : Declared → TaskTree → PlanningTask
problem_from d t = record {
  initial = initial_of d t.init;
  actions = actions_of d t.schemas;
  costs = costs_of d t.schemas;
  goal = ground_of d t.goal [];
}

abbrev pub task_from : Declared → TaskTree → GroundTask
task_from d t = record {
  tree = t;
  agents = agent_names d;
  atoms = atom_names d;
  actions = action_names d t.schemas;
  problem = problem_from d t;
}

-- the ground task of a tree
abbrev pub task_of : TaskTree → GroundTask
task_of t = task_from (declarations t) t

-- the ground task of its tree, which was read and has no fault
pub record IsWhole (g : GroundTask) : Type 0 where
  pub task : g ≡ task_of g.tree
  pub typed : HasNoFault g.tree
  pub read : IsRead g.tree

-- each agent, atom and action of the problem has a name, the agents and atoms are those of the tree, and few enough, and the
-- relations are equivalences where the tree says so
pub record IsNamed (g : GroundTask) : Type 0 where
  pub agents : length g.agents ≡ g.problem.initial.agents
  pub atoms : length g.atoms ≡ g.problem.initial.atoms
  pub actions : length g.actions ≡ length g.problem.actions
  pub declared_agents : length g.agents ≡ length (agents_of (declarations g.tree))
  pub declared_atoms : length g.atoms ≡ length (atoms_of (declarations g.tree))
  pub whole : IsWhole g
  pub few : HasFewNames (declarations g.tree)
  pub frames : IsTrue g.tree.s5 → IsS5Task g.problem

-- ---- the first fault

-- what is told of names, of actions and of the initial state, as of the task
abbrev pub of_universe : UniverseError → GroundError
of_universe (universe.TooManyObjects count) = fault.TooManyObjects count
of_universe universe.NoAgent = fault.NoAgent
of_universe (universe.TooManyAgents count) = fault.TooManyAgents count
of_universe (universe.TooManyAtoms count) = fault.TooManyAtoms count
of_universe universe.OutOfMemory = fault.OutOfMemory

abbrev pub of_schema : SchemaError → GroundError
of_schema (schema.AtomTwice name) = fault.AtomTwice name
of_schema schema.OutOfMemory = fault.OutOfMemory

abbrev pub of_initial : InitialError → GroundError
of_initial (initial.TooManyVaried count) = fault.TooManyVaried count
of_initial (initial.TooManyWorlds count) = fault.TooManyWorlds count
of_initial initial.NoDesignated = fault.NoDesignated
of_initial initial.OutOfMemory = fault.OutOfMemory

-- the rows of the parts: an action with an atom set twice, and then the initial state's
abbrev pub part_rows : Declared → TaskTree → List (Option GroundError)
part_rows d t =
    option_map of_schema (atom_twice (action_names d t.schemas) (actions_of d t.schemas))
    ∷ option_map of_initial (init_fault d t.init)
    ∷ []

-- the rows behind the limits: those of the parts, and then relations that are no equivalences where they are to be
abbrev pub behind_limits : Declared → TaskTree → List (Option GroundError)
behind_limits d t = first_some (part_rows d t) ∷ not_s5 d t ∷ []

-- the rows behind those of the names
abbrev pub behind_names : Declared → TaskTree → List (Option GroundError)
behind_names d t = limit_fault d t ∷ behind_limits d t

-- the first fault of all rows
abbrev pub fault_of : Declared → TaskTree → Option GroundError
fault_of d t = first_some (option_map of_universe (universe_fault d) ∷ behind_names d t)
