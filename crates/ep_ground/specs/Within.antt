-- What is known of a task within the limits: everything of it can be built.
use Rattle.std.specs.Prelude.{◌≤◌, length, All}
use Rattle.ep_logic.specs.declared.limits.TheConstants.{MOST_GROUND_ACTIONS}
use Rattle.ep_tree.specs.declared.tree.TaskTree.{TaskTree}
use Rattle.ep_types.specs.declared.scope.Declared.{Declared}
use Rattle.ep_universe.specs.Sizes.{IsBuildable, AreBuildable}
use Rattle.ep_initial.specs.Initial.{init_formulas}
use Rattle.ep_schema.specs.Actions.{actions_of}
use Rattle.ep_schema.specs.Bodies.{IsBuildableSchema}

-- few enough actions, and an initial state, schemas and a goal that can be built
pub record IsWithinLimits (d : Declared) (t : TaskTree) : Type 0 where
  pub actions : length (actions_of d t.schemas) ≤ MOST_GROUND_ACTIONS
  pub init : AreBuildable d (init_formulas t.init)
  pub schemas : All (IsBuildableSchema d) t.schemas
  pub goal : IsBuildable d t.goal
