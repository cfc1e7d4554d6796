-- What a ground task is made of.
use Rattle.std.specs.Prelude.{List}
use Rattle.ep_theory.specs.PlanningTask.{PlanningTask}
use Rattle.ep_tree.specs.declared.tree.TaskTree.{TaskTree}
use Rattle.ep_types.specs.Names.{Text}

-- a ground task: the problem that it poses, with its names
pub record GroundTask : Type 0 where
  pub tree : TaskTree
  pub agents : List Text
  pub atoms : List Text
  pub actions : List Text
  pub problem : PlanningTask
