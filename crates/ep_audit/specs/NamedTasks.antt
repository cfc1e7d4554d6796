-- Planning tasks with names. This project's own.
use Rattle.std.specs.Prelude.{◌≡◌, ℕ, List, [], length, slice_index_or}
use Rattle.ep_theory.specs.PlanningTask.{PlanningTask, IsPlanningTask, IsSmall}
use Rattle.ep_theory.specs.Plans.{cost_at}

-- what there is to plan, the name of the task, and a printed name for each action
pub record NamedTask : Type 0 where
  pub name : List ℕ
  pub problem : PlanningTask
  pub action_names : List (List ℕ)

-- each action has the name at its place
pub record IsNamedTask (T : NamedTask) : Type 0 where
  pub problem : IsPlanningTask T.problem
  pub small : IsSmall T.problem
  pub named : length T.action_names ≡ length T.problem.actions

-- the cost and the printed name of the action at a place
abbrev pub cost_of : NamedTask → ℕ → ℕ
cost_of T a = cost_at T.problem (record { n = a })

abbrev pub name_of : NamedTask → ℕ → List ℕ
name_of T a = slice_index_or T.action_names a []
