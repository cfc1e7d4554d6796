-- What a search is set to.
use Rattle.std.specs.Prelude.{◌<◌, ◌^◌, length}
use Rattle.ep_bounds.specs.Bounds.{IsBounds}
use Rattle.ep_theory.specs.PlanningTask.{PlanningTask, IsPlanningTask}
use Rattle.ep_search.specs.declared.setting.Setting.{Setting}
use Rattle.ep_search.specs.Conjuncts.{AreParts}

-- a planning task, bounds, and the parts of the goal
pub record IsSetting (T : PlanningTask) (s : Setting) : Type 0 where
  pub task : IsPlanningTask T
  pub bounds : IsBounds s.bounds
  pub parts : AreParts T.goal s.parts
  pub few : length s.parts < 2 ^ 32
