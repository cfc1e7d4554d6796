-- What an action adds to what a plan measures.
use Rattle.std.specs.Prelude.{ℕ}
use Rattle.ep_bounds.specs.declared.bounds.Measure.{Measure}
use Rattle.ep_bounds.specs.declared.bounds.Measure.TheVariants.{Length, Cost}
use Rattle.ep_logic.specs.declared.ids.ActionId.{ActionId}
use Rattle.ep_theory.specs.PlanningTask.{PlanningTask}
use Rattle.ep_theory.specs.Plans.{cost_at}

-- 1, or the cost of the action
abbrev pub toll_of : PlanningTask → Measure → ActionId → ℕ
toll_of T Length a = 1
toll_of T Cost a = cost_at T a
