-- Runs of plans. This project's own, after the sequential plans of Bolander and Andersen, Epistemic planning for
-- single- and multi-agent systems (2011): a plan is a list of actions, and every action has to be applicable in the
-- state that those before it leave.
use Rattle.std.specs.Prelude.{◌≡◌, ℕ, List, [], ◌∷◌, length, map, sum, Option, Some, None, slice_get, slice_index_or, option_and_then}
use Rattle.ep_bounds.specs.declared.bounds.Measure.{Measure}
use Rattle.ep_bounds.specs.declared.bounds.Measure.TheVariants.{Length, Cost}
use Rattle.ep_logic.specs.declared.ids.ActionId.{ActionId}
use Rattle.ep_theory.specs.Kripke.{Kripke}
use Rattle.ep_theory.specs.Truth.{Satisfies}
use Rattle.ep_theory.specs.Events.{EventModel}
use Rattle.ep_theory.specs.Product.{stuck_world, product_of}
use Rattle.ep_theory.specs.PlanningTask.{PlanningTask}

-- the product, where no world is stuck
abbrev pub product_unless : Option ℕ → Kripke → EventModel → Option Kripke
product_unless None S A = Some (product_of S A)
product_unless (Some w) S A = None

-- the product with an action of the task, where there is such an action and it is applicable (law `step_is_the_product`)
unfoldable pub step : PlanningTask → Kripke → ActionId → Option Kripke
step T S a = option_and_then (λ A. product_unless (stuck_world S A) S A) (slice_get T.actions a.n)

-- the state that the actions leave when they are done in turn from S, if each is applicable in its turn
abbrev pub after_from : PlanningTask → Kripke → List ActionId → Option Kripke
after_from T S [] = Some S
after_from T S (a ∷ p) = option_and_then (λ R. after_from T R p) (step T S a)

-- the state that a plan leaves
abbrev pub after : PlanningTask → List ActionId → Option Kripke
after T p = after_from T T.initial p

-- the plan leaves a state that satisfies the goal
pub record Reaches (T : PlanningTask) (p : List ActionId) : Type 0 where
  pub state : Kripke
  pub is_after : after T p ≡ Some state
  pub goal : Satisfies state T.goal

-- the cost of the action at a place
abbrev pub cost_at : PlanningTask → ActionId → ℕ
cost_at T a = slice_index_or T.costs a.n 0

-- what a plan measures: its number of actions, or the sum of their costs
abbrev pub weight : PlanningTask → Measure → List ActionId → ℕ
weight T Length p = length p
weight T Cost p = sum (map (cost_at T) p)
