-- Lists of weighed states that a plan within a bound never leaves. This project's own.
use Rattle.std.specs.Prelude.{◌≡◌, ℕ, ◌+◌, ◌≤◌, ◌⊎◌, List, length, Some, slice_get}
use Rattle.std.specs.List.{AllByRecursion}
use Rattle.ep_bounds.specs.declared.bounds.Measure.TheVariants.{Cost}
use Rattle.ep_bounds.specs.declared.bounds.TheConstants.{MOST_STATES, MOST_WORLDS}
use Rattle.ep_logic.specs.declared.ids.ActionId.{ActionId}
use Rattle.ep_theory.specs.Kripke.{Kripke, IsState}
use Rattle.ep_theory.specs.Truth.{Satisfies}
use Rattle.ep_theory.specs.Events.{EventModel}
use Rattle.ep_theory.specs.Product.{IsApplicable, product_of}
use Rattle.ep_theory.specs.Bisimulation.{Bisimilar}
use Rattle.ep_theory.specs.PlanningTask.{PlanningTask}
use Rattle.ep_theory.specs.Plans.{Reaches, cost_at, weight}

-- no plan of at most this cost reaches the goal
abbrev pub HasNoPlan : PlanningTask → ℕ → Type 0
HasNoPlan T bound = (p : List ActionId) → weight T Cost p ≤ bound → Reaches T p → ⊥

-- a state among the agents and atoms of the task, of a weight within the bound, that does not satisfy the goal
pub record MayStand (T : PlanningTask) (bound : ℕ) (e : Kripke × ℕ) : Type 0 where
  pub valid : IsState e.0
  pub agents : e.0.agents ≡ T.initial.agents
  pub atoms : e.0.atoms ≡ T.initial.atoms
  pub narrow : e.0.worlds ≤ MOST_WORLDS
  pub cheap : e.1 ≤ bound
  pub unmet : Satisfies e.0 T.goal → ⊥

-- some entry of at most this weight is bisimilar to S
pub record Stands (entries : List (Kripke × ℕ)) (most : ℕ) (S : Kripke) : Type 0 where
  pub place : ℕ
  pub entry : Kripke × ℕ
  pub at : slice_get entries place ≡ Some entry
  pub cheap : entry.1 ≤ most
  pub alike : Bisimilar S entry.0

-- where action a is within the bound in the entry, it is not applicable there, or its product stands in the list
abbrev pub IsTried : PlanningTask → ℕ → List (Kripke × ℕ) → Kripke × ℕ → ActionId → Type 0
IsTried T bound entries e a = (A : EventModel) → slice_get T.actions a.n ≡ Some A → e.1 + cost_at T a ≤ bound →
    (IsApplicable e.0 A → ⊥) ⊎ Stands entries (e.1 + cost_at T a) (product_of e.0 A)

-- The list begins with the initial state at weight 0, and each action was tried in each entry. Such a list has no plan
-- within the bound (law `a_closed_list_excludes_plans`).
pub record Closed (T : PlanningTask) (bound : ℕ) (entries : List (Kripke × ℕ)) : Type 0 where
  pub few : length entries ≤ MOST_STATES
  pub first : Stands entries 0 T.initial
  pub each : AllByRecursion (MayStand T bound) entries
  pub tried : (i : ℕ) (a : ActionId) (e : Kripke × ℕ) → slice_get entries i ≡ Some e → IsTried T bound entries e a
