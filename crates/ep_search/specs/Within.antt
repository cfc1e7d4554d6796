-- What lies within a bound, by plans and their plain products alone. This project's own.
use Rattle.std.specs.Prelude.{◌≡◌, ℕ, ◌<◌, ◌≤◌, List, take, Some}
use Rattle.ep_bounds.specs.declared.bounds.Bounds.{Bounds}
use Rattle.ep_logic.specs.declared.ids.ActionId.{ActionId}
use Rattle.ep_theory.specs.Kripke.{Kripke}
use Rattle.ep_theory.specs.Bisimulation.{Bisimilar}
use Rattle.ep_theory.specs.Canonical.{Contracts}
use Rattle.ep_theory.specs.PlanningTask.{PlanningTask}
use Rattle.ep_theory.specs.Plans.{after, weight, Reaches}

-- no part of the plan from its start on reaches the goal, nor does the whole plan
abbrev pub IsOpen : PlanningTask → List ActionId → Type 0
IsOpen T p = (n : ℕ) → Reaches T (take n p) → ⊥

-- the plan measures at most the bound, all of its actions apply in turn, and it is open
pub record OpenWithin (T : PlanningTask) (b : Bounds) (p : List ActionId) : Type 0 where
  pub within : weight T b.measure p ≤ b.bound
  pub state : Kripke
  pub is_after : after T p ≡ Some state
  pub open_plan : IsOpen T p

-- the plans do not leave bisimilar states
abbrev pub Apart : PlanningTask → List ActionId → List ActionId → Type 0
Apart T p q = (S R : Kripke) → after T p ≡ Some S → after T q ≡ Some R → Bisimilar S R → ⊥

-- more open plans within the bound than states may be stored leave states that are pairwise not bisimilar
pub record ManyWithin (T : PlanningTask) (b : Bounds) : Type 0 where
  pub plan : ℕ → List ActionId
  pub each : (i : ℕ) → i ≤ b.states → OpenWithin T b (plan i)
  pub apart : (i j : ℕ) → i < j → j ≤ b.states → Apart T (plan i) (plan j)

-- the contraction of the state that the plan leaves has more than w worlds
pub record Wide (T : PlanningTask) (p : List ActionId) (w : ℕ) : Type 0 where
  pub state : Kripke
  pub is_after : after T p ≡ Some state
  pub contraction : Kripke
  pub contracts : Contracts state contraction
  pub wide : w < contraction.worlds

-- an open plan within the bound leaves a state whose contraction has more worlds than it may have
pub record IsWide (T : PlanningTask) (b : Bounds) (p : List ActionId) : Type 0 where
  pub within : OpenWithin T b p
  pub wide : Wide T p b.worlds
