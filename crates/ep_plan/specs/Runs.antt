-- Runs of a plan under a size, in plain products: the first step whose product is not there, or is larger, decides.
-- This project's own.
use Rattle.std.specs.Prelude.{◌≡◌, ℕ, ◌+◌, ◌<◌, List, Some, length, take, slice_get}
use Rattle.std.specs.List.{AllByRecursion}
use Rattle.ep_logic.specs.declared.ids.ActionId.{ActionId}
use Rattle.ep_theory.specs.Kripke.{Kripke}
use Rattle.ep_theory.specs.Events.{EventModel}
use Rattle.ep_theory.specs.Product.{IsApplicable, product_of}
use Rattle.ep_update.specs.declared.update.Size.{Size}
use Rattle.ep_update.specs.declared.update.UpdateError.TheVariants.{TooManyWorlds, TooManyLinks}
use Rattle.ep_update.specs.Updates.{IsWithin, IsFault}
use Rattle.ep_theory.specs.PlanningTask.{PlanningTask}
use Rattle.ep_theory.specs.Plans.{after}
use Rattle.ep_plan.specs.declared.runs.Outcome.{Outcome}
use Rattle.ep_plan.specs.declared.runs.Outcome.TheVariants.{After, Stuck, SpentWorlds, SpentLinks}

-- the first n actions of the plan leave the state S, and A is the action that the plan has next
pub record IsNext (T : PlanningTask) (p : List ActionId) (n : ℕ) (S : Kripke) (A : EventModel) : Type 0 where
  pub place : ActionId
  pub leaves : after T (take n p) ≡ Some S
  pub listed : slice_get p n ≡ Some place
  pub action : slice_get T.actions place.n ≡ Some A

-- after the first n actions the next one is applicable, and the product is within the size
pub record IsMade (T : PlanningTask) (p : List ActionId) (size : Size) (n : ℕ) : Type 0 where
  pub state : Kripke
  pub action : EventModel
  pub next : IsNext T p n state action
  pub applicable : IsApplicable state action
  pub within : IsWithin size (product_of state action)

-- every step is made, and the plan leaves the state S
pub record IsThrough (T : PlanningTask) (p : List ActionId) (size : Size) (S : Kripke) : Type 0 where
  pub made : (n : ℕ) → n < length p → IsMade T p size n
  pub leaves : after T p ≡ Some S

-- step k, counted from 1, is the first that is not made, for what is said of its state and its action
pub record StopsAt (T : PlanningTask) (p : List ActionId) (size : Size) (k : ℕ) (Reason : Kripke → EventModel → Type 0) : Type 0 where
  pub before : ℕ
  pub counted : k ≡ before + 1
  pub made : (n : ℕ) → n < before → IsMade T p size n
  pub state : Kripke
  pub action : EventModel
  pub next : IsNext T p before state action
  pub reason : Reason state action

-- what the run comes to; within a step the order is applicability, worlds, links, and the numbers are exact
abbrev pub RunUnder : PlanningTask → List ActionId → Size → Outcome → Type 0
RunUnder T p size (After S) = IsThrough T p size S
RunUnder T p size (Stuck k) = StopsAt T p size k (λ S A. ¬ IsApplicable S A)
RunUnder T p size (SpentWorlds k n) = StopsAt T p size k (λ S A. IsFault S A size (TooManyWorlds n))
RunUnder T p size (SpentLinks k n) = StopsAt T p size k (λ S A. IsFault S A size (TooManyLinks n))

-- how many products were asked for, of a plan of so many actions
abbrev pub product_count : ℕ → Outcome → ℕ
product_count actions (After S) = actions
product_count actions (Stuck k) = k
product_count actions (SpentWorlds k n) = k
product_count actions (SpentLinks k n) = k

-- each action is one of the task's
abbrev pub AreOf : PlanningTask → List ActionId → Type 0
AreOf T p = AllByRecursion (λ a. a.n < length T.actions) p
