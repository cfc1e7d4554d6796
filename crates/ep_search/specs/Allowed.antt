-- What a search may answer within bounds. This project's own.
use Rattle.std.specs.Prelude.{◌≡◌, ℕ, ◌<◌, ◌≤◌, ◌⊎◌, ◌↔◌, List, []}
use Rattle.ep_logic.specs.declared.ids.ActionId.{ActionId}
use Rattle.ep_theory.specs.PlanningTask.{PlanningTask}
use Rattle.ep_search.specs.declared.answer.Answer.{Answer}
use Rattle.ep_search.specs.Within.{ManyWithin, IsWide}
use Rattle.ep_base.specs.Counts.{Rose}
use Rattle.ep_theory.specs.Plans.{weight, Reaches}
use Rattle.ep_bounds.specs.declared.bounds.Bounds.{Bounds}
use Rattle.ep_bounds.specs.declared.bounds.Mode.{Mode}
use Rattle.ep_bounds.specs.declared.bounds.Mode.TheVariants as mode
use Rattle.ep_search.specs.declared.answer.Answer.TheVariants as answer

-- no plan within the bound reaches the goal
abbrev pub NoneWithin : PlanningTask → Bounds → Type 0
NoneWithin T b = (q : List ActionId) → weight T b.measure q ≤ b.bound → Reaches T q → ⊥

-- the plan measures at most the bound and reaches the goal, and no list of actions that measures less does
pub record IsLeast (T : PlanningTask) (b : Bounds) (p : List ActionId) : Type 0 where
  pub within : weight T b.measure p ≤ b.bound
  pub reaches : Reaches T p
  pub least : (q : List ActionId) → weight T b.measure q < weight T b.measure p → Reaches T q → ⊥

-- more states than may be stored, or a state of more worlds than it may have, lie within the bound
abbrev pub IsSpent : PlanningTask → Bounds → Type 0
IsSpent T b = ManyWithin T b ⊎ ((p : List ActionId) × IsWide T b p)

-- the plan reaches the goal; that another may measure less is what was asked for, or a budget is too small
pub record IsFound (T : PlanningTask) (b : Bounds) (m : Mode) (p : List ActionId) : Type 0 where
  pub within : weight T b.measure p ≤ b.bound
  pub reaches : Reaches T p
  pub cause : (m ≡ mode.First) ⊎ IsSpent T b

-- the answer is right, whatever else holds
abbrev pub Allowed : PlanningTask → Bounds → Mode → Answer → Type 0
Allowed T b m (answer.Least p) = (m ≡ mode.Prove) × IsLeast T b p
Allowed T b m (answer.Found p) = IsFound T b m p
Allowed T b m answer.NoneTo = NoneWithin T b
Allowed T b m answer.ManyStates = ManyWithin T b
Allowed T b m (answer.Wide p) = IsWide T b p

-- a guide was asked where the answer is a plan that is not empty, or none under a bound of at least 1
abbrev pub WasAsked : ℕ → Answer → ℕ → ℕ → Type 0
WasAsked bound (answer.Least p) old new = (p ≡ [] → ⊥) → Rose old new
WasAsked bound (answer.Found p) old new = (p ≡ [] → ⊥) → Rose old new
WasAsked bound answer.NoneTo old new = 1 ≤ bound → Rose old new
WasAsked bound answer.ManyStates old new = Unit {0}
WasAsked bound (answer.Wide p) old new = Unit {0}

-- the answer is the plan of this mode
abbrev pub IsPlanOfMode : Mode → Answer → Type 0
IsPlanOfMode mode.Prove (answer.Least p) = Unit {0}
IsPlanOfMode mode.First (answer.Found p) = Unit {0}
IsPlanOfMode m a = ⊥

-- some plan within the bound reaches the goal
abbrev pub SomeWithin : PlanningTask → Bounds → Type 0
SomeWithin T b = (q : List ActionId) × (weight T b.measure q ≤ b.bound) × Reaches T q

-- where no budget is too small, the answer is the plan of the mode exactly if some plan reaches the goal, and `NoneTo`
-- exactly if none does
pub record Completes (T : PlanningTask) (b : Bounds) (m : Mode) (a : Answer) : Type 0 where
  pub plan : (IsSpent T b → ⊥) → IsPlanOfMode m a ↔ SomeWithin T b
  pub none : (IsSpent T b → ⊥) → (a ≡ answer.NoneTo) ↔ NoneWithin T b
