-- What evaluations of formulas that look ahead answer.
use Rattle.std.specs.Prelude.{[], Ok, MatchOption, not, ◌≢◌, ◌≡◌, ℕ, ◌<◌, ◌↔◌, ◌⊎◌, Bool, List, length, map, IsTrue, Option, Some, None, Result, MatchResult}
use Rattle.std.specs.List.{AllByRecursion}
use Rattle.ep_base.specs.Refusals.{Reports}
use Rattle.ep_logic.specs.Numbers.{table}
use Rattle.ep_theory.specs.Rising.{IsIn}
use Rattle.ep_theory.specs.Kripke.{Kripke}
use Rattle.ep_theory.specs.Truth.{Either}
use Rattle.ep_theory.specs.Events.{EventModel}
use Rattle.ep_theory.specs.Product.{places, place_at, product_of}
use Rattle.ep_theory.specs.PlanningTask.{PlanningTask}
use Rattle.ep_truth.specs.Labels.{knows_test}
use Rattle.ep_logic.specs.Rows.{value_at}
use Rattle.ep_truth.specs.Common.{AllWalks}
use Rattle.ep_dynamic.specs.declared.node.DynNode.{DynNode}
use Rattle.ep_update.specs.Ahead.{openings}
use Rattle.ep_dynamic.specs.declared.truths.Ahead.{Ahead}
use Rattle.ep_dynamic.specs.declared.truths.DynFail.{DynFail}
use Rattle.ep_dynamic.specs.declared.truths.DynFail.TheVariants.{OutOfMemory}
use Rattle.ep_dynamic.specs.DynamicTruth.{DynTruth}
use Rattle.ep_dynamic.specs.DynamicFits.{fits_task}
use Rattle.ep_dynamic.specs.Made.{opened, made, made_by_all, spent_by, first_spent}

-- the row says at each world whether the fact holds
pub record Says (n : ℕ) (P : ℕ → Type 0) (row : List Bool) : Type 0 where
  pub long : length row ≡ n
  pub each : (w : ℕ) → w < n → IsTrue (value_at row w) ↔ P w

-- the row says where the formula is true
abbrev pub SaysTruth : PlanningTask → Kripke → DynNode → List Bool → Type 0
SaysTruth T S f row = Says S.worlds (λ w. DynTruth T.actions S w f) row

-- the row says where all the formulas are true
abbrev pub SaysEach : PlanningTask → Kripke → List DynNode → List Bool → Type 0
SaysEach T S fs row = Says S.worlds (λ w. AllByRecursion (DynTruth T.actions S w) fs) row

-- the row says where one of the formulas is true
abbrev pub SaysEither : PlanningTask → Kripke → List DynNode → List Bool → Type 0
SaysEither T S fs row = Says S.worlds (λ w. Either (DynTruth T.actions S w) fs) row

-- the refusal that the formula has on the state
abbrev pub spent : PlanningTask → Kripke → DynNode → Option DynFail
spent T S f = first_spent (made T.actions S f)

-- the refusal that the formulas have on the state, from left to right
abbrev pub all_spent : PlanningTask → Kripke → List DynNode → Option DynFail
all_spent T S fs = first_spent (made_by_all (map (λ f R. made T.actions R f) fs) S)

-- the answer for a formula: where it is true, if no product that it needs is too large
abbrev pub Labels : PlanningTask → Kripke → DynNode → Result (List Bool) DynFail → Type 0
Labels T S f r = MatchResult r (λ row. SaysTruth T S f row × (spent T S f ≡ None)) (Reports OutOfMemory (spent T S f))

-- the same for all the formulas
abbrev pub LabelsEach : PlanningTask → Kripke → List DynNode → Result (List Bool) DynFail → Type 0
LabelsEach T S fs r = MatchResult r (λ row. SaysEach T S fs row × (all_spent T S fs ≡ None)) (Reports OutOfMemory (all_spent T S fs))

-- and for one of them
abbrev pub LabelsEither : PlanningTask → Kripke → List DynNode → Result (List Bool) DynFail → Type 0
LabelsEither T S fs r = MatchResult r (λ row. SaysEither T S fs row × (all_spent T S fs ≡ None)) (Reports OutOfMemory (all_spent T S fs))

-- a state with the agents and atoms of the task
pub record IsAmong (T : PlanningTask) (S : Kripke) : Type 0 where
  pub agents : S.agents ≡ T.initial.agents
  pub atoms : S.atoms ≡ T.initial.atoms

-- the agents, atoms and actions of the formula are those of the task
abbrev pub FitsTask : PlanningTask → DynNode → Type 0
FitsTask T f = IsTrue (fits_task T.initial.agents T.initial.atoms (length T.actions) f)

-- the row is true at each pair before place n that has the world and a designated event
abbrev pub HoldsBefore : ℕ → Kripke → EventModel → List Bool → ℕ → Type 0
HoldsBefore n S A inner w = (i : ℕ) → i < n → (place_at S A i).0 ≡ w → IsIn (place_at S A i).1 A.designated → IsTrue (value_at inner i)

-- the row is true at each pair of the world and a designated event
abbrev pub HoldsBehind : Kripke → EventModel → List Bool → ℕ → Type 0
HoldsBehind S A inner w = HoldsBefore (length (places S A)) S A inner w

-- each value is the other of that of the row
abbrev pub IsTurned : Result (List Bool) DynFail → List Bool → Type 0
IsTurned inner new = (row : List Bool) × (inner ≡ Ok row) × (new ≡ map not row)

-- true where the agent knows what the row says
abbrev pub IsKnown : Kripke → ℕ → Result (List Bool) DynFail → List Bool → Type 0
IsKnown S a inner new = (row : List Bool) × (inner ≡ Ok row) × (new ≡ table (knows_test S a row) S.worlds)

-- true where what the row says is common knowledge of the group
abbrev pub IsShared : Kripke → List Bool → Result (List Bool) DynFail → List Bool → Type 0
IsShared S g inner new = (row : List Bool) × (inner ≡ Ok row) × Says S.worlds (AllWalks S g row) new

-- true where the row is true at each pair of the world and a designated event
abbrev pub IsBehind : Kripke → EventModel → Result (List Bool) DynFail → List Bool → Type 0
IsBehind S A inner new = (row : List Bool) × (inner ≡ Ok row) × Says S.worlds (HoldsBehind S A row) new

-- the product of the action and its pairs, where some designated event may happen and the product is not too large
pub record IsAhead (S : Kripke) (A : EventModel) (h : Ahead) : Type 0 where
  pub opens : openings S A ≢ []
  pub product : h.product ≡ product_of (opened S A) A
  pub small : spent_by h.product ≡ None
  pub places : h.places ≡ places S A

-- what an action leads to, nothing where it may happen nowhere, or the refusal of its product
abbrev pub Foresees : Kripke → EventModel → Result (Option Ahead) DynFail → Type 0
Foresees S A r = MatchResult r (λ o. MatchOption o (openings S A ≡ []) (IsAhead S A))
    (λ e. (e ≡ OutOfMemory) ⊎ ((openings S A ≢ []) × (spent_by (product_of (opened S A) A) ≡ Some e)))
