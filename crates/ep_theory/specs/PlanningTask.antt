-- What there is to plan: the planning tasks of Bolander and Andersen, Epistemic planning for single- and multi-agent
-- systems (2011). That a state may have several designated worlds, and that actions have costs, is this project's own.
use Rattle.std.specs.Prelude.{◌≡◌, ◌≤◌, ℕ, List, length}
use Rattle.std.specs.List.{AllByRecursion}
use Rattle.ep_bounds.specs.declared.bounds.TheConstants.{MOST_COST}
use Rattle.ep_logic.specs.declared.limits.TheConstants.{MOST_INITIAL_WORLDS, MOST_AGENTS, MOST_ATOMS, MOST_GROUND_ACTIONS}
use Rattle.ep_logic.specs.declared.formula.Node.{Node}
use Rattle.ep_theory.specs.Kripke.{Kripke, IsState}
use Rattle.ep_theory.specs.Events.{EventModel, IsAction}
use Rattle.ep_theory.specs.Fits.{Fits, ActionFits}
use Rattle.ep_theory.specs.Equivalences.{IsS5, IsS5Action}

-- each action has the cost at its place
pub record PlanningTask : Type 0 where
  pub initial : Kripke
  pub actions : List EventModel
  pub costs : List ℕ
  pub goal : Node

-- a state, actions among its agents, each with a cost of at least 1, and a goal, where all agents and atoms are those of the
-- state
pub record IsPlanningTask (T : PlanningTask) : Type 0 where
  pub initial : IsState T.initial
  pub actions : AllByRecursion IsAction T.actions
  pub costed : length T.costs ≡ length T.actions
  pub costs : AllByRecursion (λ cost. 1 ≤ cost) T.costs
  pub fit : AllByRecursion (ActionFits T.initial) T.actions
  pub goal : Fits T.initial T.goal

-- at most 256 worlds and 1,024 actions, each of a cost of at most 100
pub record IsSmall (T : PlanningTask) : Type 0 where
  pub worlds : T.initial.worlds ≤ MOST_INITIAL_WORLDS
  pub agents : T.initial.agents ≤ MOST_AGENTS
  pub atoms : T.initial.atoms ≤ MOST_ATOMS
  pub actions : length T.actions ≤ MOST_GROUND_ACTIONS
  pub costs : AllByRecursion (λ cost. cost ≤ MOST_COST) T.costs

-- the relations of the initial state and of every action are equivalences
pub record IsS5Task (T : PlanningTask) : Type 0 where
  pub initial : IsS5 T.initial
  pub actions : AllByRecursion IsS5Action T.actions
