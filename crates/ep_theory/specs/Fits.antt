-- Formulas and actions whose agents and atoms are those of a state. This project's own.
use Rattle.std.specs.Prelude.{◌≡◌, ℕ, ◌<◌, Bool, true, ◌&&◌, nat_lt, drop, length, IsTrue, sum_by}
use Rattle.std.specs.List.{AllByRecursion, list_all}
use Rattle.ep_logic.specs.AgentSets.{is_nobody}
use Rattle.ep_logic.specs.declared.formula.Node.{Node}
use Rattle.ep_logic.specs.declared.formula.Node.TheOpen.{Node-F}
use Rattle.ep_logic.specs.declared.formula.Node.TheFolds.{fold-Node}
use Rattle.ep_theory.specs.Kripke.{Kripke}
use Rattle.ep_theory.specs.Events.{Event, EventModel}

-- one node, where each part says whether it fits
abbrev pub fit_step : ℕ → ℕ → Node-F Bool → Bool
fit_step agents atoms Node-F.True = true
fit_step agents atoms Node-F.False = true
fit_step agents atoms (Node-F.Atom p) = nat_lt p.n atoms
fit_step agents atoms (Node-F.Not f) = f
fit_step agents atoms (Node-F.And fs) = list_all (λ f. f) fs
fit_step agents atoms (Node-F.Or fs) = list_all (λ f. f) fs
fit_step agents atoms (Node-F.Knows a f) = nat_lt a.n agents && f
fit_step agents atoms (Node-F.Common g f) = is_nobody (drop agents g) && f

-- every agent and atom of the formula is below these numbers
abbrev pub fits_in : ℕ → ℕ → Node → Bool
fits_in agents atoms = fold-Node Bool (fit_step agents atoms)

-- every agent and atom of the formula is one of the state
abbrev pub Fits : Kripke → Node → Type 0
Fits S f = IsTrue (fits_in S.agents S.atoms f)

-- the atom and the formula of an assignment
abbrev pub SetFits : Kripke → ℕ × Node → Type 0
SetFits S set = (set.0 < S.atoms) × Fits S set.1

-- an event with its precondition and its assignments
pub record EventFits (S : Kripke) (event : Event) : Type 0 where
  pub pre : Fits S event.pre
  pub sets : AllByRecursion (SetFits S) event.sets

-- an action among the agents of the state, each of whose events fits
pub record ActionFits (S : Kripke) (A : EventModel) : Type 0 where
  pub agents : length A.links ≡ S.agents
  pub events : AllByRecursion (EventFits S) A.events

-- the number of links of all agents
abbrev pub link_count : Kripke → ℕ
link_count S = sum_by length S.links
