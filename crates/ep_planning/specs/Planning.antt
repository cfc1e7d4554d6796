-- What `plan` answers for its ground task.
use Rattle.std.specs.Prelude.{◌≡◌, ◌⊎◌, ℕ, ◌<◌, ⊤, List, length, map, ◌≤◌}
use Rattle.ep_logic.specs.declared.ids.ActionId.{ActionId}
use Rattle.ep_ground.specs.Task.{GroundTask}
use Rattle.ep_base.specs.Texts.{lines}
use Rattle.ep_plan_text.specs.PlanText.{action_name, plan_text}
use Rattle.ep_plan_text.specs.declared.print.Mark.TheVariants as mark
use Rattle.ep_search.specs.Allowed.{Allowed, IsLeast}
use Rattle.ep_theory.specs.Plans.{weight, Reaches}
use Rattle.ep_search.specs.declared.answer.Answer.{Answer as Found}
use Rattle.ep_search.specs.declared.answer.Answer.TheVariants as found
use Rattle.ep_bounds.specs.declared.bounds.Bounds.{Bounds}
use Rattle.ep_bounds.specs.declared.bounds.Mode.{Mode}
use Rattle.ep_bounds.specs.declared.bounds.Mode.TheVariants as mode
use Rattle.ep_bounds.specs.declared.bounds.TheConstants.{MOST_PLAN_ACTIONS}
use Rattle.ep_answer.specs.declared.answer.Answer.TheVariants.{OfSearch, NoSuchGuide}
use Rattle.ep_answer.specs.declared.planned.Planned.{Planned}
use Rattle.ep_answer.specs.declared.planned.Planned.TheVariants as planned
use Rattle.ep_reading.specs.PlanFile.{AreItsActions}
use Rattle.ep_reading.specs.Served.{Ending, answers}

-- what is reported of an answer within the bounds
abbrev pub planned_of : GroundTask → Bounds → Found → Planned
planned_of g b (found.Least p) = planned.Plan (plan_text g b.measure mark.Least p)
planned_of g b (found.Found p) = planned.Plan (plan_text g b.measure mark.Found p)
planned_of g b found.NoneTo = planned.NoneTo b.measure b.bound
planned_of g b found.ManyStates = planned.ManyStates
planned_of g b (found.Wide p) = planned.WideAfter (length p) (lines (map (action_name g) p))

-- each action is the task's, and there are few enough to be printed
abbrev pub IsPrintable : GroundTask → List ActionId → Type 0
IsPrintable g p = AreItsActions g p × (length p ≤ MOST_PLAN_ACTIONS)

-- the plan of an answer is of the task's actions, and short enough to be printed
abbrev pub HasItsActions : GroundTask → Found → Type 0
HasItsActions g (found.Least p) = IsPrintable g p
HasItsActions g (found.Found p) = IsPrintable g p
HasItsActions g found.NoneTo = ⊤
HasItsActions g found.ManyStates = ⊤
HasItsActions g (found.Wide p) = AreItsActions g p

-- an answer that the task allows, for the bounds and the mode
unfoldable pub Plans : Bounds → Mode → GroundTask → Ending → Type 0
Plans bounds mode g outcome =
    (answer : Found) × Allowed g.problem bounds mode answer × (outcome ≡ answers (OfSearch (planned_of g bounds answer)))

-- a plan is told: a least one, or in the mode First one that is found
abbrev pub TellsPlan : Bounds → Mode → GroundTask → Ending → Type 0
TellsPlan b mode.Prove g outcome = (p : List ActionId) × IsLeast g.problem b p × (outcome ≡ answers (OfSearch (planned_of g b (found.Least p))))
TellsPlan b mode.First g outcome =
    (p : List ActionId) × (weight g.problem b.measure p ≤ b.bound) × Reaches g.problem p × (outcome ≡ answers (OfSearch (planned_of g b (found.Found p))))

-- it is told that no plan within the bound reaches the goal
abbrev pub TellsNone : Bounds → GroundTask → Ending → Type 0
TellsNone b g outcome = outcome ≡ answers (OfSearch (planned_of g b found.NoneTo))

-- a guide by its place, if there is one
abbrev pub Guided : ℕ → ℕ → (Ending → Type 0) → Ending → Type 0
Guided guides place next outcome =
    ((guides ≤ place) × (outcome ≡ answers NoSuchGuide)) ⊎ ((place < guides) × next outcome)
