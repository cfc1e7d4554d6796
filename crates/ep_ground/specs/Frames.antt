-- The relations of a task that says `frames s5;`: the first that is no equivalence.
use Rattle.std.specs.Prelude.{ℕ, not, List, ◌∷◌, length, map, zip, find, Option, None, option_map, if◌then◌else◌}
use Rattle.ep_base.specs.Refusals.{first_some}
use Rattle.ep_theory.specs.Events.{EventModel}
use Rattle.ep_theory.specs.Kripke.{Kripke}
use Rattle.ep_theory.specs.Equivalences.{is_equivalence}
use Rattle.ep_tree.specs.declared.tree.TaskTree.{TaskTree}
use Rattle.ep_types.specs.Names.{Text}
use Rattle.ep_types.specs.declared.scope.Declared.{Declared}
use Rattle.ep_universe.specs.PrintedNames.{agent_names}
use Rattle.ep_initial.specs.Initial.{initial_of}
use Rattle.ep_schema.specs.ActionNames.{action_names}
use Rattle.ep_schema.specs.Actions.{actions_of}
use Rattle.ep_ground.specs.declared.fault.GroundError.{GroundError}
use Rattle.ep_ground.specs.declared.fault.GroundError.TheVariants as fault
use Rattle.ep_ground.specs.declared.fault.S5Place.TheVariants as place

-- the name of the first agent whose pairs are no equivalence of so many
abbrev pub unequal_agent : List Text → ℕ → List (List (ℕ × ℕ)) → Option Text
unequal_agent agents n links = option_map (λ p. p.0) (find (λ p. not (is_equivalence n p.1)) (zip agents links))

abbrev pub unequal_state : List Text → Kripke → Option GroundError
unequal_state agents S = option_map (fault.NotS5 place.Initial) (unequal_agent agents S.worlds S.links)

-- of an action with its printed name
abbrev pub unequal_action : List Text → Text × EventModel → Option GroundError
unequal_action agents p = option_map (fault.NotS5 (place.Action p.0)) (unequal_agent agents (length p.1.events) p.1.links)

-- the initial state before the actions in order, and in each the first agent
abbrev pub first_unequal : List Text → List Text → Kripke → List EventModel → Option GroundError
first_unequal agents names S actions = first_some (unequal_state agents S ∷ map (unequal_action agents) (zip names actions))

-- where the task says that relations are equivalences
abbrev pub not_s5 : Declared → TaskTree → Option GroundError
not_s5 d t = if t.s5 then first_unequal (agent_names d) (action_names d t.schemas) (initial_of d t.init) (actions_of d t.schemas) else None
