-- The limits on ground actions and ground formulas: the rows of a table in their order, each with its exact count.
use Rattle.std.specs.Prelude.{ℕ, ◌*◌, Bool, ◌&&◌, nat_lt, List, [], ◌∷◌, length, map, sum, Option, option_map}
use Rattle.std.specs.List.{find, range_with_len, zip}
use Rattle.ep_base.specs.Refusals.{above, first_some}
use Rattle.ep_logic.specs.declared.limits.TheConstants.{MOST_EVENTS, MOST_GROUND_ACTIONS}
use Rattle.ep_ground.specs.declared.limits.TheConstants.{MOST_TASK_NODES}
use Rattle.ep_universe.specs.declared.limits.TheConstants.{MOST_GROUND_NODES}
use Rattle.ep_tree.specs.declared.tree.SchemaTree.{SchemaTree}
use Rattle.ep_tree.specs.declared.tree.TaskTree.{TaskTree}
use Rattle.ep_types.specs.declared.scope.Declared.{Declared}
use Rattle.ep_ground.specs.declared.fault.GroundError.{GroundError}
use Rattle.ep_ground.specs.declared.fault.GroundError.TheVariants as fault
use Rattle.ep_universe.specs.Counts.{ground_count}
use Rattle.ep_schema.specs.Actions.{actions_of}
use Rattle.ep_schema.specs.Bodies.{event_count}
use Rattle.ep_universe.specs.FirstToken.{first_token}
use Rattle.ep_schema.specs.Written.{Written}
use Rattle.ep_ground.specs.Written.{task_formulas}

-- whether a schema writes too many events
abbrev pub has_many_events : ℕ × SchemaTree → Bool
has_many_events s = nat_lt MOST_EVENTS (event_count s.1.body)

abbrev pub many_events : ℕ × SchemaTree → GroundError
many_events s = fault.TooManyEvents s.0 (event_count s.1.body)

-- the first schema that does, by its number
abbrev pub too_many_events : List SchemaTree → Option GroundError
too_many_events ss = option_map many_events (find has_many_events (zip (range_with_len 0 (length ss)) ss))

-- a ground form that is too large, where there is one
abbrev pub is_too_large : Declared → Written → Bool
is_too_large d x = nat_lt 0 x.times && nat_lt MOST_GROUND_NODES (ground_count d x.formula)

abbrev pub too_large_formula : Written → GroundError
too_large_formula x = fault.TooLargeFormula (first_token x.formula)

-- the first formula with a ground form that is too large
abbrev pub too_large : Declared → List Written → Option GroundError
too_large d xs = option_map too_large_formula (find (is_too_large d) xs)

-- the nodes of all ground forms of a formula
abbrev pub nodes_of : Declared → Written → ℕ
nodes_of d x = x.times * ground_count d x.formula

-- and of formulas
abbrev pub node_total : Declared → List Written → ℕ
node_total d xs = sum (map (nodes_of d) xs)

-- what is told of a universe before any action is made
abbrev pub limit_fault : Declared → TaskTree → Option GroundError
limit_fault d t = first_some (
    above MOST_GROUND_ACTIONS fault.TooManyActions (length (actions_of d t.schemas))
    ∷ too_many_events t.schemas
    ∷ too_large d (task_formulas d t)
    ∷ above MOST_TASK_NODES fault.TooLargeTask (node_total d (task_formulas d t))
    ∷ [])
