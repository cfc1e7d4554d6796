-- Ground actions, in order.
use Rattle.std.specs.Prelude.{ℕ, Bool, not, List, map, unwrap_or, if◌then◌else◌}
use Rattle.std.specs.List.{flat_map, list_any}
use Rattle.ep_logic.specs.declared.formula.Node.{Node}
use Rattle.ep_theory.specs.Events.{Event, EventModel}
use Rattle.ep_theory.specs.FourActions.{announce, private, sense, assign}
use Rattle.ep_binding.specs.Bindings.{bindings, distinct_bindings, all_different}
use Rattle.ep_tree.specs.declared.tree.Name.{Name}
use Rattle.ep_tree.specs.declared.tree.LinkTree.{LinkTree}
use Rattle.ep_tree.specs.declared.tree.SetTree.{SetTree}
use Rattle.ep_tree.specs.declared.tree.EventTree.{EventTree}
use Rattle.ep_tree.specs.declared.tree.BodyTree.{BodyTree}
use Rattle.ep_tree.specs.declared.tree.BodyTree.TheVariants.{Announce, Private, Sense, Assign, Events}
use Rattle.ep_tree.specs.declared.tree.SchemaTree.{SchemaTree}
use Rattle.ep_types.specs.Tasks.{event_names}
use Rattle.ep_types.specs.declared.scope.Declared.{Declared}
use Rattle.ep_universe.specs.Objects.{Binding, group_of, candidates, bound}
use Rattle.ep_universe.specs.Atoms.{atom_at}
use Rattle.ep_universe.specs.Formulas.{ground_of}
use Rattle.ep_universe.specs.Links.{agent_count, designated_numbers, links_of}

-- the objects that are bound to the parameters of a schema, in order
abbrev pub schema_bindings : Declared → SchemaTree → List (List ℕ)
schema_bindings d s = if s.distinct then distinct_bindings (candidates d s.params) else bindings (candidates d s.params)

abbrev pub set_of : Declared → Binding → SetTree → ℕ × Node
set_of d b s = (atom_at d b s.atom, ground_of d s.value b)

abbrev pub event_of : Declared → Binding → EventTree → Event
event_of d b e = record { pre = ground_of d e.pre b; sets = map (set_of d b) e.sets }

abbrev pub events_of : Declared → Binding → List EventTree → List Name → List LinkTree → EventModel
events_of d b events designated links = record {
  events = map (event_of d b) events;
  links = links_of d b (event_names events) links;
  designated = designated_numbers (event_names events) designated;
}

-- the action of a body under a binding
abbrev pub action_of : Declared → BodyTree → Binding → EventModel
action_of d (Announce f) b = announce (agent_count d) (ground_of d f b)
action_of d (Private f g) b = private (agent_count d) (ground_of d f b) (group_of d b g)
action_of d (Sense f g) b = sense (agent_count d) (ground_of d f b) (group_of d b g)
action_of d (Assign f sets) b = assign (agent_count d) (ground_of d f b) (map (set_of d b) sets)
action_of d (Events events designated links) b = events_of d b events designated links

-- whether an event assigns to one atom twice
abbrev pub assigns_twice : EventModel → Bool
assigns_twice A = list_any (λ e. not (all_different (map (λ s. s.0) e.sets))) A.events

-- the action of a schema at objects
abbrev pub action_at : Declared → SchemaTree → List ℕ → EventModel
action_at d s objects = action_of d s.body (bound s.params objects)

abbrev pub schema_actions : Declared → SchemaTree → List EventModel
schema_actions d s = map (action_at d s) (schema_bindings d s)

-- the schemas in order, each at its bindings
abbrev pub actions_of : Declared → List SchemaTree → List EventModel
actions_of d schemas = flat_map (schema_actions d) schemas

-- ---- costs

-- the cost that a schema states, or 1
abbrev pub cost_of : SchemaTree → ℕ
cost_of s = unwrap_or s.cost 1

abbrev pub schema_costs : Declared → SchemaTree → List ℕ
schema_costs d s = map (λ objects. cost_of s) (schema_bindings d s)

-- the costs of the actions of the schemas, in order
abbrev pub costs_of : Declared → List SchemaTree → List ℕ
costs_of d schemas = flat_map (schema_costs d) schemas
