-- The parts of a general action.
use Rattle.std.specs.Prelude.{◌≡◌, List, map}
use Rattle.ep_event.specs.declared.parts.ActionParts.{ActionParts}
use Rattle.ep_event.specs.Built.{event_of as built_event}
use Rattle.ep_tree.specs.declared.tree.Name.{Name}
use Rattle.ep_tree.specs.declared.tree.LinkTree.{LinkTree}
use Rattle.ep_tree.specs.declared.tree.EventTree.{EventTree}
use Rattle.ep_types.specs.Tasks.{event_names}
use Rattle.ep_types.specs.declared.scope.Declared.{Declared}
use Rattle.ep_universe.specs.Links.{agent_count, agent_pairs, place_of}
use Rattle.ep_universe.specs.Objects.{Binding}
use Rattle.ep_schema.specs.Actions.{event_of}
use Rattle.ep_schema.specs.Made.{event, event_links}

-- the parts that a general action is built from
pub record AreParts (d : Declared) (b : Binding) (trees : List EventTree) (chosen : List Name) (items : List LinkTree) (p : ActionParts) : Type 0 where
  pub agents : p.agents ≡ agent_count d
  pub events : map built_event p.events ≡ map (event_of d b) trees
  pub links : p.links ≡ event_links (agent_pairs d b (event_names trees) items) (agent_count d)
  pub designated : p.designated ≡ map (λ x. event (place_of (event_names trees) x)) chosen
