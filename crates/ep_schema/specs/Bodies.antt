-- What can be built of the body of a schema, whatever the binding.
use Rattle.std.specs.Prelude.{ℕ, ◌<◌, ◌≤◌, List, length, IsTrue, All as Each}
use Rattle.ep_binding.specs.declared.limits.TheConstants.{MOST_PARAMETERS}
use Rattle.ep_logic.specs.declared.limits.TheConstants.{MOST_EVENTS}
use Rattle.ep_tree.specs.declared.tree.Name.{Name}
use Rattle.ep_tree.specs.declared.tree.LinkTree.{LinkTree}
use Rattle.ep_tree.specs.declared.tree.SetTree.{SetTree}
use Rattle.ep_tree.specs.declared.tree.EventTree.{EventTree}
use Rattle.ep_tree.specs.declared.tree.BodyTree.{BodyTree}
use Rattle.ep_tree.specs.declared.tree.BodyTree.TheVariants.{Announce, Private, Sense, Assign, Events}
use Rattle.ep_tree.specs.declared.tree.SchemaTree.{SchemaTree}
use Rattle.ep_types.specs.Tasks.{event_names}
use Rattle.ep_types.specs.declared.scope.Declared.{Declared}
use Rattle.ep_universe.specs.Links.{AreEnds}
use Rattle.ep_universe.specs.Sizes.{has_member, IsBuildable}
use Rattle.ep_schema.specs.Actions.{schema_bindings}

-- the events that a body writes
abbrev pub event_count : BodyTree → ℕ
event_count (Events events designated links) = length events
event_count _ = 0

abbrev pub AreBuildableSets : Declared → List SetTree → Type 0
AreBuildableSets d sets = Each (λ s. IsBuildable d s.value) sets

pub record IsBuildableEvent (d : Declared) (e : EventTree) : Type 0 where
  pub pre : IsBuildable d e.pre
  pub sets : AreBuildableSets d e.sets

-- few enough events
pub record AreBuildableEvents (d : Declared) (events : List EventTree) (designated : List Name) (links : List LinkTree) : Type 0 where
  pub few_events : length events ≤ MOST_EVENTS
  pub formulas : Each (IsBuildableEvent d) events
  pub ends : AreEnds (event_names events) designated links

-- each formula is within the limits, no group is empty, and there are few enough events
abbrev pub IsBuildableBody : Declared → BodyTree → Type 0
IsBuildableBody d (Announce f) = IsBuildable d f
IsBuildableBody d (Private f g) = IsBuildable d f × IsTrue (has_member g)
IsBuildableBody d (Sense f g) = IsBuildable d f × IsTrue (has_member g)
IsBuildableBody d (Assign f sets) = IsBuildable d f × AreBuildableSets d sets
IsBuildableBody d (Events events designated links) = AreBuildableEvents d events designated links

-- few enough parameters, and a body that can be built where there is a binding
pub record IsBuildableSchema (d : Declared) (s : SchemaTree) : Type 0 where
  pub few_params : length s.params ≤ MOST_PARAMETERS
  pub buildable : 0 < length (schema_bindings d s) → IsBuildableBody d s.body
