use Rattle.std.proofs.Common.{◌≡◌, map, take}
use Rattle.ep_event.specs.Built.{event_of as built_event}
use Rattle.ep_schema.specs.Actions.{event_of}
use Rattle.ep_schema.proofs.actions.all_events.Given as goal

abbrev pub invariant-loop-tree : goal.invariant-loop-tree
invariant-loop-tree l = map built_event l.parts ≡ map (event_of l.universe.names l.binding) (take l.tree-index l.events)
