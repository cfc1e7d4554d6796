use Rattle.std.proofs.Common.{◌≡◌, take}
use Rattle.ep_types.specs.Tasks.{event_names}
use Rattle.ep_schema.proofs.links.event_table.Given as goal

abbrev pub invariant-loop-event : goal.invariant-loop-event
invariant-loop-event l = l.names ≡ event_names (take l.event-index l.events)
